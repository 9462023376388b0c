use Rattle.bank_layout.proofs.Holders.{one_holder, one_store}
use Rattle.bank_layout.proofs.laws.each_image_has_one_holder.Goals as goal

pub returns-clause-one : goal.returns-clause-one
returns-clause-one c = one_holder (record {
  keys = c.one_key_record_each.ensures.unique;
  modules = c.one_module_record_each.ensures.unique;
  apart = c.records_tell_their_kind.ensures;
})

pub returns-clause-store : goal.returns-clause-store
returns-clause-store c = one_store (record {
  keys = c.one_key_record_each.ensures.unique;
  modules = c.one_module_record_each.ensures.unique;
  apart = c.records_tell_their_kind.ensures;
})
