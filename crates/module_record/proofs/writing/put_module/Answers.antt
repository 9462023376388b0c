use Rattle.std.proofs.Common.{length, ◌∙◌}
use Rattle.module_record.proofs.WritingLemmas.{few_put}
use Rattle.module_record.proofs.writing.put_module.Goals as goal

pub returns-clause-most : goal.returns-clause-most
returns-clause-most c = λ limits short.
    few_put c.put_tlv.result c.args.holder.now c.deref.result.now (length c.put_tlv.new.out.items)
    (length c.args.out.now.items) (c.deref.ensures.value ∙ c.in_ok-contents.ensures.ok) c.put_tlv.ensures.most limits
    short
