use Rattle.std.proofs.Common.{arith, sym, ap, ◌∙◌}
use Rattle.module_record.specs.ModuleReading.{module_at}
use Rattle.module_record.proofs.ModuleLaws.{none_read, one_read}
use Rattle.module_record.proofs.module_reading.read_module.Goals as goal

pub returns-in_default : goal.returns-in_default
returns-in_default c = record {
  spelled = none_read c.args.bytes.now
      (ap module_at (sym c.new.ensures.all) ∙ c.in_default.ensures.exact);
}

pub returns : goal.returns
returns c = record {
  spelled = one_read c.args.bytes.now _ _ (λ i. omega (arith, c.type_inv.bytes i))
      (ap module_at (sym c.new.ensures.all) ∙ c.in-Some.ensures.exact) c.make_module.result c.make_module.ensures;
}
