use Rattle.std.proofs.Common.{◌∙◌, refl, sym, ap, inl, inr, arith, rules, length}
use Rattle.std.proofs.lemmas.Option.{none-some}
use Rattle.module_record.specs.ModuleView.{module_parts}
use Rattle.module_record.proofs.ModuleLaws.{no_module, that_module, bad_count}
use Rattle.module_record.proofs.module_reading.make_module.Goals.{then-count-eq0-via-then-count-eq0, then-count-eq0-via-else-count-eq0+then-count-gt-MOST_ANCHORS}
use Rattle.module_record.proofs.module_reading.make_module.Goals as goal

pub returns-in_default-3 : goal.returns-in_default-3
returns-in_default-3 c =
    no_module (module_parts c.args.fields)
    (λ m h. none-some m.anchors (sym c.in_default-3.is ∙ (c.in_ok-anchors.ensures m.anchors).1 h.anchors))

pub returns-then-count-eq0 : goal.returns-then-count-eq0
returns-then-count-eq0 c =
    no_module (module_parts c.args.fields) (bad_count c.in-Some-3.anchors (module_parts c.args.fields)
    (elim c.then-count-eq0.branch [
      | then-count-eq0-via-then-count-eq0 w ↦ inl (omega (arith, ap length c.as_slice-count.ensures.anchors))
      | then-count-eq0-via-else-count-eq0+then-count-gt-MOST_ANCHORS w ↦ inr (omega (arith, ap length c.as_slice-count.ensures.anchors))
    ]) (rw c.in-Some-3.is at c.in_ok-anchors.ensures))

pub returns : goal.returns
returns c = that_module _ (module_parts c.args.fields) (record {
  hw_type = refl;
  serial = refl;
  communities = search rules;
  kinds = search rules;
  capacity = refl;
  anchors = (c.in_ok-anchors.ensures c.in-Some-3.anchors).0 c.in-Some-3.is;
  some_anchors = omega (arith, ap length c.as_slice-count.ensures.anchors);
  most_anchors = omega (arith, ap length c.as_slice-count.ensures.anchors);
  key = refl;
})
