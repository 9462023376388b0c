use Rattle.std.proofs.Common.{◌≡◌, ◌∙◌, ℕ, List, Some, arith, sym, subst, ap}
use Rattle.der_core.specs.Shapes.{listed}
use Rattle.der_core.proofs.Lists.{some_left, none_left}
use Rattle.module_record.specs.ModuleReading.{oid_at}
use Rattle.module_record.proofs.ListLemmas.{behind, starts, goes_on, stops, ends, few_some, few_none}
use Rattle.module_record.proofs.ModuleLaws.{oid_falls}
use Rattle.module_record.proofs.module_reading.read_oids.Goals as goal

pub loop-items-init : goal.loop-items-init
loop-items-init c =
    starts (listed oid_at c.args.contents.now)
    ∙ ap (λ (done : List (List ℕ)). behind done (listed oid_at c.args.contents.now)) (sym c.new-oids.ensures.items)
    ∙ ap (λ (left : List ℕ). behind c.new-oids.result.items (listed oid_at left)) (sym c.new-items.ensures.all)

pub returns-in_default : goal.returns-in_default
returns-in_default c = record {
  exact = few_none oid_at c.args.contents.now
      (stops oid_at _ c.loop-items.oids.items c.loop-items.items
      (some_left c.loop-items.items c.at_end.result c.at_end.ensures.end c.loop-items-test.true)
      c.in_default.ensures.exact c.loop-items.invariant);
}

pub loop-items-smaller : goal.loop-items-smaller
loop-items-smaller c = oid_falls c.loop-items.items (c.in-Some.oid, c.read_type.new.items) c.in-Some.ensures.exact

pub loop-items-preserved : goal.loop-items-preserved
loop-items-preserved c =
    subst (λ (done : List (List ℕ)). listed oid_at c.args.contents.now ≡ behind done (listed oid_at c.read_type.new.items))
    (sym c.in_ok-push.ensures.items)
    (goes_on oid_at _ c.loop-items.oids.items c.loop-items.items c.read_type.new.items c.in-Some.oid oid_falls
    c.in-Some.ensures.exact c.loop-items.invariant)

pub returns : goal.returns
returns c = record {
  exact = few_some oid_at c.args.contents.now c.loop-items.oids.items
      (ends oid_at _ c.loop-items.oids.items c.loop-items.items
      (none_left c.loop-items.items c.at_end.result c.at_end.ensures.end c.loop-items-test.false)
      c.loop-items.invariant) (omega (arith, c.loop-items.oids.ok.0))
      ∙ ap (λ (list : List (List ℕ)). Some list) (sym c.new.ensures.oids);
}
