use Rattle.std.proofs.Common.{◌∙◌, refl, sym, ap, List, ℕ}
use Rattle.std.specs.List.{list_all}
use Rattle.constraint_meet.specs.Tests.{is_covered}
use Rattle.constraint_meet.specs.Permits.{values_in}
use Rattle.constraint_meet.proofs.ValueLemmas.{values_more, values_none, all_on, all_stop}
use Rattle.constraint_meet.proofs.listed.Listed.covers_each.Goals as goal

pub returns-then-not-covers : goal.returns-then-not-covers
returns-then-not-covers c =
    let more = values_more c.loop-value.items c.next.new.self c.in-Some.value.now
    (c.in-Some.field-0-0, (c.in-Some.field-0-1.now, c.next.new.self)) c.loop-value.invariant.0 c.in-Some.ensures.exact
    c.in-Some.ensures.element.1 refl in
    sym (all_stop (is_covered c.args.self.now) _ (values_in c.loop-value.items) (values_in c.next.new.self)
    c.in-Some.value.now c.loop-value.invariant.1 more.1 (sym c.covers.ensures ∙ c.if-not-covers.true))

pub loop-value-preserved : goal.loop-value-preserved
loop-value-preserved c =
    let more = values_more c.loop-value.items c.next.new.self c.in-Some.value.now
    (c.in-Some.field-0-0, (c.in-Some.field-0-1.now, c.next.new.self)) c.loop-value.invariant.0 c.in-Some.ensures.exact
    c.in-Some.ensures.element.1 refl in (
      more.0,
      all_on (is_covered c.args.self.now) _ (values_in c.loop-value.items) (values_in c.next.new.self)
          c.in-Some.value.now c.loop-value.invariant.1 more.1 (sym c.covers.ensures ∙ c.if-not-covers.false),
    )

pub returns : goal.returns
returns c =
    sym (c.loop-value.invariant.1 ∙ ap (λ (xs : List (List ℕ)). list_all (is_covered c.args.self.now) xs)
    (values_none c.loop-value.items c.loop-value.invariant.0 c.in_default.ensures.exact))
