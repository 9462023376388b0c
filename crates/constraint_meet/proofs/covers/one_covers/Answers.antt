use Rattle.std.proofs.Common.{◌∙◌, refl, sym, ap, List, ℕ}
use Rattle.std.specs.List.{list_any}
use Rattle.constraint_meet.specs.Covers.{covers}
use Rattle.constraint_meet.specs.Permits.{values_in}
use Rattle.constraint_meet.proofs.ValueLemmas.{values_more, values_none, any_on, any_stop}
use Rattle.constraint_meet.proofs.covers.one_covers.Goals as goal

pub returns-then-covers : goal.returns-then-covers
returns-then-covers c =
    let more = values_more c.loop-one.items c.next.new.self c.in-Some.one.now
    (c.in-Some.field-0-0, (c.in-Some.field-0-1.now, c.next.new.self)) c.loop-one.invariant.0 c.in-Some.ensures.exact
    c.in-Some.ensures.element.1 refl in record {
      covered = sym (any_stop (λ one. covers c.args.kind.now one c.args.value.now) _ (values_in c.loop-one.items)
          (values_in c.next.new.self) c.in-Some.one.now c.loop-one.invariant.1 more.1 (sym c.covers.ensures ∙ c.if-covers.true));
    }

pub loop-one-preserved : goal.loop-one-preserved
loop-one-preserved c =
    let more = values_more c.loop-one.items c.next.new.self c.in-Some.one.now
    (c.in-Some.field-0-0, (c.in-Some.field-0-1.now, c.next.new.self)) c.loop-one.invariant.0 c.in-Some.ensures.exact
    c.in-Some.ensures.element.1 refl in (
      more.0,
      any_on (λ one. covers c.args.kind.now one c.args.value.now) _ (values_in c.loop-one.items)
          (values_in c.next.new.self) c.in-Some.one.now c.loop-one.invariant.1 more.1
          (sym c.covers.ensures ∙ c.if-covers.false),
    )

pub returns : goal.returns
returns c = record {
  covered = sym (c.loop-one.invariant.1
      ∙ ap (λ (xs : List (List ℕ)). list_any (λ one. covers c.args.kind.now one c.args.value.now) xs)
      (values_none c.loop-one.items c.loop-one.invariant.0 c.in_default.ensures.exact));
}
