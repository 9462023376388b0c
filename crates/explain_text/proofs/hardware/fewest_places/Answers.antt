use Rattle.std.proofs.Common.{List, ℕ, ◌∙◌, subst, sym}
use Rattle.std.specs.Prelude.{Contains}
use Rattle.explain_text.specs.Keys.{AreOf}
use Rattle.explain_text.proofs.Elements.{contains_first, contains_later}
use Rattle.explain_text.proofs.hardware.fewest_places.Goals as goal

pub loop-id-init : goal.loop-id-init
loop-id-init c =
    let first = c.in_ok-next.field-0 in
    let rest = c.next.new.self in
    let all = sym c.in_ok-next.ensures.steps ∙ c.iter-left.ensures.same in (
      (
        first,
        subst (λ (ids : List (List ℕ)). Contains ids first) all (contains_first first rest),
        subst (λ (id : List ℕ). AreOf c.args.keys.now id c.keys_of-fewest.result.now) c.octets.ensures.value
            c.keys_of-fewest.ensures,
      ),
      λ id at. subst (λ (ids : List (List ℕ)). Contains ids id) all (contains_later first id rest at),
    )

pub loop-id-preserved-then-places-fewest : goal.loop-id-preserved-then-places-fewest
loop-id-preserved-then-places-fewest c =
    let id = c.in-Some.id in
    let rest = c.next-in-loop-id.new.self in
    let left = sym c.in-Some.ensures.steps in (
      (
        id,
        c.loop-id.invariant.1 id (subst (λ (ids : List (List ℕ)). Contains ids id) left (contains_first id rest)),
        subst (λ (t : List ℕ). AreOf c.args.keys.now t c.keys_of-places.result.now) c.octets-in-Some.ensures.value
            c.keys_of-places.ensures,
      ),
      λ other at.
          c.loop-id.invariant.1 other
          (subst (λ (ids : List (List ℕ)). Contains ids other) left (contains_later id other rest at)),
    )

pub loop-id-preserved : goal.loop-id-preserved
loop-id-preserved c = (
  c.loop-id.invariant.0,
  λ other at.
      c.loop-id.invariant.1 other
      (subst (λ (ids : List (List ℕ)). Contains ids other) (sym c.in-Some.ensures.steps)
      (contains_later c.in-Some.id other c.next-in-loop-id.new.self at)),
)
