use Rattle.std.proofs.Common.{◌≡◌, ◌++◌, ◌∷◌, ◌<◌, [], List, ℕ, length, sym, ap₂, subst, ◌∙◌, arith, get_or, Option, Some, None}
use Rattle.std.specs.Prelude.{IfSome, IfNone, slice_get}
use Rattle.std.proofs.lemmas.List.{take_more}
use Rattle.std.proofs.lemmas.Option.{slice_get-get_or}
use Rattle.der_core.proofs.Numbers.{some_is}
use Rattle.cert_fields.specs.Constraints.{ContentConstraint}
use Rattle.constraint_meet.specs.Grants.{Members, entries_of}
use Rattle.explain_text.proofs.member.members_of.Goals as goal

-- what is given of a place is the member there
member_there : (members : Members) (place : ℕ) (constraints : Option (List ContentConstraint)) → place < length members
    → IfSome constraints (λ ccc. slice_get members place ≡ Some ccc)
    → IfNone constraints (IfSome (slice_get members place) (λ entries. entries ≡ []))
    → entries_of constraints ≡ get_or members place []
member_there members place (Some ccc) within found none =
    some_is ccc (get_or members place []) (sym found ∙ slice_get-get_or members place [] within)
member_there members place None within found none = sym (by (slice_get-get_or members place [] within) none)
  where
    by : {o : Option (List ContentConstraint)} → o ≡ Some (get_or members place []) → IfSome o (λ entries. entries ≡ [])
        → get_or members place [] ≡ []
    by is empty = subst (λ o. IfSome o (λ entries. entries ≡ [])) is empty

pub loop-place-preserved : goal.loop-place-preserved
loop-place-preserved c =
    let members = c.args.grant.now in
    let place = c.loop-place.place in
    let within : place < length members = omega (arith, c.loop-place-test.true, c.member_count-place-end.ensures.count) in
    let there = member_there members place c.constraints_at.result within c.constraints_at.ensures.found
    c.constraints_at.ensures.none in
    c.push_reserved.ensures.items
    ∙ ap₂ (λ (front : Members) (member : List ContentConstraint). front ++ member ∷ [])
    (c.in_ok-reserve.ensures.items ∙ c.loop-place.invariant) (c.in_ok-member.ensures.same ∙ there)
    ∙ sym (take_more members place [] within)
