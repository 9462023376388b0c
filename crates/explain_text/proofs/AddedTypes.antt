-- Content types that are added entry by entry, and member by member.
use Rattle.std.proofs.Common.{◌≡◌, ℕ, List, [], ◌∷◌, ◌++◌, sym, ap, subst, ◌∙◌, ◌⊎◌, inl, inr}
use Rattle.std.specs.Prelude.{◌↔◌, Contains, IsPermutation}
use Rattle.std.proofs.lemmas.List.Elements.{Contains-append_left, Contains-push, Contains-push_cases}
use Rattle.std.proofs.lemmas.List.Sorted.{Contains-permutation, IsPermutation-sym}
use Rattle.cert_fields.specs.Constraints.{ContentConstraint}
use Rattle.constraint_meet.specs.Grants.{Members}
use Rattle.constraint_meet.specs.Permits.{any_content}
use Rattle.explain_text.specs.Granted.{IsNamed, IsOwnType}
use Rattle.explain_text.specs.Kept.{HasOwnType}
use Rattle.explain_text.proofs.Elements.{contains_none}

-- ---- entry by entry

-- the types that are kept are those of before, and those of the entries
abbrev pub AreAdded : List (List ℕ) → List (List ℕ) → List ContentConstraint → Type 0
AreAdded types before entries =
    (content : List ℕ) → Contains types content ↔ (Contains before content ⊎ HasOwnType entries content)

pub none_added : (types : List (List ℕ)) → AreAdded types types []
none_added types content = (inl, back)
  where
    back : Contains types content ⊎ HasOwnType [] content → Contains types content
    back (inl at) = at
    back (inr has) = absurd (contains_none has.0.0 has.0.1)

-- the same in other words
pub added_as : (types types' before : List (List ℕ)) (entries entries' : List ContentConstraint) → types' ≡ types
    → entries' ≡ entries → AreAdded types before entries → AreAdded types' before entries'
added_as types types' before entries entries' same also added =
    subst (λ (es : List ContentConstraint). AreAdded types' before es) (sym also)
    (subst (λ (ts : List (List ℕ)). AreAdded ts before entries) (sym same) added)

wider : (entries : List ContentConstraint) (entry : ContentConstraint) (content : List ℕ) → HasOwnType entries content
    → HasOwnType (entries ++ entry ∷ []) content
wider entries entry content has =
    ((has.0.0, Contains-append_left entries (entry ∷ []) has.0.0 has.0.1, has.0.2), has.1)

last : (entries : List ContentConstraint) (entry : ContentConstraint) (content : List ℕ)
    → HasOwnType (entries ++ entry ∷ []) content → HasOwnType entries content ⊎ (entry.content ≡ content)
last entries entry content ((other, at, is), not_any) = by (Contains-push_cases entries entry other at)
  where
    by : Contains entries other ⊎ (entry ≡ other) → HasOwnType entries content ⊎ (entry.content ≡ content)
    by (inl at') = inl ((other, at', is), not_any)
    by (inr same) = inr (ap (λ (e : ContentConstraint). e.content) same ∙ is)

module _ (types before : List (List ℕ)) (entries : List ContentConstraint) (entry : ContentConstraint)
    (added : AreAdded types before entries) where
  -- one more is of an own type
  pub one_added : (entry.content ≡ any_content → ⊥) → AreAdded (types ++ entry.content ∷ []) before (entries ++ entry ∷ [])
  one_added own content = (λ at. to (Contains-push_cases types entry.content content at), from)
    where
      to' : Contains before content ⊎ HasOwnType entries content
          → Contains before content ⊎ HasOwnType (entries ++ entry ∷ []) content
      to' (inl at) = inl at
      to' (inr has) = inr (wider entries entry content has)

      to : Contains types content ⊎ (entry.content ≡ content)
          → Contains before content ⊎ HasOwnType (entries ++ entry ∷ []) content
      to (inl at) = to' ((added content).0 at)
      to (inr is) = inr ((entry, Contains-push entries entry, is), λ any. own (is ∙ any))

      from' : HasOwnType entries content ⊎ (entry.content ≡ content) → Contains (types ++ entry.content ∷ []) content
      from' (inl has) = Contains-append_left types (entry.content ∷ []) content ((added content).1 (inr has))
      from' (inr is) = subst (Contains (types ++ entry.content ∷ [])) is (Contains-push types entry.content)

      from : Contains before content ⊎ HasOwnType (entries ++ entry ∷ []) content
          → Contains (types ++ entry.content ∷ []) content
      from (inl at) = Contains-append_left types (entry.content ∷ []) content ((added content).1 (inl at))
      from (inr has) = from' (last entries entry content has)

  -- one more is of any type
  pub one_passed : entry.content ≡ any_content → AreAdded types before (entries ++ entry ∷ [])
  one_passed any content = (λ at. to ((added content).0 at), λ has. (added content).1 (from has))
    where
      to : Contains before content ⊎ HasOwnType entries content
          → Contains before content ⊎ HasOwnType (entries ++ entry ∷ []) content
      to (inl at) = inl at
      to (inr has) = inr (wider entries entry content has)

      from' : (content ≡ any_content → ⊥) → HasOwnType entries content ⊎ (entry.content ≡ content)
          → Contains before content ⊎ HasOwnType entries content
      from' own (inl has) = inr has
      from' own (inr is) = absurd (own (sym is ∙ any))

      from : Contains before content ⊎ HasOwnType (entries ++ entry ∷ []) content
          → Contains before content ⊎ HasOwnType entries content
      from (inl at) = inl at
      from (inr has) = from' has.1 (last entries entry content has)

-- ---- member by member

abbrev pub AreOwn : List (List ℕ) → Members → Type 0
AreOwn types members = (content : List ℕ) → Contains types content ↔ IsOwnType members content

pub none_own : AreOwn [] []
none_own content = (λ at. absurd (contains_none content at), λ own. absurd (contains_none own.0.entries own.0.member))

pub member_added : (types before : List (List ℕ)) (members : Members) (member entries : List ContentConstraint)
    → AreOwn before members → IsPermutation member entries → AreAdded types before entries
    → AreOwn types (members ++ member ∷ [])
member_added types before members member entries own same added content = (λ at. to ((added content).0 at), from)
  where
    to : Contains before content ⊎ HasOwnType entries content → IsOwnType (members ++ member ∷ []) content
    to (inl at) =
        let named = (own content).0 at in (
          record {
            entries = named.0.entries;
            member = Contains-append_left members (member ∷ []) named.0.entries named.0.member;
            entry = named.0.entry;
            one = named.0.one;
            is = named.0.is;
          },
          named.1,
        )
    to (inr ((entry, at, is), not_any)) = (
      record {
        entries = member;
        member = Contains-push members member;
        entry = entry;
        one = Contains-permutation entries member entry (IsPermutation-sym member entries same) at;
        is = is;
      },
      not_any,
    )

    by : (named : IsNamed (members ++ member ∷ []) content) → (content ≡ any_content → ⊥)
        → Contains members named.entries ⊎ (member ≡ named.entries) → Contains before content ⊎ HasOwnType entries content
    by named not_any (inl at) =
        inl ((own content).1 (
          record {
            entries = named.entries;
            member = at;
            entry = named.entry;
            one = named.one;
            is = named.is;
          },
          not_any,
        ))
    by named not_any (inr is) =
        let at = subst (λ (es : List ContentConstraint). Contains es named.entry) (sym is) named.one in
        inr ((named.entry, Contains-permutation member entries named.entry same at, named.is), not_any)

    from : IsOwnType (members ++ member ∷ []) content → Contains types content
    from (named, not_any) =
        (added content).1 (by named not_any (Contains-push_cases members member named.entries named.member))
