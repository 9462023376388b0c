-- The lines say what is permitted.
use Rattle.std.proofs.Common.{◌≡◌, ℕ, Bool, true, false, List, [], ◌∷◌, Option, Some, None, refl, sym, ap, subst, ◌∙◌}
use Rattle.std.specs.Prelude.{◌↔◌, Contains, IsSome, IsTrue, if◌then◌else◌}
use Rattle.std.specs.List.{AllByRecursion}
use Rattle.std.specs.Option.{unwrap_or}
use Rattle.std.proofs.lemmas.Bool.{false≢true}
use Rattle.std.proofs.lemmas.List.{append-nil}
use Rattle.std.proofs.lemmas.Option.{none-some}
use Rattle.der_core.specs.Attribute.{Attribute}
use Rattle.der_core.specs.Reading.{◌>>?◌}
use Rattle.der_core.specs.Shapes.{any_element, listed, IsOneElement}
use Rattle.der_core.proofs.Numbers.{some_is}
use Rattle.cert_fields.specs.Constraints.{ContentConstraint}
use Rattle.constraint_meet.specs.Grants.{Members, GrantPermits}
use Rattle.constraint_meet.specs.Permits.{deciding, values_in, IsCovered, Meets, Passes, Permits}
use Rattle.constraint_meet.proofs.TestLemmas.{elements-whole}
use Rattle.explain_text.specs.Granted.{source_of, sources_of, constrained_by}
use Rattle.explain_text.proofs.Elements.{contains_flat, contains_unflat, each_of, holds_of}

-- ---- one member

abbrev if_source : ContentConstraint → Option ContentConstraint
if_source entry = if entry.can_source then Some entry else None

picked : (can : Bool) (other entry : ContentConstraint) → (if can then Some other else None) ≡ Some entry
    → (other ≡ entry) × (can ≡ true)
picked true other entry is = (some_is other entry is, refl)
picked false other entry is = absurd (none-some entry is)

source_is : (o : Option ContentConstraint) (entry : ContentConstraint) → (o >>? if_source) ≡ Some entry
    → (o ≡ Some entry) × IsTrue entry.can_source
source_is None entry is = absurd (none-some entry is)
source_is (Some other) entry is =
    let same = picked other.can_source other entry is in
    (ap Some same.0, subst (λ (e : ContentConstraint). IsTrue e.can_source) same.0 same.1)

module _ (content : List ℕ) (attributes : List Attribute) where
  from_source : (entries : List ContentConstraint) (entry : ContentConstraint) → source_of content entries ≡ Some entry
      → AllByRecursion (Passes entry) attributes → Permits content attributes entries
  from_source entries entry is pass =
      let parts = source_is (deciding content entries) entry is in
      record { entry = entry; decides = parts.0; can_source = parts.1; pass = pass }

  to_source : (entries : List ContentConstraint) (permits : Permits content attributes entries)
      → source_of content entries ≡ Some permits.entry
  to_source entries permits = rw (permits.decides, permits.can_source) refl

  -- ---- all members

  abbrev AllPass : List ContentConstraint → Type 0
  AllPass sources = AllByRecursion (λ entry. AllByRecursion (Passes entry) attributes) sources

  -- the first of the entries, and the others
  parted : (one : Option ContentConstraint) (more : Option (List ContentConstraint)) (sources : List ContentConstraint)
      → (one >>? λ entry. more >>? λ others. Some (entry ∷ others)) ≡ Some sources
      → (entry : ContentConstraint) × (others : List ContentConstraint) × (one ≡ Some entry) × (more ≡ Some others)
      × (sources ≡ entry ∷ others)
  parted None more sources is = absurd (none-some sources is)
  parted (Some entry) None sources is = absurd (none-some sources is)
  parted (Some entry) (Some others) sources is =
      (entry, others, refl, refl, sym (some_is (entry ∷ others) sources is))

  pub all_permit : (members : Members) (sources : List ContentConstraint) → sources_of content members ≡ Some sources
      → AllPass sources → GrantPermits content attributes members
  all_permit [] sources is pass = tt
  all_permit (entries ∷ members) sources is pass =
      let (entry, others, one, more, all) = parted (source_of content entries) (sources_of content members) sources is in
      let each = subst AllPass all pass in
      (from_source entries entry one each.0, all_permit members others more each.1)

  pub permitted : (members : Members) → GrantPermits content attributes members
      → (sources : List ContentConstraint) × (sources_of content members ≡ Some sources) × AllPass sources
  permitted [] permits = ([], refl, tt)
  permitted (entries ∷ members) permits =
      let later = permitted members permits.1 in
      (permits.0.entry ∷ later.0, rw (to_source entries permits.0, later.1) refl, (permits.0.pass, later.2))

-- ---- without attributes

no_attributes : (sources : List ContentConstraint) → AllByRecursion (λ entry. AllByRecursion (Passes entry) []) sources
no_attributes [] = tt
no_attributes (entry ∷ sources) = (tt, no_attributes sources)

pub allowed_is_permitted : (members : Members) (content : List ℕ) → IsSome (sources_of content members)
    ↔ GrantPermits content [] members
allowed_is_permitted members content = (to (sources_of content members) refl, from)
  where
    to : (o : Option (List ContentConstraint)) → sources_of content members ≡ o → IsSome o
        → GrantPermits content [] members
    to None is some = absurd (false≢true some)
    to (Some sources) is some = all_permit content [] members sources is (no_attributes sources)

    from : GrantPermits content [] members → IsSome (sources_of content members)
    from permits =
        let found = permitted content [] members permits in subst IsSome (sym found.1) refl

-- ---- an attribute with one value

one_value : (value : List ℕ) → IsOneElement value → values_in value ≡ value ∷ []
one_value value is =
    ap (λ (o : Option (List (List ℕ))). unwrap_or o [])
    (ap (listed any_element) (sym (append-nil value)) ∙ elements-whole.again (value ∷ []) (is, tt))

module _ (members : Members) (content : List ℕ) (sources : List ContentConstraint) (kind value : List ℕ)
    (is : sources_of content members ≡ Some sources) (element : IsOneElement value) where
  abbrev alone : Attribute
  alone = record { kind = kind; values = value }

  abbrev AllCover : Type 0
  AllCover =
      (other : Attribute) → Contains (constrained_by sources) other → other.kind ≡ kind → IsCovered other value

  pass : AllCover → (entry : ContentConstraint) → Contains sources entry → AllByRecursion (Passes entry) (alone ∷ [])
  pass covered entry at = (
    each_of (Meets alone) entry.attributes
        (λ other in_it same. subst (AllByRecursion (IsCovered other)) (sym (one_value value element))
        (covered other (contains_flat (λ (e : ContentConstraint). e.attributes) sources entry other at in_it) same, tt)),
    tt,
  )

  covers : AllByRecursion (λ entry. AllByRecursion (Passes entry) (alone ∷ [])) sources → AllCover
  covers each other at same =
      let found = contains_unflat (λ (e : ContentConstraint). e.attributes) sources other at in
      let passes = holds_of (λ entry. AllByRecursion (Passes entry) (alone ∷ [])) sources found.0 each found.1 in
      let meets = holds_of (Meets alone) found.0.attributes other passes.0 found.2 in
      (subst (AllByRecursion (IsCovered other)) (one_value value element) (meets same)).0

  pub covered_is_permitted : AllCover ↔ GrantPermits content (alone ∷ []) members
  covered_is_permitted = (
    λ covered.
        all_permit content (alone ∷ []) members sources is
        (each_of (λ entry. AllByRecursion (Passes entry) (alone ∷ [])) sources (pass covered)),
    λ permits.
        let found = permitted content (alone ∷ []) members permits in
        covers (subst (λ (es : List ContentConstraint). AllByRecursion (λ entry. AllByRecursion (Passes entry) (alone ∷ [])) es)
        (some_is found.0 sources (sym found.1 ∙ is)) found.2),
  )
