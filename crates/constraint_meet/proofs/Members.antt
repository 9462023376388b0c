-- What members permit together, and which entry decides.
use Rattle.std.proofs.Common.{◌≡◌, ℕ, zero, suc, Bool, false, List, [], ◌∷◌, ◌++◌, map}
use Rattle.std.proofs.Common.{Option, Some, None, refl, sym, ap, subst, ◌∙◌, arith}
use Rattle.std.specs.Prelude.{◌↔◌, Contains, bytes_eq, IfOk, Result, Ok, Err}
use Rattle.std.specs.List.{AllByRecursion, IsDistinct, flat_map}
use Rattle.std.proofs.lemmas.Bool.{cases_Bool, false≢true}
use Rattle.std.proofs.Common.{inl, inr}
use Rattle.std.proofs.lemmas.Option.{none-some}
use Rattle.std.proofs.lemmas.Map.Keys.{IsDistinct-head, IsDistinct-tail}
use Rattle.std.proofs.lemmas.Slice.Eq.{bytes_eq-Decides}
use Rattle.der_core.specs.Attribute.{Attribute}
use Rattle.cert_fields.specs.Constraints.{ContentConstraint}
use Rattle.constraint_meet.specs.Permits.{any_content, entry_for, or_else, deciding}
use Rattle.constraint_meet.specs.Permits.{Permits, CertificatePermits, AnchorPermits, Within}
use Rattle.constraint_meet.specs.Grants.{Members, GrantPermits, of_certificate, of_anchor, of_path}

-- ---- members side by side

pub no_entry : (content : List ℕ) (attributes : List Attribute) → Permits content attributes [] → ⊥
no_entry content attributes permits = none-some permits.entry permits.decides

module _ (content : List ℕ) (attributes : List Attribute) where
  joined : (these those : Members) → GrantPermits content attributes these → GrantPermits content attributes those
      → GrantPermits content attributes (these ++ those)
  joined [] those one other = other
  joined (member ∷ more) those one other = (one.0, joined more those one.1 other)

  parted : (these those : Members) → GrantPermits content attributes (these ++ those)
      → GrantPermits content attributes these × GrantPermits content attributes those
  parted [] those both = (tt, both)
  parted (member ∷ more) those both = let rest = parted more those both.1 in ((both.0, rest.0), rest.1)

  pub both : (these those : Members) → GrantPermits content attributes (these ++ those)
      ↔ (GrantPermits content attributes these × GrantPermits content attributes those)
  both these those = (parted these those, λ sides. joined these those sides.0 sides.1)

  one_certificate : (constraints : Option (List ContentConstraint))
      → GrantPermits content attributes (of_certificate constraints)
      ↔ CertificatePermits content attributes constraints
  one_certificate None = (λ permits. no_entry content attributes permits.0, λ wrong. absurd wrong)
  one_certificate (Some entries) = (λ permits. permits.0, λ permits. (permits, tt))

  one_anchor : (constraints : Option (List ContentConstraint))
      → GrantPermits content attributes (of_anchor constraints) ↔ AnchorPermits content attributes constraints
  one_anchor None = (λ permits. tt, λ permits. tt)
  one_anchor (Some entries) = (λ permits. permits.0, λ permits. (permits, tt))

  each : (certificates : List (Option (List ContentConstraint)))
      → GrantPermits content attributes (flat_map of_certificate certificates)
      ↔ AllByRecursion (CertificatePermits content attributes) certificates
  each [] = (λ permits. tt, λ permits. tt)
  each (constraints ∷ more) = (
    λ permits.
        let sides = parted (of_certificate constraints) (flat_map of_certificate more) permits in
        ((one_certificate constraints).0 sides.0, (each more).0 sides.1),
    λ permits.
        joined (of_certificate constraints) (flat_map of_certificate more) ((one_certificate constraints).1 permits.0)
        ((each more).1 permits.1),
  )

  pub path : (certificates : List (Option (List ContentConstraint))) (anchor : Option (List ContentConstraint))
      → GrantPermits content attributes (of_path certificates anchor) ↔ Within content attributes certificates anchor
  path certificates anchor = (
    λ permits.
        let sides = parted (of_anchor anchor) (flat_map of_certificate certificates) permits in
        record { members = (each certificates).0 sides.1; above = (one_anchor anchor).0 sides.0 },
    λ within.
        joined (of_anchor anchor) (flat_map of_certificate certificates) ((one_anchor anchor).1 within.above)
        ((each certificates).1 within.members),
  )

-- ---- the entry that decides

abbrev has : List ℕ → ContentConstraint → Bool
has content entry = bytes_eq entry.content content

-- types that differ from one are those of no entry that has it
pub none_has : (content : List ℕ) (entries : List ContentConstraint)
    → ((other : ContentConstraint) → Contains entries other → other.content ≡ content → ⊥)
    → entry_for content entries ≡ None
none_has content [] none = refl
none_has content (entry ∷ more) none = elim (cases_Bool (has content entry)) [
  | inl is ↦ absurd (none entry (0, omega arith, refl) ((bytes_eq-Decides entry.content content).0 is))
  | inr differs ↦ rw differs (none_has content more
      (λ other at same. none other (suc at.0, omega (arith, at.1), at.2) same))
]

away : (content : List ℕ) (entries : List ContentConstraint) (entry : ContentConstraint)
    → AllByRecursion (λ other. bytes_eq content other ≡ false) (map (λ e. e.content) entries) → Contains entries entry
    → entry.content ≡ content → ⊥
away content [] entry apart at same = omega (arith, at.1)
away content (other ∷ more) entry apart (zero, less, is) same =
    false≢true (sym apart.0 ∙ (bytes_eq-Decides content other.content).1 (sym same ∙ ap (λ e. e.content) (sym is)))
away content (other ∷ more) entry apart (suc k, less, is) same =
    away content more entry apart.1 (k, omega (arith, less), is) same

pub own : (entries : List ContentConstraint) (entry : ContentConstraint)
    → IsDistinct bytes_eq (map (λ e. e.content) entries) → Contains entries entry
    → entry_for entry.content entries ≡ Some entry
own [] entry apart at = absurd (omega (arith, at.1))
own (other ∷ more) entry apart (zero, less, is) =
    subst (λ e. entry_for e.content (other ∷ more) ≡ Some e) is
    (rw ((bytes_eq-Decides other.content other.content).1 refl) refl)
own (other ∷ more) entry apart (suc k, less, is) = elim (cases_Bool (has entry.content other)) [
  | inl same ↦
      absurd (away other.content more entry
      (IsDistinct-head bytes_eq other.content (map (λ e. e.content) more) apart) (k, omega (arith, less), is)
      (sym ((bytes_eq-Decides other.content entry.content).0 same)))
  | inr differs ↦ rw differs (own more entry (IsDistinct-tail bytes_eq other.content (map (λ e. e.content) more) apart)
      (k, omega (arith, less), is))
]

pub own_decides : (entries : List ContentConstraint) (entry : ContentConstraint)
    → IsDistinct bytes_eq (map (λ e. e.content) entries) → Contains entries entry
    → deciding entry.content entries ≡ Some entry
own_decides entries entry apart at = rw (own entries entry apart at) refl

pub any_decides : (content : List ℕ) (entries : List ContentConstraint) (entry : ContentConstraint)
    → IsDistinct bytes_eq (map (λ e. e.content) entries) → Contains entries entry → entry.content ≡ any_content
    → ((other : ContentConstraint) → Contains entries other → other.content ≡ content → ⊥)
    → deciding content entries ≡ Some entry
any_decides content entries entry apart at is none =
    ap (λ first. or_else first (entry_for any_content entries)) (none_has content entries none)
    ∙ subst (λ any. entry_for any entries ≡ Some entry) is (own entries entry apart at)

-- an entry of another type is passed over
pub further : (content : List ℕ) (entry : ContentConstraint) (more : List ContentConstraint)
    → bytes_eq entry.content content ≡ false → entry_for content (entry ∷ more) ≡ entry_for content more
further content entry more differs = rw differs refl

-- ---- what is answered

pub both_permit : {E : Type 0} (these those : Members) (result : Result Members E)
    → IfOk result (λ grant. grant ≡ these ++ those)
    → IfOk result (λ grant. (content : List ℕ) (attributes : List Attribute) → GrantPermits content attributes grant
    ↔ (GrantPermits content attributes these × GrantPermits content attributes those))
both_permit these those (Ok grant) is = λ content attributes. rw is (both content attributes these those)
both_permit these those (Err e) is = tt
