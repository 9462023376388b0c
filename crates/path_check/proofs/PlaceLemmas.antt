-- Members by places.
use Rattle.std.proofs.Common.{◌≡◌, ℕ, zero, suc, List, [], ◌∷◌, length, slice_get, None, Some, refl, ap, subst, arith}
use Rattle.cert_fields.specs.Certificate.{Certificate}
use Rattle.cert_fields.specs.Anchor.{TrustAnchor}
use Rattle.path_check.specs.First.{HasNone, IsFirst}
use Rattle.path_check.specs.Paths.{LeadsTo, IsAboveAt, IsAnchorAboveAt}
use Rattle.path_check.specs.Places.{Rises}
use Rattle.path_check.proofs.Chains.{none_first, one_first}

some_is : {A : Type 0} {x y : A} → Some x ≡ Some y → x ≡ y
some_is e = cc

suc_is : (m n : ℕ) → suc m ≡ suc n → m ≡ n
suc_is m n e = omega arith

module _ (certificates : List Certificate) (anchors : List TrustAnchor) where
  -- the second is above the first
  abbrev Step : ℕ → ℕ → Type 0
  Step below above =
      HasNone (IsAnchorAboveAt certificates below) anchors × IsFirst (IsAboveAt certificates below) certificates above

  pub to_places : (first : ℕ) (more : List ℕ) (anchor : ℕ) → LeadsTo certificates anchors first more anchor
      → Rises certificates anchors (first ∷ more) anchor
  to_places first [] anchor leads = record {
    each = λ i below above low high. absurd (nothing i above high);
    last = λ i top size at. is_last i top size at;
  }
    where
      nothing : (i above : ℕ) → slice_get (first ∷ []) (suc i) ≡ Some above → ⊥
      nothing i above high = let e : None ≡ Some above = high in cc

      is_last : (i top : ℕ) → 1 ≡ suc i → slice_get (first ∷ []) i ≡ Some top
          → IsFirst (IsAnchorAboveAt certificates top) anchors anchor
      is_last zero top size at = subst (λ z. IsFirst (IsAnchorAboveAt certificates z) anchors anchor) (some_is at) leads
      is_last (suc i) top size at = absurd (omega arith)
  to_places first (next ∷ more) anchor leads =
      let rest = to_places next more anchor leads.2 in
      record { each = each rest; last = last rest }
    where
      each : Rises certificates anchors (next ∷ more) anchor → (i below above : ℕ)
          → slice_get (first ∷ (next ∷ more)) i ≡ Some below → slice_get (first ∷ (next ∷ more)) (suc i) ≡ Some above
          → Step below above
      each rest zero below above low high =
          subst (λ z. Step z above) (some_is low)
          (leads.0, subst (IsFirst (IsAboveAt certificates first) certificates) (some_is high) leads.1)
      each rest (suc i) below above low high = rest.each i below above low high

      last : Rises certificates anchors (next ∷ more) anchor → (i top : ℕ) → suc (suc (length more)) ≡ suc i
          → slice_get (first ∷ (next ∷ more)) i ≡ Some top → IsFirst (IsAnchorAboveAt certificates top) anchors anchor
      last rest zero top size at = absurd (omega arith)
      last rest (suc i) top size at = rest.last i top (suc_is _ _ size) at

  pub from_places : (first : ℕ) (more : List ℕ) (anchor : ℕ) → Rises certificates anchors (first ∷ more) anchor
      → LeadsTo certificates anchors first more anchor
  from_places first [] anchor rises = rises.last 0 first refl refl
  from_places first (next ∷ more) anchor rises =
      let step = rises.each 0 first next refl refl in (
        step.0,
        step.1,
        from_places next more anchor (record {
          each = λ i below above low high. rises.each (suc i) below above low high;
          last = λ i top size at. rises.last (suc i) top (ap suc size) at;
        }),
      )

  -- from a certificate that is itself the first above it nothing leads up
  pub no_way : (place anchor : ℕ) (more : List ℕ) → HasNone (IsAnchorAboveAt certificates place) anchors
      → IsFirst (IsAboveAt certificates place) certificates place
      → LeadsTo certificates anchors place more anchor → ⊥
  no_way place anchor [] none itself leads = none_first none leads
  no_way place anchor (next ∷ more) none itself leads =
      no_way place anchor more none itself
      (subst (λ z. LeadsTo certificates anchors z more anchor) (one_first leads.1 itself) leads.2)
