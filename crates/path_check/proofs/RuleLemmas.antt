-- What a member's extensions say, and how many members are counted below one.
use Rattle.std.proofs.Common.{◌≡◌, ◌↔◌, ◌<◌, ◌≤◌, ◌+◌, ◌⊎◌, inl, inr, ℕ, Bool, true, false, not, cond, List, Option, None, Some, IfSome, length, take, slice_get, get_or, IsTrue, refl, sym, ap, subst, ◌∙◌, arith}
use Rattle.std.proofs.lemmas.Option.{slice_get_within, get_or_from_slice_get}
use Rattle.std.proofs.lemmas.List.Sums.{count_by_more_yes, count_by_more_no, count_by-le-length}
use Rattle.cert_fields.specs.Certificate.{Certificate}
use Rattle.cert_fields.specs.Extensions.{HasExtensions}
use Rattle.cert_fields.specs.declared.extensions.Extensions.{Extensions}
use Rattle.path_check.specs.PathRules.{AuthorityKeepsRules, is_self_issued, counted}
use Rattle.path_check.specs.Members.{AreExtensionsOf}

-- what holds of the extensions that are kept holds of what they say
pub by_kept : (c : Certificate) (kept : Extensions) (P : Extensions → Type 0) → AreExtensionsOf c kept
    → P kept ↔ ((e : Extensions) × HasExtensions c e × P e)
by_kept c kept P are = (
  λ p. (kept, (are kept).0 refl, p),
  λ said. subst P (sym ((are said.0).1 said.1)) said.2,
)

-- both of two tests, of which the first is true, or false
pub both_true : {P Q : Type 0} {b r : Bool} → b ≡ true → (IsTrue b ↔ P) → (IsTrue r ↔ Q) → IsTrue r ↔ (P × Q)
both_true is first second = (λ t. (first.0 is, second.0 t), λ both. second.1 both.1)

pub both_false : {P Q : Type 0} {b : Bool} → b ≡ false → (IsTrue b ↔ P) → IsTrue b ↔ (P × Q)
both_false is first = (λ t. absurd (let e : true ≡ false = sym t ∙ is in cc), λ both. first.1 both.0)

pub then_tells : {P Q R : Type 0} → (P ↔ Q) → (Q ↔ R) → P ↔ R
then_tells one other = (λ p. other.0 (one.0 p), λ r. one.1 (other.1 r))

-- one more counts where it isn't self-issued
pub counted_more : (above : List Certificate) (n : ℕ) (c : Certificate) → slice_get above n ≡ Some c
    → counted (n + 1) above ≡ counted n above + cond (not (is_self_issued c)) 1 0
counted_more above n c is = by (not (is_self_issued c)) refl
  where
    there : get_or above n c ≡ c
    there = get_or_from_slice_get above n c c is

    by : (b : Bool) → not (is_self_issued c) ≡ b → counted (n + 1) above ≡ counted n above + cond b 1 0
    by true counts =
        count_by_more_yes (λ one. not (is_self_issued one)) above n c (slice_get_within above n c is)
        (ap (λ one. not (is_self_issued one)) there ∙ counts)
    by false counts =
        count_by_more_no (λ one. not (is_self_issued one)) above n c (slice_get_within above n c is)
        (ap (λ one. not (is_self_issued one)) there ∙ counts)
        ∙ (let plus : counted n above ≡ counted n above + 0 = omega arith in plus)

-- the members above the signer's, as far as they were asked
abbrev pub KeptBefore : List Certificate → ℕ → Type 0
KeptBefore above n = (i : ℕ) → i < n → IfSome (slice_get above i) (AuthorityKeepsRules (counted i above))

last_or_before : (i n : ℕ) → i < n + 1 → (i < n) ⊎ (i ≡ n)
last_or_before i n less = grind arith

module _ (above : List Certificate) where
  pub kept_more : (n below : ℕ) (c : Certificate) → KeptBefore above n → slice_get above n ≡ Some c
      → below ≡ counted n above → AuthorityKeepsRules below c → KeptBefore above (n + 1)
  kept_more n below c kept is count keeps i less = by (last_or_before i n less)
    where
      here : IfSome (slice_get above n) (AuthorityKeepsRules (counted n above))
      here =
          subst (λ o. IfSome o (AuthorityKeepsRules (counted n above))) (sym is)
          (subst (λ b. AuthorityKeepsRules b c) count keeps)

      by : (i < n) ⊎ (i ≡ n) → IfSome (slice_get above i) (AuthorityKeepsRules (counted i above))
      by (inl before) = kept i before
      by (inr same) = subst (λ m. IfSome (slice_get above m) (AuthorityKeepsRules (counted m above))) (sym same) here

  pub kept_all : (n : ℕ) → length above ≤ n → KeptBefore above n
      → (i : ℕ) → IfSome (slice_get above i) (AuthorityKeepsRules (counted i above))
  kept_all n past kept i = by (slice_get above i) refl
    where
      by : (o : Option Certificate) → slice_get above i ≡ o → IfSome (slice_get above i) (AuthorityKeepsRules (counted i above))
      by None is = subst (λ o. IfSome o (AuthorityKeepsRules (counted i above))) (sym is) tt
      by (Some c) is = kept i (let within = slice_get_within above i c is in omega (arith, within, past))

  -- one that doesn't keep them
  pub not_kept : (n below : ℕ) (c : Certificate) → slice_get above n ≡ Some c → below ≡ counted n above
      → ¬ AuthorityKeepsRules below c
      → IsTrue false ↔ ((i : ℕ) → IfSome (slice_get above i) (AuthorityKeepsRules (counted i above)))
  not_kept n below c is count fails = (
    λ t. absurd (let e : false ≡ true = t in cc),
    λ all. absurd (fails (subst (λ b. AuthorityKeepsRules b c) (sym count)
        (subst (λ o. IfSome o (AuthorityKeepsRules (counted n above))) is (all n)))),
  )

  pub counted_fits : (n : ℕ) → counted n above ≤ length (take n above)
  counted_fits n = count_by-le-length (λ c. not (is_self_issued c)) (take n above)
