-- Laws of the definitions.
use Rattle.std.proofs.Common.{◌≡◌, ℕ, zero, suc, ◌+◌, ◌-◌, ◌*◌, ◌^◌, ◌<◌, ◌≤◌, List, [], ◌∷◌, ◌++◌, length}
use Rattle.std.proofs.Common.{Result, Ok, sym, ap, subst, add-one, ◌∙◌, arith, inl, inr}
use Rattle.std.specs.Int.Digits.{digits_of, number_from_digits, number_from_digits_after, AllBelowBase}
use Rattle.std.proofs.lemmas.Bool.{cases_lt, lt-ltb, le-ltb}
use Rattle.std.proofs.lemmas.Grind.{pow_more}
use Rattle.std.proofs.lemmas.Int.Digits.{number_lt, number_after_lt, length-digits_of-le, number_digits_of}
use Rattle.std.proofs.lemmas.Int.Digits.{all_below_base_digits_of}
use Rattle.std.proofs.Math.Nat.{pow-le-pow_right, mul-le-mul_right}
use Rattle.der_core.specs.declared.fault.DerFault.{DerFault}
use Rattle.der_core.specs.Element.{enc, IsElement, HasTagged}
use Rattle.der_core.specs.Number.{not_negative, number_contents, IsFewest}
use Rattle.der_core.specs.Reading.{FirstElement, element_at}
use Rattle.der_core.proofs.Element.{ok_is, element_again}

pub enc-one : (tag tag' : ℕ) (contents contents' rest rest' : List ℕ) → IsElement tag contents
    → IsElement tag' contents'
    → enc tag contents ++ rest ≡ enc tag' contents' ++ rest' → (tag ≡ tag') × (contents ≡ contents') × (rest ≡ rest')
enc-one tag tag' contents contents' rest rest' h h' e =
    let read : ◌≡◌ {A = Result FirstElement DerFault} (Ok (tag, (contents, rest))) (Ok (tag', (contents', rest'))) =
    sym (element_again tag contents rest h) ∙ ap element_at e ∙ element_again tag' contents' rest' h' in
    let same = ok_is {E = DerFault} (tag, (contents, rest)) (tag', (contents', rest')) read in
    (ap (λ (x : FirstElement). x.0) same, ap (λ (x : FirstElement). x.1.0) same, ap (λ (x : FirstElement). x.1.1) same)

-- where one element stands at the front, none of another tag does
pub other_tag : (tag tag' : ℕ) (contents whole rest bytes : List ℕ) → IsElement tag' contents
    → whole ≡ enc tag' contents
    → bytes ≡ whole ++ rest → (tag' ≡ tag → ⊥) → HasTagged tag bytes → ⊥
other_tag tag tag' contents whole rest bytes h is text differs (contents', rest', h', text') =
    differs (enc-one tag' tag contents contents' rest rest' h h'
    (ap (λ (front : List ℕ). front ++ rest) (sym is) ∙ sym text ∙ text')).0

-- digits after n make at least n times the base's power
after_ge : (n : ℕ) (ds : List ℕ) → n * 256 ^ length ds ≤ number_from_digits_after 256 n ds
after_ge n [] = omega arith
after_ge n (d ∷ ds) =
    let rest = after_ge (n * 256 + d) ds in
    let power : 256 ^ suc (length ds) ≡ 256 ^ length ds * 256 = pow_more' (length ds) in
    let more : n * 256 * 256 ^ length ds ≤ (n * 256 + d) * 256 ^ length ds =
    mul-le-mul_right (256 ^ length ds) (omega arith) in
    let same : n * 256 ^ suc (length ds) ≡ n * 256 * 256 ^ length ds = rw power (swap n (256 ^ length ds)) in
    omega (arith, rest, more, same)
  where
    pow_more' : (k : ℕ) → 256 ^ suc k ≡ 256 ^ k * 256
    pow_more' k = ap (λ (i : ℕ). 256 ^ i) (sym (add-one k)) ∙ pow_more 256 k

    swap : (a b : ℕ) → a * (b * 256) ≡ a * 256 * b
    swap a b = omega arith

short_enough : (n k : ℕ) → 0 < k → n < 128 * 256 ^ (k - 1) → n < 256 ^ k
short_enough n zero pos h = absurd (omega (arith, pos))
short_enough n (suc k) pos h =
    let power : 256 ^ suc k ≡ 256 ^ k * 256 = ap (λ (i : ℕ). 256 ^ i) (sym (add-one k)) ∙ pow_more 256 k in
    let same : suc k - 1 ≡ k = omega arith in
    let h' : n < 128 * 256 ^ k = subst (λ (i : ℕ). n < 128 * 256 ^ i) same h in
    omega (arith, h', power)

pub fewest : (n : ℕ) → IsFewest n (number_contents n)
unfolding number_contents
fewest n =
    by_digits (digits_of 256 n) (number_digits_of 256 n (omega arith)) (all_below_base_digits_of 256 n (omega arith))
    (λ k pos h. length-digits_of-le 256 k n (omega arith) (short_enough n k pos h))
  where
    by_digits : (ds : List ℕ) → number_from_digits 256 ds ≡ n → AllBelowBase 256 ds
        → ((k : ℕ) → 0 < k → n < 128 * 256 ^ (k - 1) → length ds ≤ k) → IsFewest n (not_negative ds)
    by_digits [] is below least =
        record { number = is; some = omega arith; holds = omega (arith, is); least = λ k pos h. omega arith }
    by_digits (d ∷ ds) is below least = elim (cases_lt d 128) [
      | inl lt ↦
          let one : suc (length ds) - 1 ≡ length ds = omega arith in
          let bound = number_after_lt 256 (0 * 256 + d) ds below.1 in
          let top : (0 * 256 + d + 1) * 256 ^ length ds ≤ 128 * 256 ^ length ds =
          mul-le-mul_right (256 ^ length ds) (omega arith) in
          rw (lt-ltb d 128 lt)
          (record {
            number = is;
            some = omega arith;
            holds = rw one
                (omega (arith, is, bound, top));
            least = least;
          })
      | inr le ↦
          let one : suc (suc (length ds)) - 1 ≡ suc (length ds) = omega arith in
          let bound : number_from_digits 256 (d ∷ ds) < 256 ^ suc (length ds) = number_lt 256 (d ∷ ds) below in
          let low = after_ge (0 * 256 + d) ds in
          let low' : 128 * 256 ^ length ds ≤ (0 * 256 + d) * 256 ^ length ds =
          mul-le-mul_right (256 ^ length ds) (omega arith) in
          rw (le-ltb d 128 le) (record {
            number = is;
            some = omega arith;
            holds = rw one (omega (arith, is, bound));
            least = λ k pos h. elim (cases_lt (length ds) (k - 1)) [
              | inl lt ↦ omega (arith, lt)
              | inr ge ↦ absurd (omega (arith, is, low, low', h, pow-le-pow_right {n = 256} (omega arith) ge))
            ];
          })
    ]

pub number_contents-one : (n n' : ℕ) → number_contents n ≡ number_contents n' → n ≡ n'
number_contents-one n n' e = sym (fewest n).number ∙ ap (number_from_digits 256) e ∙ (fewest n').number
