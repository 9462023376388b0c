-- What is read as a number is spelled so, and what is spelled so is read.
use Rattle.std.proofs.Common.{◌≡◌, ℕ, zero, suc, ◌^◌, ◌<◌, ◌≤◌, Bool, true, false, cond, ltb, List, [], ◌∷◌}
use Rattle.std.proofs.Common.{length, get_or, Option, Some, None, refl, sym, ap, subst, ◌∙◌, arith, inl, inr}
use Rattle.std.specs.Int.Digits.{digits_of, number_from_digits}
use Rattle.std.proofs.lemmas.Bool.{cases_lt, ltb-false, lt-ltb, le-ltb, ne_eqb, cases_eq}
use Rattle.std.proofs.lemmas.Int.Digits.{number_lt, length-digits_of-le, first_digits_of, number_digits_of}
use Rattle.std.proofs.Math.Nat.{pow-le-pow_right}
use Rattle.der_core.specs.Number.{not_negative, number_contents}
use Rattle.der_core.specs.Reading.{◌>>?◌, number_digits, number_of}
use Rattle.der_core.specs.Reads.{Reads, Answers}
use Rattle.der_core.proofs.Digits.{AreOctets, AreOctets-tail, below_base, digits_of-number}

-- a step that gave a value
pub some_bind : {A B : Type 0} (o : Option A) (f : A → Option B) (y : B) → (o >>? f) ≡ Some y
    → (x : A) × (o ≡ Some x) × (f x ≡ Some y)
some_bind (Some x) f y e = (x, refl, e)
some_bind None f y e = absurd cc

pub some_is : {A : Type 0} (x y : A) → Some x ≡ Some y → x ≡ y
some_is x y e = cc

-- a test that did not fail
pub some_guard : {A : Type 0} (b : Bool) (x : Option A) (y : A) → cond b None x ≡ Some y → (b ≡ false) × (x ≡ Some y)
some_guard true x y e = absurd cc
some_guard false x y e = (refl, e)

-- digits that begin with no 0, and are octets
record AreDigits (ds : List ℕ) : Type 0 where
  first : 0 < get_or ds 0 1
  octets : AreOctets ds

octets_none : AreOctets []
octets_none i = omega arith

-- a number whose first octet isn't 00
plain : (d : ℕ) (rest ds : List ℕ) → AreOctets (d ∷ rest) → (d ≡ 0 → ⊥)
    → cond (ltb d 128) (Some (d ∷ rest)) None ≡ Some ds → (d ∷ rest ≡ not_negative ds) × AreDigits ds
plain d rest ds octets nz e = elim (cases_lt d 128) [
  | inr le ↦ let wrong : None ≡ Some ds = rw (le-ltb d 128 le) at e in absurd cc
  | inl lt ↦
      let e' : Some (d ∷ rest) ≡ Some ds = rw (lt-ltb d 128 lt) at e in
      let pos : 0 < d = elim (cases_lt 0 d) [ inl l ↦ l | inr le ↦ absurd (nz (omega arith)) ] in
      subst (λ (x : List ℕ). (d ∷ rest ≡ not_negative x) × AreDigits x) (some_is (d ∷ rest) ds e')
      (rw (lt-ltb d 128 lt) refl, record { first = pos; octets = octets })
]

digits_take : (contents ds : List ℕ) → AreOctets contents → number_digits contents ≡ Some ds
    → (contents ≡ not_negative ds) × AreDigits ds
unfolding number_digits
digits_take [] ds octets e = absurd cc
digits_take (d ∷ []) ds octets e = elim (cases_eq d 0) [
  | inl z ↦
      let e' : Some [] ≡ Some ds = subst (λ (x : ℕ). number_digits (x ∷ []) ≡ Some ds) z e in
      subst (λ (x : List ℕ). (d ∷ [] ≡ not_negative x) × AreDigits x) (some_is [] ds e')
      (rw z refl, record { first = omega arith; octets = octets_none })
  | inr nz ↦ plain d [] ds octets nz (rw (ne_eqb d 0 nz) at e)
]
digits_take (d ∷ (c ∷ cs)) ds octets e = elim (cases_eq d 0) [
  | inl z ↦
      let e' : cond (ltb c 128) None (Some (c ∷ cs)) ≡ Some ds =
      subst (λ (x : ℕ). number_digits (x ∷ (c ∷ cs)) ≡ Some ds) z e in
      let g = some_guard (ltb c 128) (Some (c ∷ cs)) ds e' in
      let high : 128 ≤ c = ltb-false c 128 g.0 in
      subst (λ (x : List ℕ). (d ∷ (c ∷ cs) ≡ not_negative x) × AreDigits x) (some_is (c ∷ cs) ds g.1)
      (rw (z, g.0) refl, record { first = omega arith; octets = AreOctets-tail d (c ∷ cs) octets })
  | inr nz ↦ plain d (c ∷ cs) ds octets nz (rw (ne_eqb d 0 nz) at e)
]

pub number_takes : (contents : List ℕ) (n : ℕ) → AreOctets contents → number_of contents ≡ Some n
    → (n < 2 ^ 128) × (contents ≡ number_contents n)
unfolding number_of number_contents
number_takes contents n octets e =
    let b = some_bind (number_digits contents)
    (λ ds. cond (ltb 16 (length ds)) None (Some (number_from_digits 256 ds))) n e in
    let ds = b.0 in
    let t = digits_take contents b.0 octets b.1 in
    let g = some_guard (ltb 16 (length b.0)) (Some (number_from_digits 256 b.0)) n b.2 in
    let n-is : number_from_digits 256 b.0 ≡ n = some_is _ _ g.1 in
    let short : length b.0 ≤ 16 = ltb-false 16 (length b.0) g.0 in
    let below = below_base b.0 t.1.octets in
    let digits : digits_of 256 n ≡ b.0 =
    ap (digits_of 256) (sym n-is) ∙ (digits_of-number 256 b.0 (omega arith) t.1.first below) in
    let room : 256 ^ length b.0 ≤ 256 ^ 16 = pow-le-pow_right {n = 256} (omega arith) short in
    (omega (arith, n-is, number_lt 256 b.0 below, room), rw digits t.0)

digits_again : (ds : List ℕ) → 0 < get_or ds 0 1 → number_digits (not_negative ds) ≡ Some ds
unfolding number_digits
digits_again [] first = refl
digits_again (d ∷ ds) first = elim (cases_lt d 128) [
  | inl lt ↦ rw (lt-ltb d 128 lt, lt-ltb d 128 lt, ne_eqb d 0 (λ e. omega (arith, first, e))) refl
  | inr le ↦ rw (le-ltb d 128 le, le-ltb d 128 le) refl
]

pub number_again : (n : ℕ) → n < 2 ^ 128 → number_of (number_contents n) ≡ Some n
unfolding number_of number_contents
number_again n small =
    let short : length (digits_of 256 n) ≤ 16 = length-digits_of-le 256 16 n (omega arith) (omega arith) in
    rw (
      digits_again (digits_of 256 n) (first n),
      le-ltb 16 (length (digits_of 256 n)) short,
      number_digits_of 256 n (omega arith),
    ) refl
  where
    none : (ds : List ℕ) → 0 < get_or ds 0 0 → 0 < get_or ds 0 1
    none [] h = omega arith
    none (d ∷ ds) h = h

    first : (n : ℕ) → 0 < get_or (digits_of 256 n) 0 1
    first zero = omega arith
    first (suc n) = none (digits_of 256 (suc n)) (first_digits_of 256 (suc n) (omega arith) (omega arith))

pub number_reads : (contents : List ℕ) (r : Option ℕ) → AreOctets contents
    → Answers (λ n. n) r (number_of contents) → Reads number_contents (λ n. n < 2 ^ 128) contents r
number_reads contents (Some x) octets e n = (
  (λ is. let is' : number_of contents ≡ Some n = e ∙ is in number_takes contents n octets is'),
  (λ text. let again : number_of contents ≡ Some n = rw text.1 (number_again n text.0) in sym e ∙ again),
)
number_reads contents None octets e n = (
  (λ is. absurd cc),
  (λ text. let again : number_of contents ≡ Some n = rw text.1 (number_again n text.0) in absurd cc),
)
