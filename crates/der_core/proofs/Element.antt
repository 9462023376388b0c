-- What is read at the front is an element, and an element at the front is read.
use Rattle.std.proofs.Common.{◌≡◌, ℕ, suc, ◌+◌, ◌-◌, ◌%◌, ◌^◌, ◌<◌, ◌≤◌, Bool, true, false, cond, eqb, ltb}
use Rattle.std.proofs.Common.{◌&&◌, ◌||◌, List, [], ◌∷◌, ◌++◌, length, get_or, take, drop, Result, Ok, Err}
use Rattle.std.proofs.Common.{refl, sym, ap, subst, ◌∙◌, append_assoc, arith, inl, inr}
use Rattle.std.specs.Int.Digits.{digits_of, number_from_digits}
use Rattle.std.proofs.lemmas.Bool.{cases_lt, ltb-false, lt-ltb, le-ltb, eqb-false, ne_eqb, or_parts, and_cases}
use Rattle.std.proofs.lemmas.Int.Digits.{number_lt, length-digits_of-le, first_digits_of, number_digits_of}
use Rattle.std.proofs.lemmas.List.{take_at, drop_at, take-append-drop, length-append, length-take, get_or-take}
use Rattle.std.proofs.Math.Nat.{pow-le-pow_right}
use Rattle.der_core.specs.declared.fault.DerFault.{DerFault}
use Rattle.der_core.specs.declared.fault.DerFault.TheVariants.{Short, Malformed}
use Rattle.der_core.specs.Element.{length_octets, enc, IsElement}
use Rattle.der_core.specs.Reading.{◌>>=◌, FirstElement, long_length_at, length_at, contents_at, element_at}
use Rattle.der_core.proofs.Digits.{AreOctets, AreOctets-tail, AreOctets-take, below_base, digits_of-number}

-- a test that did not fail
pub guard : {A : Type 0} (b : Bool) (d : DerFault) (x : Result A DerFault) (y : A) → cond b (Err d) x ≡ Ok y
    → (b ≡ false) × (x ≡ Ok y)
guard true d x y e = absurd cc
guard false d x y e = (refl, e)

-- the value of a step that did not fail
pub bind_ok : {A B E : Type 0} (r : Result A E) (f : A → Result B E) (y : B) → (r >>= f) ≡ Ok y
    → (x : A) × (r ≡ Ok x) × (f x ≡ Ok y)
bind_ok (Ok x) f y e = (x, refl, e)
bind_ok (Err d) f y e = absurd cc

pub ok_is : {A E : Type 0} (x y : A) → ◌≡◌ {A = Result A E} (Ok x) (Ok y) → x ≡ y
ok_is x y e = cc

-- ---- lengths of k octets

-- digits that may stand as a length
record IsLong (ds : List ℕ) : Type 0 where
  first : 0 < get_or ds 0 0
  least : length ds ≡ 1 → 128 ≤ get_or ds 0 0

long_again : (ds rest : List ℕ) → IsLong ds
    → long_length_at (length ds) (ds ++ rest) ≡ Ok (number_from_digits 256 ds, rest)
unfolding long_length_at
long_again [] rest h = absurd (omega (arith, h.first))
long_again (d ∷ ds) rest h =
    let nonzero : eqb d 0 ≡ false = ne_eqb d 0 (λ e. omega (arith, h.first, e)) in
    let least : (eqb (suc (length ds)) 1 && ltb d 128) ≡ false = elim (cases_lt d 128) [
      | inl lt ↦ rw (ne_eqb (suc (length ds)) 1 (λ e. omega (arith, h.least e, lt))) refl
      | inr le ↦ rw (le-ltb d 128 le) (and_false (eqb (suc (length ds)) 1))
    ] in
    let long : ltb (suc (length (ds ++ rest))) (suc (length ds)) ≡ false =
    le-ltb _ _ (omega (arith, length-append ds rest)) in
    rw (nonzero, least, long, take_at ds rest (length ds) refl, drop_at ds rest (length ds) refl) refl
  where
    and_false : (b : Bool) → (b && false) ≡ false
    and_false true = refl
    and_false false = refl

long_takes : (k : ℕ) (bytes : List ℕ) (n : ℕ) (rest : List ℕ) → 0 < k → k ≤ 4 → AreOctets bytes
    → long_length_at k bytes ≡ Ok (n, rest)
    → (n < 2 ^ 32) × (128 ≤ n) × (length (digits_of 256 n) ≡ k) × (bytes ≡ digits_of 256 n ++ rest)
unfolding long_length_at
long_takes k [] n rest pos small octets e = absurd cc
long_takes k (d ∷ ds) n rest pos small octets e =
    let front = take k (d ∷ ds) in
    let g = guard (eqb d 0 || (eqb k 1 && ltb d 128)) Malformed
    (cond (ltb (suc (length ds)) k) (Err Short)
    (Ok (number_from_digits 256 (take k (d ∷ ds)), drop k (d ∷ ds)))) (n, rest) e in
    let h = guard (ltb (suc (length ds)) k) Short
    (Ok (number_from_digits 256 (take k (d ∷ ds)), drop k (d ∷ ds))) (n, rest) g.1 in
    let tests = or_parts (eqb d 0) (eqb k 1 && ltb d 128) g.0 in
    let long : k ≤ suc (length ds) = ltb-false _ _ h.0 in
    let pair = ok_is {E = DerFault} (number_from_digits 256 (take k (d ∷ ds)), drop k (d ∷ ds)) (n, rest) h.1 in
    let n-is : number_from_digits 256 (take k (d ∷ ds)) ≡ n = ap (λ (p : ℕ × List ℕ). p.0) pair in
    let rest-is : drop k (d ∷ ds) ≡ rest = ap (λ (p : ℕ × List ℕ). p.1) pair in
    let len : length (take k (d ∷ ds)) ≡ k = omega (arith, length-take k (d ∷ ds)) in
    let first : get_or (take k (d ∷ ds)) 0 1 ≡ d = get_or-take k (d ∷ ds) 0 1 pos in
    let nonzero = eqb-false d 0 tests.0 in
    let d-pos : 0 < d = elim (cases_lt 0 d) [ inl lt ↦ lt | inr le ↦ absurd (nonzero (omega arith)) ] in
    let below = below_base (take k (d ∷ ds)) (AreOctets-take k (d ∷ ds) octets) in
    let digits : digits_of 256 n ≡ take k (d ∷ ds) =
    rw (← n-is) (digits_of-number 256 (take k (d ∷ ds)) (omega arith) (omega (arith, first, d-pos)) below) in
    let bound : n < 256 ^ k =
    rw (← n-is)
    (subst (λ (j : ℕ). number_from_digits 256 (take k (d ∷ ds)) < 256 ^ j) len
    (number_lt 256 (take k (d ∷ ds)) below)) in
    let room : 256 ^ k ≤ 256 ^ 4 = pow-le-pow_right {n = 256} (omega arith) small in
    let d-len : length (digits_of 256 n) ≡ k = rw digits len in (
      omega (arith, bound, room),
      least k d ds n pos tests.1 n-is d-len,
      d-len,
      rw (digits, ← rest-is) (sym (take-append-drop k (d ∷ ds))),
    )
  where
    one : (k d : ℕ) (ds : List ℕ) (n : ℕ) → k ≡ 1 → number_from_digits 256 (take k (d ∷ ds)) ≡ n → d ≡ n
    one k d ds n k-is e = omega (arith, subst (λ (j : ℕ). number_from_digits 256 (take j (d ∷ ds)) ≡ n) k-is e)

    least : (k d : ℕ) (ds : List ℕ) (n : ℕ) → 0 < k → (eqb k 1 && ltb d 128) ≡ false
        → number_from_digits 256 (take k (d ∷ ds)) ≡ n → length (digits_of 256 n) ≡ k → 128 ≤ n
    least k d ds n pos test n-is len = elim (cases_lt n 128) [
      | inr le ↦ le
      | inl lt ↦ elim (and_cases (eqb k 1) (ltb d 128) test) [
        | inl other ↦
            absurd (eqb-false k 1 other (omega (arith, len, length-digits_of-le 256 1 n (omega arith) (omega arith))))
        | inr high ↦ let k-is : k ≡ 1 =
            omega (arith, pos, len, length-digits_of-le 256 1 n (omega arith) (omega arith)) in omega
            (arith, one k d ds n k-is n-is, ltb-false d 128 high)
      ]
    ]

-- ---- lengths

pub length_takes : (bytes : List ℕ) (n : ℕ) (rest : List ℕ) → AreOctets bytes → length_at bytes ≡ Ok (n, rest)
    → (n < 2 ^ 32) × (bytes ≡ length_octets n ++ rest)
unfolding length_at length_octets
length_takes [] n rest octets e = absurd cc
length_takes (b ∷ bs) n rest octets e = elim (cases_lt b 128) [
  | inl lt ↦
      let e' : ◌≡◌ {A = Result (ℕ × List ℕ) DerFault} (Ok (b, bs)) (Ok (n, rest)) = rw (lt-ltb b 128 lt) at e in
      let pair = ok_is {E = DerFault} (b, bs) (n, rest) e' in
      let n-is : b ≡ n = ap (λ (p : ℕ × List ℕ). p.0) pair in
      let rest-is : bs ≡ rest = ap (λ (p : ℕ × List ℕ). p.1) pair in
      (omega arith, rw (← n-is, ← rest-is, lt-ltb b 128 lt) refl)
  | inr le ↦
      let e' = rw (le-ltb b 128 le) at e in
      let g = guard (eqb b 128 || ltb 132 b) Malformed (long_length_at (b - 128) bs) (n, rest) e' in
      let tests = or_parts (eqb b 128) (ltb 132 b) g.0 in
      let other = eqb-false b 128 tests.0 in
      let high : 128 < b = elim (cases_lt 128 b) [ inl lt ↦ lt | inr le' ↦ absurd (other (omega arith)) ] in
      let low : b ≤ 132 = ltb-false 132 b tests.1 in
      let t = long_takes (b - 128) bs n rest (omega arith) (omega arith) (AreOctets-tail b bs octets) g.1 in
      let b-is : b ≡ 128 + length (digits_of 256 n) = omega (arith, t.2) in
      (t.0, rw (le-ltb n 128 t.1, ← b-is) (ap (λ (x : List ℕ). b ∷ x) t.3))
]

pub length_again : (n : ℕ) (rest : List ℕ) → n < 2 ^ 32 → length_at (length_octets n ++ rest) ≡ Ok (n, rest)
unfolding length_at length_octets
length_again n rest small = elim (cases_lt n 128) [
  | inl lt ↦ rw (lt-ltb n 128 lt, lt-ltb n 128 lt) refl
  | inr le ↦
      let ds = digits_of 256 n in
      let first : 0 < get_or (digits_of 256 n) 0 0 = first_digits_of 256 n (omega arith) (omega arith) in
      let long : 0 < length (digits_of 256 n) = long_enough (digits_of 256 n) first in
      let short : length (digits_of 256 n) ≤ 4 = length-digits_of-le 256 4 n (omega arith) (omega arith) in
      let number : number_from_digits 256 (digits_of 256 n) ≡ n = number_digits_of 256 n (omega arith) in
      let is-long : IsLong (digits_of 256 n) =
      record { first = first; least = λ e. omega (arith, one (digits_of 256 n) e, number) } in
      let k : (128 + length (digits_of 256 n)) - 128 ≡ length (digits_of 256 n) = omega arith in
      rw (
        le-ltb n 128 le,
        le-ltb (128 + length (digits_of 256 n)) 128 (omega arith),
        ne_eqb (128 + length (digits_of 256 n)) 128 (λ e. omega arith),
        le-ltb 132 (128 + length (digits_of 256 n)) (omega arith),
        k,
        long_again (digits_of 256 n) rest is-long,
        number,
      ) refl
]
  where
    long_enough : (ds : List ℕ) → 0 < get_or ds 0 0 → 0 < length ds
    long_enough [] h = h
    long_enough (d ∷ ds) h = omega arith

    one : (ds : List ℕ) → length ds ≡ 1 → number_from_digits 256 ds ≡ get_or ds 0 0
    one [] e = refl
    one (d ∷ []) e = omega arith
    one (d ∷ (c ∷ ds)) e = absurd (omega (arith, e))

-- ---- elements

pub element_takes : (bytes : List ℕ) (x : FirstElement) → AreOctets bytes → element_at bytes ≡ Ok x
    → IsElement x.0 x.1.0 × (bytes ≡ enc x.0 x.1.0 ++ x.1.1)
unfolding element_at contents_at enc
element_takes [] x octets e = absurd cc
element_takes (tag ∷ bytes) x octets e =
    let g = guard (eqb (tag % 32) 31) Malformed (length_at bytes >>= contents_at tag) x e in
    let n = bind_ok (length_at bytes) (contents_at tag) x g.1 in
    let t = length_takes bytes n.0.0 n.0.1 (AreOctets-tail tag bytes octets) n.1 in
    let h = guard (ltb (length n.0.1) n.0.0) Short (Ok (tag, (take n.0.0 n.0.1, drop n.0.0 n.0.1))) x n.2 in
    let long : n.0.0 ≤ length n.0.1 = ltb-false _ _ h.0 in
    let len : length (take n.0.0 n.0.1) ≡ n.0.0 = omega (arith, length-take n.0.0 n.0.1) in
    let ne = eqb-false (tag % 32) 31 g.0 in
    let bits : tag % 32 < 31 = elim (cases_lt (tag % 32) 31) [ inl lt ↦ lt | inr le ↦ absurd (ne (omega arith)) ] in
    let made : FirstElement = (tag, (take n.0.0 n.0.1, drop n.0.0 n.0.1)) in
    let whole : tag ∷ bytes ≡
    (tag ∷ (length_octets (length (take n.0.0 n.0.1)) ++ take n.0.0 n.0.1)) ++ drop n.0.0 n.0.1
    = ap (λ (y : List ℕ). tag ∷ y)
    (t.1 ∙ rw (
      len,
      append_assoc (length_octets n.0.0) (take n.0.0 n.0.1) (drop n.0.0 n.0.1),
      take-append-drop n.0.0 n.0.1,
    ) refl) in
    subst (λ (y : FirstElement). IsElement y.0 y.1.0
    × (tag ∷ bytes ≡ (y.0 ∷ (length_octets (length y.1.0) ++ y.1.0)) ++ y.1.1)) (ok_is {E = DerFault} made x h.1)
    (record { octet = octets 0; low_bits = bits; fits = omega (arith, t.0, len) }, whole)

pub element_again : (tag : ℕ) (contents rest : List ℕ) → IsElement tag contents
    → element_at (enc tag contents ++ rest) ≡ Ok (tag, (contents, rest))
unfolding element_at contents_at enc
element_again tag contents rest h =
    let regrouped : (length_octets (length contents) ++ contents) ++ rest ≡ length_octets (length contents) ++
    (contents ++ rest) = append_assoc (length_octets (length contents)) contents rest in
    let long : ltb (length (contents ++ rest)) (length contents) ≡ false =
    le-ltb _ _ (omega (arith, length-append contents rest)) in
    rw (
      ne_eqb (tag % 32) 31 (λ e. omega (arith, h.low_bits, e)),
      regrouped,
      length_again (length contents) (contents ++ rest) h.fits,
      long,
      take_at contents rest (length contents) refl,
      drop_at contents rest (length contents) refl,
    ) refl
