-- The contents of an integer of either sign are the fewest octets whose two's complement it is, and there is one
-- such spelling.
use Rattle.std.proofs.Common.{◌≡◌, ℕ, ℤ, pos, negsuc, ◌-ℤ◌, zero, suc, ◌+◌, ◌-◌, ◌*◌, ◌^◌, ◌<◌, ◌≤◌, List, []}
use Rattle.std.proofs.Common.{◌∷◌, map, length, get_or, refl, sym, ap, subst, ◌∙◌, arith, add-one, inl, inr}
use Rattle.std.specs.Prelude.{◌↔◌}
use Rattle.std.specs.Int.Digits.{digits_of, number_from_digits, number_from_digits_after, AllBelowBase}
use Rattle.std.proofs.lemmas.Bool.{cases_lt, cases_eq, lt-ltb, le-ltb}
use Rattle.std.proofs.lemmas.Grind.{pow_more}
use Rattle.std.proofs.lemmas.Int.{ints}
use Rattle.std.proofs.lemmas.Int.Digits.{number_after_lt, all_below_base_digits_of, first_digits_of}
use Rattle.std.proofs.Math.Nat.{mul-le-mul_right}
use Rattle.der_core.specs.Integer.{IsInteger, twos_complement, integer_contents, IsLeastSpelling}
use Rattle.der_core.specs.Number.{not_negative, number_contents}
use Rattle.der_core.proofs.Digits.{AreOctets, below_base, octets_from, digits_of-number}
use Rattle.der_core.proofs.Theorems.{fewest}

abbrev AllOctets : List ℕ → Type 0
AllOctets octets = AllBelowBase 256 octets

-- ---- every bit turned over

abbrev complement : List ℕ → List ℕ
complement octets = map (λ octet. 255 - octet) octets

power_more : (k : ℕ) → 256 ^ suc k ≡ 256 ^ k * 256
power_more k = ap (λ (i : ℕ). 256 ^ i) (sym (add-one k)) ∙ pow_more 256 k

complement_twice : (octets : List ℕ) → AllOctets octets → complement (complement octets) ≡ octets
complement_twice [] are = refl
complement_twice (o ∷ os) are =
    let first : 255 - (255 - o) ≡ o = omega (arith, are.0) in
    rw first (ap (λ (rest : List ℕ). o ∷ rest) (complement_twice os are.1))

length-complement : (octets : List ℕ) → length (complement octets) ≡ length octets
length-complement [] = refl
length-complement (o ∷ os) = ap suc (length-complement os)

complement_octets : (octets : List ℕ) → AllOctets (complement octets)
complement_octets [] = tt
complement_octets (o ∷ os) = (omega arith, complement_octets os)

-- a number and the one of the bits turned over make all ones
number_after_complement : (m n : ℕ) (octets : List ℕ) → AllOctets octets
    → number_from_digits_after 256 m (complement octets) + number_from_digits_after 256 n octets + 1
    ≡ (m + n + 1) * 256 ^ length octets
number_after_complement m n [] are = omega arith
number_after_complement m n (o ∷ os) are =
    number_after_complement (m * 256 + (255 - o)) (n * 256 + o) os are.1
    ∙ regroup (256 ^ length os) (256 ^ suc (length os)) (power_more (length os))
  where
    sum : m * 256 + (255 - o) + (n * 256 + o) + 1 ≡ (m + n + 1) * 256
    sum = omega (arith, are.0)

    swap : (a power : ℕ) → a * 256 * power ≡ a * (power * 256)
    swap a power = omega arith

    regroup : (power power' : ℕ) → power' ≡ power * 256
        → (m * 256 + (255 - o) + (n * 256 + o) + 1) * power ≡ (m + n + 1) * power'
    regroup power power' p = rw (sum, p) (swap (m + n + 1) power)

number_complement : (octets : List ℕ) → AllOctets octets
    → number_from_digits 256 octets + number_from_digits 256 (complement octets) + 1 ≡ 256 ^ length octets
number_complement octets are = omega (arith, number_after_complement 0 0 octets are)

-- ---- the sign

not_below_zero : (octets : List ℕ) → get_or octets 0 0 < 128
    → twos_complement octets ≡ pos (number_from_digits 256 octets)
not_below_zero octets low = rw (lt-ltb (get_or octets 0 0) 128 low) refl

difference : (n m power : ℕ) → n + m + 1 ≡ power → pos n -ℤ pos power ≡ negsuc m
difference n m power e = omega (arith, ints, e)

below_zero : (octets : List ℕ) → AllOctets octets → 128 ≤ get_or octets 0 0
    → twos_complement octets ≡ negsuc (number_from_digits 256 (complement octets))
below_zero octets are high =
    rw (le-ltb (get_or octets 0 0) 128 high) (difference _ _ _ (number_complement octets are))

complement_low : (octets : List ℕ) → AllOctets octets → 128 ≤ get_or octets 0 0 → get_or (complement octets) 0 0 < 128
complement_low [] are high = omega arith
complement_low (o ∷ os) are high = omega (arith, high)

complement_high : (octets : List ℕ) → 0 < length octets → get_or octets 0 0 < 128 → 128 ≤ get_or (complement octets) 0 0
complement_high [] some low = absurd (omega (arith, some))
complement_high (o ∷ os) some low = omega (arith, low)

complement_integer : (octets : List ℕ) → AllOctets octets → IsInteger octets → IsInteger (complement octets)
complement_integer [] are h = absurd (omega (arith, h.some))
complement_integer (o ∷ []) are h =
    record {
      some = omega arith;
      not_zeros = λ more. absurd (omega (arith, more));
      not_ones = λ more. absurd (omega (arith, more));
    }
complement_integer (o ∷ (p ∷ os)) are h =
    record {
      some = omega arith;
      not_zeros = λ more is. omega (arith, h.not_ones (omega arith) (omega (arith, is, are.0)));
      not_ones = λ more is. omega (arith, h.not_zeros (omega arith) (omega (arith, is, are.0)));
    }

-- ---- numbers that aren't below 0

number_contents_octets : (n : ℕ) → AllOctets (number_contents n)
unfolding number_contents
number_contents_octets n = padded (digits_of 256 n) (all_below_base_digits_of 256 n (omega arith))
  where
    padded : (ds : List ℕ) → AllBelowBase 256 ds → AllBelowBase 256 (not_negative ds)
    padded [] below = (omega arith, tt)
    padded (d ∷ ds) below = elim (cases_lt d 128) [
      | inl lt ↦ rw (lt-ltb d 128 lt) below
      | inr le ↦ rw (le-ltb d 128 le) (omega arith, below)
    ]

number_contents_low : (n : ℕ) → get_or (number_contents n) 0 0 < 128
unfolding number_contents
number_contents_low n = padded (digits_of 256 n)
  where
    padded : (ds : List ℕ) → get_or (not_negative ds) 0 0 < 128
    padded [] = omega arith
    padded (d ∷ ds) = elim (cases_lt d 128) [
      | inl lt ↦ rw (lt-ltb d 128 lt) lt
      | inr le ↦ rw (le-ltb d 128 le) (omega arith)
    ]

number_contents_integer : (n : ℕ) → IsInteger (number_contents n)
unfolding number_contents
number_contents_integer n = padded (digits_of 256 n) (first n)
  where
    first : (n : ℕ) → 0 < length (digits_of 256 n) → 0 < get_or (digits_of 256 n) 0 0
    first zero some = absurd (omega (arith, some))
    first (suc n) some = first_digits_of 256 (suc n) (omega arith) (omega arith)

    padded : (ds : List ℕ) → (0 < length ds → 0 < get_or ds 0 0) → IsInteger (not_negative ds)
    padded [] some = record {
      some = omega arith;
      not_zeros = λ more. absurd (omega (arith, more));
      not_ones = λ more. absurd (omega (arith, more));
    }
    padded (d ∷ ds) some = elim (cases_lt d 128) [
      | inl lt ↦
          let pos : 0 < d = some (omega arith) in
          rw (lt-ltb d 128 lt) (record {
            some = omega arith;
            not_zeros = λ more is. absurd (omega (arith, pos, is));
            not_ones = λ more is. absurd (omega (arith, lt, is));
          })
      | inr le ↦ rw (le-ltb d 128 le)
          (record {
            some = omega arith;
            not_zeros = λ more is. le;
            not_ones = λ more is. absurd (omega (arith, is));
          })
    ]

after_zero : (octets : List ℕ) → AllOctets octets → (0 < length octets → 128 ≤ get_or octets 0 0)
    → number_contents (number_from_digits 256 (0 ∷ octets)) ≡ 0 ∷ octets
unfolding number_contents
after_zero [] are high = refl
after_zero (p ∷ os) are high =
    let high' : 128 ≤ p = high (omega arith) in
    rw (digits_of-number 256 (p ∷ os) (omega arith) (omega (arith, high')) are, le-ltb p 128 high') refl

number_contents_again : (octets : List ℕ) → AllOctets octets → IsInteger octets → get_or octets 0 0 < 128
    → number_contents (number_from_digits 256 octets) ≡ octets
unfolding number_contents
number_contents_again [] are h low = absurd (omega (arith, h.some))
number_contents_again (o ∷ os) are h low = elim (cases_eq o 0) [
  | inr other ↦
      let pos : 0 < o = elim (cases_lt 0 o) [ inl lt ↦ lt | inr le ↦ absurd (other (omega (arith, le))) ] in
      rw (digits_of-number 256 (o ∷ os) (omega arith) pos are, lt-ltb o 128 low) refl
  | inl is ↦
      subst (λ (z : ℕ). number_contents (number_from_digits 256 (z ∷ os)) ≡ z ∷ os) (sym is)
      (after_zero os are.1 (λ some. h.not_zeros (omega (arith, some)) is))
]

-- ---- numbers of either sign

-- what is spelled by octets whose top bit is not set, and by others
by_sign : (P : List ℕ → ℤ → Type 0) (octets : List ℕ) → AllOctets octets
    → (get_or octets 0 0 < 128 → P octets (pos (number_from_digits 256 octets)))
    → (128 ≤ get_or octets 0 0 → P octets (negsuc (number_from_digits 256 (complement octets))))
    → P octets (twos_complement octets)
by_sign P octets are low high = elim (cases_lt (get_or octets 0 0) 128) [
  | inl lt ↦ subst (P octets) (sym (not_below_zero octets lt)) (low lt)
  | inr le ↦ subst (P octets) (sym (below_zero octets are le)) (high le)
]

-- octets that are an integer are the contents of their number
pub integer_contents_again : (octets : List ℕ) → AllOctets octets → IsInteger octets
    → integer_contents (twos_complement octets) ≡ octets
integer_contents_again octets are h =
    by_sign (λ os number. integer_contents number ≡ os) octets are
    (λ low. number_contents_again octets are h low)
    (λ high. ap complement
    (number_contents_again (complement octets) (complement_octets octets) (complement_integer octets are h)
    (complement_low octets are high)) ∙ complement_twice octets are)

-- so many octets hold this number
number_lt_low : (octets : List ℕ) → AllOctets octets → 0 < length octets → get_or octets 0 0 < 128
    → number_from_digits 256 octets < 128 * 256 ^ (length octets - 1)
number_lt_low [] are some low = absurd (omega (arith, some))
number_lt_low (o ∷ os) are some low =
    let one : suc (length os) - 1 ≡ length os = omega arith in
    let bound = number_after_lt 256 (0 * 256 + o) os are.1 in
    let top : (0 * 256 + o + 1) * 256 ^ length os ≤ 128 * 256 ^ length os =
    mul-le-mul_right (256 ^ length os) (omega (arith, low)) in
    rw one (omega (arith, bound, top))

number_contents_least : (octets : List ℕ) → AllOctets octets → 0 < length octets → get_or octets 0 0 < 128
    → length (number_contents (number_from_digits 256 octets)) ≤ length octets
number_contents_least octets are some low = (fewest (number_from_digits 256 octets)).least (length octets) some
    (number_lt_low octets are some low)

-- the contents of their number are no more than the octets
integer_contents_least : (octets : List ℕ) → AllOctets octets → 0 < length octets
    → length (integer_contents (twos_complement octets)) ≤ length octets
integer_contents_least octets are some =
    by_sign (λ os number. length (integer_contents number) ≤ length os) octets are
    (λ low. number_contents_least octets are some low)
    (λ high.
    let size : length (complement octets) ≡ length octets = length-complement octets in
    let some' : 0 < length (complement octets) = omega (arith, some, size) in
    let least =
    number_contents_least (complement octets) (complement_octets octets) some'
    (complement_low octets are high) in
    omega (arith, least, size, length-complement (number_contents (number_from_digits 256 (complement octets)))))

-- the contents of a number are octets, an integer, and spell it
pub record AreContents (octets : List ℕ) (number : ℤ) : Type 0 where
  pub are : AllOctets octets
  pub integer : IsInteger octets
  pub spells : twos_complement octets ≡ number

pub integer_contents_spell : (number : ℤ) → AreContents (integer_contents number) number
integer_contents_spell (pos n) = record {
  are = number_contents_octets n;
  integer = number_contents_integer n;
  spells = not_below_zero (number_contents n) (number_contents_low n) ∙ ap (λ (k : ℕ). pos k) (fewest n).number;
}
integer_contents_spell (negsuc n) =
    let plain = number_contents n in
    let high = complement_high (number_contents n) (fewest n).some (number_contents_low n) in
    record {
      are = complement_octets (number_contents n);
      integer = complement_integer (number_contents n) (number_contents_octets n) (number_contents_integer n);
      spells =
          below_zero (complement (number_contents n)) (complement_octets (number_contents n)) high
          ∙ ap (λ (octets : List ℕ). negsuc (number_from_digits 256 octets))
          (complement_twice (number_contents n) (number_contents_octets n))
          ∙ ap (λ (k : ℕ). negsuc k) (fewest n).number;
    }

-- ---- the laws

pub one_text : (number : ℤ) (octets : List ℕ)
    → (AreOctets octets × IsInteger octets × (twos_complement octets ≡ number)) ↔ (octets ≡ integer_contents number)
one_text number octets = (
  (λ h. sym (integer_contents_again octets (below_base octets h.0) h.1) ∙ ap integer_contents h.2),
  (λ is. let h = integer_contents_spell number in
      rw is (octets_from (integer_contents number) h.are, h.integer, h.spells)),
)

least_spelling : (octets : List ℕ) → AllOctets octets → IsInteger octets
    → IsLeastSpelling (twos_complement octets) octets
least_spelling octets are h = record {
  octets = octets_from octets are;
  some = h.some;
  spells = refl;
  least = λ others others_are some' same.
      let are' = below_base others others_are in
      let mine : length (integer_contents (twos_complement octets)) ≡ length octets =
      ap length (integer_contents_again octets are h) in
      let theirs =
      subst (λ (z : ℤ). length (integer_contents z) ≤ length others) same
      (integer_contents_least others are' some') in
      omega (arith, mine, theirs);
}

-- an octet in front that repeats the top bit may be left out
tail_not_below : (p : ℕ) (os : List ℕ) → p < 128 → twos_complement (p ∷ os) ≡ twos_complement (0 ∷ (p ∷ os))
tail_not_below p os low = not_below_zero (p ∷ os) low ∙ sym (not_below_zero (0 ∷ (p ∷ os)) (omega arith))

tail_below : (p : ℕ) (os : List ℕ) → AllOctets (p ∷ os) → 128 ≤ p
    → twos_complement (p ∷ os) ≡ twos_complement (255 ∷ (p ∷ os))
tail_below p os are high = below_zero (p ∷ os) are high
    ∙ sym (below_zero (255 ∷ (p ∷ os)) (omega arith, are) (omega arith))

least_integer : (octets : List ℕ) → AllOctets octets → IsLeastSpelling (twos_complement octets) octets
    → IsInteger octets
least_integer [] are h = absurd (omega (arith, h.some))
least_integer (o ∷ []) are h =
    record {
      some = omega arith;
      not_zeros = λ more. absurd (omega (arith, more));
      not_ones = λ more. absurd (omega (arith, more));
    }
least_integer (o ∷ (p ∷ os)) are h = record {
  some = omega arith;
  not_zeros = λ more zero. elim (cases_lt p 128) [
    | inr le ↦ le
    | inl lt ↦ absurd (omega (
      arith,
      h.least (p ∷ os) (octets_from (p ∷ os) are.1) (omega arith)
          (tail_not_below p os lt ∙ ap (λ (z : ℕ). twos_complement (z ∷ (p ∷ os))) (sym zero)),
    ))
  ];
  not_ones = λ more ones. elim (cases_lt p 128) [
    | inl lt ↦ lt
    | inr le ↦ absurd (omega (
      arith,
      h.least (p ∷ os) (octets_from (p ∷ os) are.1) (omega arith)
          (tail_below p os are.1 le ∙ ap (λ (z : ℕ). twos_complement (z ∷ (p ∷ os))) (sym ones)),
    ))
  ];
}

pub fewest_octets : (octets : List ℕ) → AreOctets octets
    → IsInteger octets ↔ IsLeastSpelling (twos_complement octets) octets
fewest_octets octets are =
    let below = below_base octets are in (least_spelling octets below, least_integer octets below)
