-- Truth values, integers and bit strings are read exactly where the octets are their texts.
use Rattle.std.proofs.Common.{◌≡◌, ℕ, ◌-◌, ◌%◌, ◌^◌, ◌<◌, ◌≤◌, Bool, true, false, cond, eqb, ltb, ◌&&◌}
use Rattle.std.proofs.Common.{◌||◌, List, [], ◌∷◌, length, get_or, Some, None, refl, subst}
use Rattle.std.proofs.Common.{arith, inl, inr, ◌⊎◌}
use Rattle.std.proofs.lemmas.Bool.{ltb-false, ltb-true, lt-ltb, le-ltb, eqb-true, eqb-false, eq-eqb, ne_eqb}
use Rattle.std.proofs.lemmas.Bool.{cases_eq, or_parts, and_parts, and_cases}
use Rattle.std.proofs.lemmas.Option.{cond_some}
use Rattle.der_core.specs.BitString.{bits_contents, IsBits}
use Rattle.der_core.specs.Boolean.{boolean_contents}
use Rattle.der_core.specs.Integer.{IsInteger}
use Rattle.der_core.specs.LeafReading.{boolean_of, integer_of, are_bits, bits_of}
use Rattle.der_core.specs.Shapes.{IsWhole}
use Rattle.der_core.proofs.Numbers.{some_is, some_guard}

-- ---- truth values

boolean_take : (contents : List ℕ) (value : Bool) → boolean_of contents ≡ Some value → contents ≡ boolean_contents value
unfolding boolean_of boolean_contents
boolean_take [] value e = absurd cc
boolean_take (o ∷ []) value e = elim (cases_eq o 0) [
  | inl zero ↦
      let is : Some false ≡ Some value = rw (eq-eqb o 0 zero) at e in
      subst (λ (v : Bool). o ∷ [] ≡ boolean_contents v) (some_is false value is) (rw zero refl)
  | inr nonzero ↦
      let e' : cond (eqb o 255) (Some true) None ≡ Some value = rw (ne_eqb o 0 nonzero) at e in
      let g = cond_some (eqb o 255) true value e' in
      subst (λ (v : Bool). o ∷ [] ≡ boolean_contents v) g.1 (rw (eqb-true _ _ g.0) refl)
]
boolean_take (o ∷ (p ∷ os)) value e = absurd cc

boolean_again : (value : Bool) → boolean_of (boolean_contents value) ≡ Some value
unfolding boolean_of boolean_contents
boolean_again true = refl
boolean_again false = refl

pub bool-whole : IsWhole boolean_contents (λ _. Unit {0}) boolean_of
bool-whole = record {
  takes = λ contents value octets e. (tt, boolean_take contents value e);
  again = λ value h. boolean_again value;
}

-- ---- integers

integer_take : (contents octets : List ℕ) → integer_of contents ≡ Some octets → IsInteger octets × (contents ≡ octets)
unfolding integer_of
integer_take [] octets e = absurd cc
integer_take (o ∷ []) octets e =
    subst (λ (x : List ℕ). IsInteger x × (o ∷ [] ≡ x)) (some_is (o ∷ []) octets e) (
      record {
        some = omega arith;
        not_zeros = λ more. absurd (omega arith);
        not_ones = λ more. absurd (omega arith);
      },
      refl,
    )
integer_take (o ∷ (p ∷ os)) octets e =
    let g = some_guard ((eqb o 0 && ltb p 128) || (eqb o 255 && ltb 127 p)) (Some (o ∷ (p ∷ os))) octets e in
    let tests = or_parts (eqb o 0 && ltb p 128) (eqb o 255 && ltb 127 p) g.0 in
    let zeros : o ≡ 0 → 128 ≤ p =
    λ is. elim (and_cases (eqb o 0) (ltb p 128) tests.0) [
      | inl other ↦ absurd (eqb-false o 0 other is)
      | inr high ↦ ltb-false p 128 high
    ] in
    let ones : o ≡ 255 → p < 128 =
    λ is. elim (and_cases (eqb o 255) (ltb 127 p) tests.1) [
      | inl other ↦ absurd (eqb-false o 255 other is)
      | inr low ↦ omega (arith, ltb-false 127 p low)
    ] in
    subst (λ (x : List ℕ). IsInteger x × (o ∷ (p ∷ os) ≡ x)) (some_is (o ∷ (p ∷ os)) octets g.1)
    (record { some = omega arith; not_zeros = λ more is. zeros is; not_ones = λ more is. ones is }, refl)

integer_again : (octets : List ℕ) → IsInteger octets → integer_of octets ≡ Some octets
unfolding integer_of
integer_again [] h = absurd (omega (arith, h.some))
integer_again (o ∷ []) h = refl
integer_again (o ∷ (p ∷ os)) h = rw (zeros (cases_eq o 0), ones (cases_eq o 255)) refl
  where
    two : 1 < length (o ∷ (p ∷ os))
    two = omega arith

    zeros : (o ≡ 0) ⊎ (o ≡ 0 → ⊥) → (eqb o 0 && ltb p 128) ≡ false
    zeros (inl is) = rw (eq-eqb o 0 is, le-ltb p 128 (h.not_zeros two is)) refl
    zeros (inr other) = rw (ne_eqb o 0 other) refl

    ones : (o ≡ 255) ⊎ (o ≡ 255 → ⊥) → (eqb o 255 && ltb 127 p) ≡ false
    ones (inl is) = rw (eq-eqb o 255 is, le-ltb 127 p (omega (arith, h.not_ones two is))) refl
    ones (inr other) = rw (ne_eqb o 255 other) refl

pub int_octets-whole : IsWhole (λ (octets : List ℕ). octets) IsInteger integer_of
int_octets-whole = record {
  takes = λ contents octets are e. integer_take contents octets e;
  again = integer_again;
}

-- ---- bit strings

are_bits_valid : (unused : ℕ) (octets : List ℕ) → are_bits unused octets ≡ true → IsBits (unused, octets)
unfolding are_bits
are_bits_valid unused [] test =
    let none : unused ≡ 0 = eqb-true _ _ test in
    record { unused = omega arith; none = λ empty. none; zeros = omega arith }
are_bits_valid unused (o ∷ os) test =
    let tests = and_parts (ltb unused 8) (eqb (get_or (o ∷ os) (length os) 0 % 2 ^ unused) 0) test in
    let last : length (o ∷ os) - 1 ≡ length os = omega arith in
    record {
      unused = omega (arith, ltb-true _ _ tests.0);
      none = λ empty. absurd (omega arith);
      zeros = rw last
          (eqb-true _ _ tests.1);
    }

are_bits_again : (unused : ℕ) (octets : List ℕ) → IsBits (unused, octets) → are_bits unused octets ≡ true
unfolding are_bits
are_bits_again unused [] h = eq-eqb _ _ (h.none refl)
are_bits_again unused (o ∷ os) h =
    let last : length (o ∷ os) - 1 ≡ length os = omega arith in
    let zeros : get_or (o ∷ os) (length os) 0 % 2 ^ unused ≡ 0 =
    subst (λ (k : ℕ). get_or (o ∷ os) k 0 % 2 ^ unused ≡ 0) last h.zeros in
    rw (lt-ltb unused 8 (omega (arith, h.unused)), eq-eqb _ _ zeros) refl

bits_take : (contents : List ℕ) (bits : ℕ × List ℕ) → bits_of contents ≡ Some bits
    → IsBits bits × (contents ≡ bits_contents bits)
unfolding bits_of bits_contents
bits_take [] bits e = absurd cc
bits_take (unused ∷ octets) bits e =
    let g = cond_some (are_bits unused octets) (unused, octets) bits e in
    subst (λ (x : ℕ × List ℕ). IsBits x × (unused ∷ octets ≡ x.0 ∷ x.1)) g.1 (are_bits_valid unused octets g.0, refl)

bits_again : (bits : ℕ × List ℕ) → IsBits bits → bits_of (bits_contents bits) ≡ Some bits
unfolding bits_of bits_contents
bits_again bits h = rw (are_bits_again bits.0 bits.1 h) refl

pub bits-whole : IsWhole bits_contents IsBits bits_of
bits-whole = record { takes = λ contents bits are e. bits_take contents bits e; again = bits_again }
