-- Digits that begin with no 0 are the digits of their number.
use Rattle.std.proofs.Common.{◌≡◌, ℕ, zero, suc, ◌+◌, ◌*◌, ◌/◌, ◌%◌, ◌<◌, ◌≤◌, List, [], ◌∷◌, ◌++◌, length, get_or}
use Rattle.std.proofs.Common.{take, drop, refl, sym, ap, ◌∙◌, append_assoc, arith, inl, inr}
use Rattle.std.specs.Int.Digits.{digits_of, number_from_digits, number_from_digits_after, AllBelowBase}
use Rattle.std.proofs.lemmas.Int.Digits.{digits_of_step}
use Rattle.std.proofs.lemmas.Nat.{div-mul-add, mod-mul-add}
use Rattle.std.proofs.lemmas.Bool.{cases_lt}
use Rattle.std.proofs.Math.Nat.{le-mul_of_pos_right}
use Rattle.std.proofs.lemmas.List.{get_or-drop, get_or-take, get_or_past, length-take, append-nil}
use Rattle.std.proofs.lemmas.List.{get_or_append_left, get_or-append-add}
pub use Rattle.der_core.specs.Element.{AreOctets}

pub AreOctets-tail : (b : ℕ) (bytes : List ℕ) → AreOctets (b ∷ bytes) → AreOctets bytes
AreOctets-tail b bytes h i = h (suc i)

pub AreOctets-drop : (n : ℕ) (bytes : List ℕ) → AreOctets bytes → AreOctets (drop n bytes)
AreOctets-drop n bytes h i = rw get_or-drop (h (n + i))

pub AreOctets-take : (n : ℕ) (bytes : List ℕ) → AreOctets bytes → AreOctets (take n bytes)
AreOctets-take n bytes h i =
    elim (cases_lt i n) [
      | inl lt ↦ rw (get_or-take n bytes i 0 lt) (h i)
      | inr le ↦ rw (get_or_past (take n bytes) i 0 (omega (arith, length-take n bytes))) (omega arith)
    ]

pub AreOctets-left : (xs ys : List ℕ) → AreOctets (xs ++ ys) → AreOctets xs
AreOctets-left xs ys h i =
    elim (cases_lt i (length xs)) [
      | inl lt ↦ rw (← get_or_append_left xs ys 0 i lt) (h i)
      | inr le ↦ rw (get_or_past xs i 0 le) (omega arith)
    ]

pub AreOctets-right : (xs ys : List ℕ) → AreOctets (xs ++ ys) → AreOctets ys
AreOctets-right xs ys h i = rw (← get_or-append-add xs ys i 0) (h (length xs + i))

pub below_base : (ds : List ℕ) → AreOctets ds → AllBelowBase 256 ds
below_base [] h = tt
below_base (d ∷ ds) h = (h 0, below_base ds (AreOctets-tail d ds h))

pub octets_from : (octets : List ℕ) → AllBelowBase 256 octets → AreOctets octets
octets_from [] below i = omega arith
octets_from (o ∷ os) below zero = below.0
octets_from (o ∷ os) below (suc i) = octets_from os below.1 i

bigger : (b n : ℕ) → 2 ≤ b → n ≤ n * b
bigger b n base = le-mul_of_pos_right n (omega arith)

-- one more digit
pub digits_more : (b n d : ℕ) → 2 ≤ b → d < b → 0 < n + d → digits_of b (n * b + d) ≡ digits_of b n ++ d ∷ []
digits_more b n d base lt pos =
    let some : 0 < n * b + d = omega (arith, bigger b n base) in
    let e : digits_of b (n * b + d) ≡ digits_of b ((n * b + d) / b) ++ ((n * b + d) % b ∷ []) =
    digits_of_step b (n * b + d) base some in
    e ∙ rw (div-mul-add n b d lt, mod-mul-add n b d lt) refl

digits_after : (b n : ℕ) (ds : List ℕ) → 2 ≤ b → 0 < n → AllBelowBase b ds
    → digits_of b (number_from_digits_after b n ds) ≡ digits_of b n ++ ds
digits_after b n [] base pos below = sym (append-nil (digits_of b n))
digits_after b n (d ∷ ds) base pos below =
    digits_after b (n * b + d) ds base (omega (arith, bigger b n base)) below.1
    ∙ ap (λ (front : List ℕ). front ++ ds) (digits_more b n d base below.0 (omega arith))
    ∙ append_assoc (digits_of b n) (d ∷ []) ds

-- the digits of the number that digits spell, where the first is not 0
pub digits_of-number : (b : ℕ) (ds : List ℕ) → 2 ≤ b → 0 < get_or ds 0 1 → AllBelowBase b ds
    → digits_of b (number_from_digits b ds) ≡ ds
digits_of-number b [] base first below = refl
digits_of-number b (d ∷ ds) base first below =
    digits_after b (0 * b + d) ds base (omega arith) below.1
    ∙ ap (λ (front : List ℕ). front ++ ds) (digits_more b 0 d base below.0 (omega arith))
