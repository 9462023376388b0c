-- A digit by shift and mask of one octet is the digit by division of the whole number.
use Rattle.std.proofs.Common.{◌≡◌, ℕ, zero, suc, ◌+◌, ◌-◌, ◌*◌, ◌/◌, ◌%◌, ◌^◌, ◌<◌, ◌≤◌, List, [], ◌∷◌, length, get_or, take, drop, refl, sym, ap, ◌∙◌, arith, lit<, length-drop, get_or-drop}
use Rattle.std.proofs.lemmas.List.{take-append-drop}
use Rattle.std.proofs.lemmas.Nat.{div-mul-add, shr-shr, field_of, pow-add}
use Rattle.std.proofs.lemmas.Int.Digits.{number_after_append, number_lt, number_more}
use Rattle.std.proofs.Math.Nat.{pow-zero, pow-suc, mul_assoc, mul-add-mod_self_right}
use Rattle.std.specs.Int.Digits.{number_from_digits, number_from_digits_after, AllBelowBase}
use Rattle.lms_verify.specs.declared.kind.OtsKind.{OtsKind}
use Rattle.lms_verify.specs.declared.kind.OtsKind.TheVariants.{W1, W2, W4, W8}
use Rattle.lms_verify.specs.Digits.{digit, number_of}
use Rattle.lms_verify.specs.Kinds.{width}

-- digits that follow a number, as a sum
number_after_is : (b n : ℕ) (ds : List ℕ)
    → number_from_digits_after b n ds ≡ n * b ^ length ds + number_from_digits b ds
number_after_is b n [] = rw (pow-zero b) (omega arith)
number_after_is b n (d ∷ ds) =
    let whole = number_after_is b (n * b + d) ds in
    let alone = number_after_is b (0 * b + d) ds in
    let power : b ^ suc (length ds) ≡ b ^ length ds * b = pow-suc b (length ds) in
    rw (power, whole, alone) (omega arith)

-- octets are digits of base 256
AllBelowBase-octets : (octets : List ℕ) → ((k : ℕ) → get_or octets k 0 < 256) → AllBelowBase 256 octets
AllBelowBase-octets [] fits = tt
AllBelowBase-octets (x ∷ xs) fits = (fits 0, AllBelowBase-octets xs (λ k. fits (suc k)))

octets_after : (octets : List ℕ) (n : ℕ) → ((j : ℕ) → get_or octets j 0 < 256)
    → (k : ℕ) → get_or (drop n octets) k 0 < 256
octets_after octets n fits k = rw get_or-drop (fits (n + k))

pow_of_octet : (m : ℕ) → 256 ^ m ≡ 2 ^ (8 * m)
pow_of_octet zero = refl
pow_of_octet (suc m) =
    let next : 8 * suc m ≡ 8 * m + 8 = omega arith in
    rw (pow-suc 256 m, pow_of_octet m, next, pow-add 2 (8 * m) 8) refl

-- the number without its last octets
number_of_front : (octets : List ℕ) (k : ℕ) → ((j : ℕ) → get_or octets j 0 < 256) → k ≤ length octets
    → number_of octets / 256 ^ (length octets - k) ≡ number_of (take k octets)
number_of_front octets k fits within =
    let front = number_of (take k octets) in
    let rest = drop k octets in
    let size : length rest ≡ length octets - k = length-drop k octets in
    let below : number_of rest < 256 ^ length rest =
    number_lt 256 rest (AllBelowBase-octets rest (octets_after octets k fits)) in
    let whole : number_of octets ≡ front * 256 ^ length rest + number_of rest =
    ap number_of (sym (take-append-drop k octets))
    ∙ number_after_append 256 0 (take k octets) rest ∙ number_after_is 256 front rest in
    rw (whole, ← size) (div-mul-add front (256 ^ length rest) (number_of rest) below)

-- what stands above an octet doesn't count in its digits
low_digit : (a v s w : ℕ) → w + s ≤ 8 → (a * 256 + v) / 2 ^ s % 2 ^ w ≡ v / 2 ^ s % 2 ^ w
low_digit a v s w fits =
    let parts : (8 - (w + s)) + (w + s) ≡ 8 = omega arith in
    let octet : 2 ^ (8 - (w + s)) * 2 ^ (w + s) ≡ 256 =
    sym (pow-add 2 (8 - (w + s)) (w + s)) ∙ ap (λ (k : ℕ). 2 ^ k) parts in
    let split : a * 256 ≡ a * 2 ^ (8 - (w + s)) * 2 ^ (w + s) =
    ap (λ (n : ℕ). a * n) (sym octet) ∙ sym (mul_assoc a (2 ^ (8 - (w + s))) (2 ^ (w + s))) in
    let same : (a * 256 + v) % 2 ^ (w + s) ≡ v % 2 ^ (w + s) =
    rw split (mul-add-mod_self_right (a * 2 ^ (8 - (w + s))) (2 ^ (w + s)) v) in
    sym (field_of (a * 256 + v) w s) ∙ ap (λ (n : ℕ). n / 2 ^ s) same ∙ field_of v w s

-- the digit of w bits from bit x on, s bits above the end of its octet
digit_at : (octets : List ℕ) (w x s end : ℕ) → ((j : ℕ) → get_or octets j 0 < 256)
    → 0 < w → w + x % 8 + s ≡ 8 → end ≡ x + w → end ≤ 8 * length octets
    → get_or octets (x / 8) 0 / 2 ^ s % 2 ^ w ≡ number_of octets / 2 ^ (8 * length octets - end) % 2 ^ w
digit_at octets w x s end fits some room ends within =
    let k = x / 8 in
    let here : k < length octets = omega arith in
    let m = length octets - (k + 1) in
    let place : 8 * length octets - end ≡ 8 * m + s = omega arith in
    let front : number_of octets / 2 ^ (8 * m) ≡ number_of (take k octets) * 256 + get_or octets k 0 =
    ap (λ (n : ℕ). number_of octets / n) (sym (pow_of_octet m))
    ∙ number_of_front octets (k + 1) fits (omega arith) ∙ number_more 256 octets k here in
    rw (place, ← shr-shr (number_of octets) (8 * m) s, front)
    (sym (low_digit (number_of (take k octets)) (get_or octets k 0) s w (omega arith)))

pub digit_is : (ots : OtsKind) (octets : List ℕ) (i : ℕ) → ((j : ℕ) → get_or octets j 0 < 256)
    → width ots * (i + 1) ≤ 8 * length octets
    → get_or octets (width ots * i / 8) 0 / 2 ^ (8 - width ots - width ots * i % 8) % 2 ^ width ots
    ≡ digit (width ots) octets i
digit_is W1 octets i fits within =
    digit_at octets 1 (1 * i) (8 - 1 - 1 * i % 8) (1 * (i + 1)) fits
    (lit< tt) (omega arith) (omega arith) within
digit_is W2 octets i fits within =
    digit_at octets 2 (2 * i) (8 - 2 - 2 * i % 8) (2 * (i + 1)) fits
    (lit< tt) (omega arith) (omega arith) within
digit_is W4 octets i fits within =
    digit_at octets 4 (4 * i) (8 - 4 - 4 * i % 8) (4 * (i + 1)) fits
    (lit< tt) (omega arith) (omega arith) within
digit_is W8 octets i fits within =
    digit_at octets 8 (8 * i) (8 - 8 - 8 * i % 8) (8 * (i + 1)) fits
    (lit< tt) (omega arith) (omega arith) within
