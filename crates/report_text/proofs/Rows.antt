-- Lines of a list's elements, and the digits of a moment, one after the other.
use Rattle.std.proofs.Common.{◌≡◌, ℕ, ◌+◌, ◌/◌, ◌%◌, ◌<◌, List, [], ◌∷◌, ◌++◌, map, take, slice_get}
use Rattle.std.proofs.Common.{Some, refl, sym, ap, ◌∙◌, arith}
use Rattle.std.specs.Fmt.{decimal, digits}
use Rattle.std.specs.List.{flat_map}
use Rattle.std.proofs.lemmas.Bool.{lt-ltb}
use Rattle.std.proofs.lemmas.List.{take_more, flat_map_more}
use Rattle.std.proofs.lemmas.Option.{slice_get_within, get_or_from_slice_get}
use Rattle.der_core.specs.Time.{last_digits}

-- the line of one more element
pub line_more : {X : Type 0} (line : X → List ℕ) (xs : List X) (i : ℕ) (x : X) (first before after : List ℕ)
    → Some x ≡ slice_get xs i → before ≡ first ++ flat_map line (take i xs) → after ≡ before ++ line x
    → after ≡ first ++ flat_map line (take (i + 1) xs)
line_more {X} line xs i x first before after is so_far more =
    let within = slice_get_within xs i x (sym is) in
    more ∙ ap (λ (front : List ℕ). front ++ line x) so_far ∙ flat_map_more line first (take i xs) x
    ∙ ap (λ (y : X). first ++ flat_map line (take i xs ++ y ∷ [])) (sym (get_or_from_slice_get xs i x x (sym is)))
    ∙ ap (λ (ys : List X). first ++ flat_map line ys) (sym (take_more xs i x within))

-- a digit in decimal
one_digit : (d : ℕ) → d < 10 → decimal d ≡ (48 + d) ∷ []
unfolding digits
one_digit d small =
    let none : d / 10 ≡ 0 = omega (arith, small) in
    let same : d % 10 ≡ d = omega (arith, small) in
    rw (none, same, lt-ltb d 10 small) refl

-- the digits at places, one after the other
pub digits_at : (number : ℕ) (places : List ℕ)
    → flat_map (λ place. decimal (number / place % 10)) places ≡ map (λ place. 48 + number / place % 10) places
digits_at number [] = refl
digits_at number (place ∷ rest) =
    ap (λ (ds : List ℕ). ds ++ flat_map (λ place. decimal (number / place % 10)) rest)
    (one_digit (number / place % 10) (omega arith))
    ∙ ap (λ (ds : List ℕ). (48 + number / place % 10) ∷ ds) (digits_at number rest)

-- what a digit counts, for each of fourteen
abbrev pub places : List ℕ
places =
    10000000000000 ∷ 1000000000000 ∷ 100000000000 ∷ 10000000000 ∷ 1000000000 ∷ 100000000 ∷ 10000000 ∷ 1000000 ∷ 100000
    ∷ 10000 ∷ 1000 ∷ 100 ∷ 10 ∷ 1 ∷ []

-- the digits at those places are the last fourteen
pub fourteen_digits : (number : ℕ) → flat_map (λ place. decimal (number / place % 10)) places ≡ last_digits 14 number
fourteen_digits number = digits_at number places
