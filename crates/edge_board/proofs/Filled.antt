-- Places of a list that are filled.
use Rattle.std.proofs.Common.{◌≡◌, ◌⊎◌, inl, inr, ⊎_elim, ℕ, zero, suc, ◌+◌, ◌-◌, ◌<◌, ◌≤◌, List, [], ◌∷◌, length, get_or, drop, Bool, true, false, refl, sym, ◌∙◌, ap, arith}
use Rattle.std.proofs.Math.ListN.{set}
use Rattle.std.proofs.lemmas.List.{drop_more}
use Rattle.edge_board.specs.Board.{Within}
use Rattle.edge_board.specs.Events.{filled, written, length-filled}

-- no places
pub filled_none : {A : Type 0} (at : ℕ) (x : A) (ys : List A) → filled at 0 x ys ≡ ys
filled_none at x [] = refl
filled_none zero x (y ∷ ys) = refl
filled_none (suc at) x (y ∷ ys) = ap (λ l. y ∷ l) (filled_none at x ys)

-- the first place, and then the others
pub filled_step : {A : Type 0} (at m : ℕ) (x : A) (ys : List A) → filled (suc at) m x (set ys at x)
    ≡ filled at (suc m) x ys
filled_step at m x [] = refl
filled_step zero m x (y ∷ ys) = refl
filled_step (suc at) m x (y ∷ ys) = ap (λ l. y ∷ l) (filled_step at m x ys)

-- one turn of a loop
pub filled_turn : {A : Type 0} (i e : ℕ) (x : A) (ys : List A) → i < e
    → filled (i + 1) (e - (i + 1)) x (set ys i x) ≡ filled i (e - i) x ys
filled_turn i e x ys lt =
    let one : i + 1 ≡ suc i = omega arith in
    let rest : suc (e - (i + 1)) ≡ e - i = omega arith in
    ap (λ (k : ℕ). filled k (e - (i + 1)) x (set ys i x)) one ∙ filled_step i (e - (i + 1)) x ys
    ∙ ap (λ (k : ℕ). filled i k x ys) rest

-- one place
pub filled_one : {A : Type 0} (at : ℕ) (x : A) (ys : List A) → set ys at x ≡ filled at 1 x ys
filled_one at x ys = sym (filled_none (suc at) x (set ys at x)) ∙ filled_step at 0 x ys

-- a filled place holds x
pub filled_in : {A : Type 0} (at n : ℕ) (x d : A) (ys : List A) (i : ℕ) → Within at n i → i < length ys
    → get_or (filled at n x ys) i d ≡ x
filled_in at n x d [] i within lt = absurd (omega arith)
filled_in zero zero x d (y ∷ ys) i within lt = absurd (omega (arith, within.1))
filled_in zero (suc n) x d (y ∷ ys) zero within lt = refl
filled_in zero (suc n) x d (y ∷ ys) (suc i) within lt =
    filled_in zero n x d ys i (omega arith, omega (arith, within.1)) (omega arith)
filled_in (suc at) n x d (y ∷ ys) zero within lt = absurd (omega (arith, within.0))
filled_in (suc at) n x d (y ∷ ys) (suc i) within lt =
    filled_in at n x d ys i (omega (arith, within.0), omega (arith, within.1)) (omega arith)

-- any other holds what it held
pub filled_out : {A : Type 0} (at n : ℕ) (x d : A) (ys : List A) (i : ℕ) → (Within at n i → ⊥)
    → get_or (filled at n x ys) i d ≡ get_or ys i d
filled_out at n x d [] i out = refl
filled_out zero zero x d (y ∷ ys) i out = refl
filled_out zero (suc n) x d (y ∷ ys) zero out = absurd (out (omega arith, omega arith))
filled_out zero (suc n) x d (y ∷ ys) (suc i) out =
    filled_out zero n x d ys i (λ w. out (omega arith, omega (arith, w.1)))
filled_out (suc at) n x d (y ∷ ys) zero out = refl
filled_out (suc at) n x d (y ∷ ys) (suc i) out =
    filled_out at n x d ys i (λ w. out (omega (arith, w.0), omega (arith, w.1)))

-- what is true there is among the places or was true
pub filled_from : (at n : ℕ) (ys : List Bool) (i : ℕ) → get_or (filled at n true ys) i false ≡ true
    → Within at n i ⊎ (get_or ys i false ≡ true)
filled_from at n [] i is = inr is
filled_from zero zero (y ∷ ys) i is = inr is
filled_from zero (suc n) (y ∷ ys) zero is = inl (omega arith, omega arith)
filled_from zero (suc n) (y ∷ ys) (suc i) is =
    ⊎_elim (λ w. inl (omega arith, omega (arith, w.1))) (λ was. inr was) (filled_from zero n ys i is)
filled_from (suc at) n (y ∷ ys) zero is = inr is
filled_from (suc at) n (y ∷ ys) (suc i) is = ⊎_elim (λ w. inl (omega (arith, w.0), omega (arith, w.1)))
    (λ was. inr was) (filled_from at n ys i is)

-- what was true stays true
pub filled_still : (at n : ℕ) (ys : List Bool) (i : ℕ) → get_or ys i false ≡ true
    → get_or (filled at n true ys) i false ≡ true
filled_still at n [] i is = is
filled_still zero zero (y ∷ ys) i is = is
filled_still zero (suc n) (y ∷ ys) zero is = refl
filled_still zero (suc n) (y ∷ ys) (suc i) is = filled_still zero n ys i is
filled_still (suc at) n (y ∷ ys) zero is = is
filled_still (suc at) n (y ∷ ys) (suc i) is = filled_still at n ys i is

-- two numbers in order
pub le_or_lt : (m n : ℕ) → (m ≤ n) ⊎ (n < m)
le_or_lt zero n = inl (omega arith)
le_or_lt (suc m) zero = inr (omega arith)
le_or_lt (suc m) (suc n) = ⊎_elim (λ le. inl (omega arith)) (λ lt. inr (omega arith)) (le_or_lt m n)

-- one turn of a loop
pub written_turn : (at i : ℕ) (bytes ys : List ℕ) → i < length bytes
    → written (at + (i + 1)) (drop (i + 1) bytes) (set ys (at + i) (get_or bytes i 0))
    ≡ written (at + i) (drop i bytes) ys
written_turn at i bytes ys lt =
    let x = get_or bytes i 0 in
    let rest = drop (i + 1) bytes in
    let place : at + (i + 1) ≡ at + i + 1 = omega arith in
    ap (λ (k : ℕ). written k rest (set ys (at + i) x)) place
    ∙ ap (λ (l : List ℕ). written (at + i + 1) rest l) (filled_one (at + i) x ys)
    ∙ sym (ap (λ (l : List ℕ). written (at + i) l ys) (drop_more bytes i 0 lt))

-- a place before the written ones holds what it held
pub written_before : (at : ℕ) (bytes ys : List ℕ) (k : ℕ) → k < at → get_or (written at bytes ys) k 0
    ≡ get_or ys k 0
written_before at [] ys k lt = refl
written_before at (x ∷ xs) ys k lt = written_before (at + 1) xs (filled at 1 x ys) k (omega arith)
    ∙ filled_out at 1 x 0 ys k (λ w. omega (arith, w.0))

-- a written place holds its octet
pub written_in : (at : ℕ) (bytes ys : List ℕ) (i : ℕ) → i < length bytes → at + length bytes ≤ length ys
    → get_or (written at bytes ys) (at + i) 0 ≡ get_or bytes i 0
written_in at [] ys i lt fits = absurd (omega arith)
written_in at (x ∷ xs) ys zero lt fits =
    let place : at + 0 ≡ at = omega arith in
    ap (λ (k : ℕ). get_or (written (at + 1) xs (filled at 1 x ys)) k 0) place
    ∙ written_before (at + 1) xs (filled at 1 x ys) at (omega arith)
    ∙ filled_in at 1 x 0 ys at (omega arith, omega arith) (omega arith)
written_in at (x ∷ xs) ys (suc i) lt fits =
    let place : at + suc i ≡ at + 1 + i = omega arith in
    ap (λ (k : ℕ). get_or (written (at + 1) xs (filled at 1 x ys)) k 0) place
    ∙ written_in (at + 1) xs (filled at 1 x ys) i (omega arith) (omega (arith, length-filled at 1 x ys))
