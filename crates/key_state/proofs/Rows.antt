-- Where a row's first unspent leaf stands, what changes when it is spent, and the row of a board.
use Rattle.std.proofs.Common.{◌≡◌, ◌≢◌, inl, inr, ℕ, zero, suc, ◌+◌, ◌<◌, ◌≤◌, List, [], ◌∷◌, length, get_or, drop, refl, sym, ◌∙◌, ap, arith, get_or-take, get_or-drop, length-take, length-drop}
use Rattle.std.proofs.lemmas.List.{ext_get_or, get_or_past}
use Rattle.std.proofs.lemmas.Bool.{cases_eq, cases_lt}
use Rattle.std.proofs.lemmas.Bool.Decides.{nat_tests}
use Rattle.edge_board.specs.Board.{View, Keeps, IsHonest, cell}
use Rattle.key_state.specs.Row.{spent_in, use_in}
use Rattle.key_state.specs.KeyBlock.{row_of, row_start, IsLeafCount, FirstUnspent}

use_unspent : (x : ℕ) (xs : List ℕ) → x ≡ 255 → use_in (x ∷ xs) ≡ 0 ∷ xs
use_unspent x xs is = grind (arith, nat_tests)

use_spent : (x : ℕ) (xs : List ℕ) → x ≢ 255 → use_in (x ∷ xs) ≡ x ∷ use_in xs
use_spent x xs is = grind (arith, nat_tests)

spent_none : (x : ℕ) (xs : List ℕ) → x ≡ 255 → spent_in (x ∷ xs) ≡ 0
spent_none x xs is = grind (arith, nat_tests)

spent_more : (x : ℕ) (xs : List ℕ) → x ≢ 255 → spent_in (x ∷ xs) ≡ suc (spent_in xs)
spent_more x xs is = grind (arith, nat_tests)

-- each leaf before the first unspent one is spent
pub before_first : (row : List ℕ) (i : ℕ) → i < spent_in row → get_or row i 0 ≢ 255
before_first [] i lt is = absurd (omega arith)
before_first (x ∷ xs) zero lt is = absurd (omega (arith, spent_none x xs is))
before_first (x ∷ xs) (suc i) lt is = elim (cases_eq x 255) [
  | inl unspent ↦ absurd (omega (arith, spent_none x xs unspent))
  | inr spent ↦ before_first xs i (omega (arith, spent_more x xs spent)) is
]

-- no more leaves are spent than there are
pub spent_in_few : (row : List ℕ) → spent_in row ≤ length row
spent_in_few [] = omega arith
spent_in_few (x ∷ xs) = elim (cases_eq x 255) [
  | inl is ↦ omega (arith, spent_none x xs is)
  | inr is ↦ omega (arith, spent_more x xs is, spent_in_few xs)
]

-- where the first octets aren't FF, the first unspent leaf comes after them
pub first_after : (row : List ℕ) (n : ℕ) → n ≤ length row
    → ((i : ℕ) → i < n → get_or row i 0 ≢ 255) → n ≤ spent_in row
first_after [] n few used = omega arith
first_after (x ∷ xs) zero few used = omega arith
first_after (x ∷ xs) (suc n) few used = elim (cases_eq x 255) [
  | inl is ↦ absurd (used 0 (omega arith) is)
  | inr is ↦ omega (
    arith,
    spent_more x xs is,
    first_after xs n (omega arith) (λ i lt. used (suc i) (omega arith)),
  )
]

-- a leaf that is spent keeps its octet
pub length-use_in : (row : List ℕ) → length (use_in row) ≡ length row
length-use_in [] = refl
length-use_in (x ∷ xs) = elim (cases_eq x 255) [
  | inl is ↦ ap length (use_unspent x xs is)
  | inr is ↦ ap length (use_spent x xs is) ∙ ap suc (length-use_in xs)
]

-- the place of the first unspent leaf holds 0
pub use_at : (row : List ℕ) → spent_in row < length row → get_or (use_in row) (spent_in row) 0 ≡ 0
use_at [] lt = absurd (omega arith)
use_at (x ∷ xs) lt = elim (cases_eq x 255) [
  | inl is ↦ ap (λ (k : ℕ). get_or (use_in (x ∷ xs)) k 0) (spent_none x xs is)
      ∙ ap (λ (l : List ℕ). get_or l 0 0) (use_unspent x xs is)
  | inr is ↦ ap (λ (k : ℕ). get_or (use_in (x ∷ xs)) k 0) (spent_more x xs is)
      ∙ ap (λ (l : List ℕ). get_or l (suc (spent_in xs)) 0) (use_spent x xs is)
      ∙ use_at xs (omega (arith, spent_more x xs is))
]

-- and the others hold what they held
pub use_other : (row : List ℕ) (i : ℕ) → i ≢ spent_in row → get_or (use_in row) i 0 ≡ get_or row i 0
use_other [] i ne = refl
use_other (x ∷ xs) zero ne = elim (cases_eq x 255) [
  | inl is ↦ absurd (ne (sym (spent_none x xs is)))
  | inr is ↦ ap (λ (l : List ℕ). get_or l 0 0) (use_spent x xs is)
]
use_other (x ∷ xs) (suc i) ne = elim (cases_eq x 255) [
  | inl is ↦ ap (λ (l : List ℕ). get_or l (suc i) 0) (use_unspent x xs is)
  | inr is ↦ ap (λ (l : List ℕ). get_or l (suc i) 0) (use_spent x xs is)
      ∙ use_other xs i (λ e. ne (ap suc e ∙ sym (spent_more x xs is)))
]

-- a row that differs at its first unspent leaf alone has no fewer spent
pub spent_stay : (row next : List ℕ) → Keeps (λ place. place ≡ spent_in row) row next → spent_in row ≤ spent_in next
spent_stay row next keeps = first_after next (spent_in row) (omega (arith, keeps.size, spent_in_few row))
    (λ i lt is. before_first row i lt (sym (keeps.each i (λ e. absurd (omega (arith, e, lt)))) ∙ is))

-- and more, where that leaf holds 0
pub spent_rise : (row next : List ℕ) → Keeps (λ place. place ≡ spent_in row) row next
    → spent_in row < length row → cell next (spent_in row) ≡ 0 → spent_in row < spent_in next
spent_rise row next keeps lt blank =
    let more : spent_in row + 1 ≤ spent_in next = first_after next (spent_in row + 1) (omega (arith, keeps.size, lt))
    (λ i below is. elim (cases_eq i (spent_in row)) [
      | inl same ↦ absurd (omega (arith, is, ap (λ (k : ℕ). get_or next k 0) same, blank))
      | inr other ↦ before_first row i (omega (arith, below, other)) (sym (keeps.each i other) ∙ is)
    ]) in
    omega (arith, more)

-- an octet of the row, by its position on the board
pub row_cell : (leaves i : ℕ) (cells : List ℕ) → i < leaves
    → get_or (row_of leaves cells) i 0 ≡ cell cells (row_start + i)
row_cell leaves i cells lt = get_or-take leaves (drop row_start cells) i 0 lt ∙ get_or-drop row_start cells i 0

-- the row has an octet a leaf
pub row_length : (leaves : ℕ) (cells : List ℕ) → row_start + leaves ≤ length cells
    → length (row_of leaves cells) ≡ leaves
row_length leaves cells fits =
    omega (arith, length-take leaves (drop row_start cells), length-drop row_start cells)

-- a board of 18 blocks has the whole row
pub row_fits : {tc tm : Type 0} → tc → (leaves : ℕ) (v : View) → IsHonest tc tm v
    → IsLeafCount leaves → 18 ≤ v.blocks → row_start + leaves ≤ length v.cells
row_fits told leaves v honest count blocks = omega (arith, honest.size told, blocks, count)

-- what is kept of the cells is kept of the row
pub row_keeps : {free places : ℕ → Type 0} (leaves : ℕ) (old new : List ℕ)
    → row_start + leaves ≤ length old
    → ((place : ℕ) → place < leaves → free (row_start + place) → places place)
    → Keeps free old new → Keeps places (row_of leaves old) (row_of leaves new)
row_keeps leaves old new fits free_in keeps =
    let long = row_length leaves old fits in
    let long_new = row_length leaves new (omega (arith, fits, keeps.size)) in
    record {
      size = long_new ∙ sym long;
      each = λ i out. elim (cases_lt i leaves) [
        | inl lt ↦ row_cell leaves i new lt ∙ keeps.each (row_start + i) (λ f. out (free_in i lt f))
            ∙ sym (row_cell leaves i old lt)
        | inr ge ↦ get_or_past (row_of leaves new) i 0 (omega (arith, long_new, ge))
            ∙ sym (get_or_past (row_of leaves old) i 0 (omega (arith, long, ge)))
      ];
    }

-- a row of which the first unspent leaf alone was blanked
pub row_used : (leaves : ℕ) (old new : List ℕ) → row_start + leaves ≤ length old
    → spent_in (row_of leaves old) < leaves → Keeps (FirstUnspent leaves old) old new
    → cell new (row_start + spent_in (row_of leaves old)) ≡ 0
    → row_of leaves new ≡ use_in (row_of leaves old)
row_used leaves old new fits below keeps blank =
    let row = row_of leaves old in
    let long = row_length leaves old fits in
    let long_new = row_length leaves new (omega (arith, fits, keeps.size)) in
    ext_get_or 0 (row_of leaves new) (use_in row) (omega (arith, long, long_new, length-use_in row))
    (λ i lt.
    let few : i < leaves = omega (arith, long_new) in
    elim (cases_eq i (spent_in row)) [
      | inl is ↦ row_cell leaves i new few ∙ ap (λ (k : ℕ). cell new (row_start + k)) is ∙ blank
          ∙ sym (ap (λ (k : ℕ). get_or (use_in row) k 0) is ∙ use_at row (omega (arith, long, below)))
      | inr ne ↦ row_cell leaves i new few
          ∙ keeps.each (row_start + i) (λ first. ne (omega (arith, first.1)))
          ∙ sym (row_cell leaves i old few) ∙ sym (use_other row i ne)
    ])
