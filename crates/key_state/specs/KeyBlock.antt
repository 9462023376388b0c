-- Where a board keeps the row of its key: in the first octets of block 17. The layout is this
-- project's own; a key has 2 ^ h leaves for its height h of 5 or 10 (RFC 8554, section 5.1).
use Rattle.std.specs.Prelude.{◌≡◌, ◌⊎◌, ℕ, ◌+◌, ◌<◌, List, take, drop}
use Rattle.key_state.specs.Row.{spent_in}

-- the position of the row
abbrev pub row_start : ℕ
row_start = 69632

-- the row of so many leaves
abbrev pub row_of : ℕ → List ℕ → List ℕ
row_of leaves cells = take leaves (drop row_start cells)

-- a key has 32 or 1,024 leaves
abbrev pub IsLeafCount : ℕ → Type 0
IsLeafCount leaves = (leaves ≡ 32) ⊎ (leaves ≡ 1024)

-- one of the row's positions
abbrev pub InRow : ℕ → ℕ → Type 0
InRow leaves i = (leaf : ℕ) × (leaf < leaves) × (i ≡ row_start + leaf)

-- the position of the row's first unspent leaf, where there is one
abbrev pub FirstUnspent : ℕ → List ℕ → ℕ → Type 0
FirstUnspent leaves cells i =
    (spent_in (row_of leaves cells) < leaves) × (i ≡ row_start + spent_in (row_of leaves cells))
