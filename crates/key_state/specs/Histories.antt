-- What happens to a row over all its time: spends, and power cuts between them and inside them.
-- No leaf may be used twice (RFC 8554, section 9.2).
use Rattle.std.specs.Prelude.{◌≡◌, ◌⊎◌, ℕ, ◌+◌, ◌<◌, List, [], ◌∷◌, ◌++◌, length, Contains}
use Rattle.edge_board.specs.Board.{View, Keeps}
use Rattle.key_state.specs.Row.{spent_in, use_in}
use Rattle.key_state.specs.KeyBlock.{row_of, row_start}

-- One thing that happens to a row, and how the row reads afterwards.
pub data Event : Type 0 where
  -- a spend gives a leaf
  gives : ℕ → List ℕ → Event
  -- a spend gives none
  fails : List ℕ → Event
  -- the power is cut between two spends, or at any moment inside one
  cuts : List ℕ → Event

-- The leaf is the row's first unspent one, and is spent now.
abbrev pub GivesTo : List ℕ → ℕ → List ℕ → Type 0
GivesTo row leaf next = (leaf < length row) × (leaf ≡ spent_in row) × (next ≡ use_in row)

-- The row changes at its first unspent leaf alone, to any octet.
abbrev pub FailsTo : List ℕ → List ℕ → Type 0
FailsTo row next = Keeps (λ place. place ≡ spent_in row) row next

-- The row changes there and at the doubtful places, to any octets.
abbrev pub CutsTo : List ℕ → List ℕ → List ℕ → Type 0
CutsTo row doubt next = Keeps (λ place. (place ≡ spent_in row) ⊎ Contains doubt place) row next

-- The events happen to the row one after the other, where a power cut may change the doubtful
-- places too: those of spends that failed since the last sync.
abbrev pub IsHistory : List ℕ → List ℕ → List Event → Type 0
IsHistory row doubt [] = Unit {0}
IsHistory row doubt (gives leaf next ∷ events) =
    GivesTo row leaf next × IsHistory next [] events
IsHistory row doubt (fails next ∷ events) =
    FailsTo row next × IsHistory next (doubt ++ spent_in row ∷ []) events
IsHistory row doubt (cuts next ∷ events) = CutsTo row doubt next × IsHistory next [] events

-- how the row reads after the events
abbrev pub row_after : List ℕ → List Event → List ℕ
row_after row [] = row
row_after row (gives leaf next ∷ events) = row_after next events
row_after row (fails next ∷ events) = row_after next events
row_after row (cuts next ∷ events) = row_after next events

-- the doubtful places after them
abbrev pub doubt_after : List ℕ → List ℕ → List Event → List ℕ
doubt_after row doubt [] = doubt
doubt_after row doubt (gives leaf next ∷ events) = doubt_after next [] events
doubt_after row doubt (fails next ∷ events) =
    doubt_after next (doubt ++ spent_in row ∷ []) events
doubt_after row doubt (cuts next ∷ events) = doubt_after next [] events

-- The events are a history that leads from a row and its doubtful places to others.
pub record Leads (row doubt : List ℕ) (events : List Event) (end end_doubt : List ℕ) : Type 0 where
  pub history : IsHistory row doubt events
  pub row_at_end : end ≡ row_after row events
  pub doubt_at_end : end_doubt ≡ doubt_after row doubt events

-- the leaves that were given, in their order
abbrev pub leaves_given : List Event → List ℕ
leaves_given [] = []
leaves_given (gives leaf next ∷ events) = leaf ∷ leaves_given events
leaves_given (fails next ∷ events) = leaves_given events
leaves_given (cuts next ∷ events) = leaves_given events

-- On the board the row's pending places are among the doubtful ones.
abbrev pub IsDoubt : ℕ → View → List ℕ → Type 0
IsDoubt leaves v doubt =
    (place : ℕ) → place < leaves → v.pending (row_start + place) → Contains doubt place

-- What a spend left that gave a leaf is an event of a history.
pub record IsGift (leaves leaf : ℕ) (old new : View) : Type 0 where
  pub gives : GivesTo (row_of leaves old.cells) leaf (row_of leaves new.cells)
  pub doubts : IsDoubt leaves new []

-- What a spend left that gave none is an event of a history, and so is a power cut in any spend.
pub record IsEvent (leaves : ℕ) (doubt : List ℕ) (old new : View) : Type 0 where
  pub fails : FailsTo (row_of leaves old.cells) (row_of leaves new.cells)
  pub doubts : IsDoubt leaves new (doubt ++ spent_in (row_of leaves old.cells) ∷ [])
  pub cuts : (image s : List ℕ) → new.might old.clock image s
      → CutsTo (row_of leaves old.cells) doubt (row_of leaves image)

-- Calls that are no spends leave the row as it reads, and a power cut in them changes no more
-- than the doubtful places.
pub record SparesRow (leaves : ℕ) (doubt : List ℕ) (old new : View) : Type 0 where
  pub same : row_of leaves new.cells ≡ row_of leaves old.cells
  pub doubts : IsDoubt leaves new doubt
  pub cuts : (image s : List ℕ) → new.might old.clock image s
      → CutsTo (row_of leaves old.cells) doubt (row_of leaves image)
