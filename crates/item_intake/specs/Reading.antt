-- An item of a stream so far: where it ends, and what is kept of it.
use Rattle.std.specs.Prelude.{◌≡◌, ◌⊎◌, ℕ, ◌<◌, ◌≤◌, Bool, true, false, List, [], length, None}
use Rattle.edge_board.specs.Board.{View}
use Rattle.der_core.specs.Items.{IsSequence, HasSequence, BeginsSequence}
use Rattle.der_core.specs.Progress.{Progress, Declares, Sees}
use Rattle.cms_signed.specs.Outline.{Sees as SeesOutline}
use Rattle.judge_core.specs.Conditions.{most_contents}
use Rattle.item_intake.specs.declared.intake.Intake.{Intake}
use Rattle.item_intake.specs.declared.reader.Reader.{Reader}
use Rattle.item_intake.specs.Inflows.{Start}
use Rattle.item_intake.specs.Intakes.{IsIntake}

-- the octets are read past: they declare contents above the limit, or begin no SEQUENCE
abbrev pub IsPast : List ℕ → Type 0
IsPast item = ((size : ℕ) × Declares item size × (most_contents < size)) ⊎ (BeginsSequence item → ⊥)

-- These octets of the item have come, and it is read past or not.
pub record HasSplit (splitter : Progress) (started skips : Bool) (item : List ℕ) : Type 0 where
  pub sees : Sees splitter item
  pub none : started ≡ false → item ≡ []
  pub some : started ≡ true → 0 < length item
  pub past : skips ≡ true → IsPast item
  pub kept : skips ≡ false → (size : ℕ) → Declares item size → size ≤ most_contents

-- the item has ended with its last octet, or goes on
abbrev pub SplitsOff : Bool → List ℕ → Type 0
SplitsOff true item = IsSequence item
SplitsOff false item = HasSequence item → ⊥

-- What is kept of an item of which these octets have come: all of them, unless it is read past.
pub record IsTaking (told moments : Type 0) (start : Start) (pool : List Bool) (v : View) (intake : Intake)
    (skips : Bool) (item : List ℕ) : Type 0 where
  pub seen : List ℕ
  pub intake_is : IsIntake told moments start pool v intake seen
  pub few : length seen ≤ length item
  pub same : skips ≡ false → seen ≡ item

-- No octet has come.
pub record IsFresh (reader : Reader) : Type 0 where
  pub splitter : Sees reader.splitter []
  pub started : reader.started ≡ false
  pub skips : reader.skips ≡ false
  pub outline : SeesOutline reader.intake.outline []
  pub front : reader.intake.inflow.front.items ≡ []
  pub none : reader.intake.inflow.stream ≡ None

-- These octets of an item have come.
pub record IsReading (told moments : Type 0) (start : Start) (pool : List Bool) (v : View) (reader : Reader)
    (item : List ℕ) : Type 0 where
  pub split : HasSplit reader.splitter reader.started reader.skips item
  pub taking : IsTaking told moments start pool v reader.intake reader.skips item
