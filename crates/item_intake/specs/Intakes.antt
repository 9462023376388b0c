-- An item that has come so far: its outline, and its content on its way.
use Rattle.std.specs.Prelude.{◌≡◌, ℕ, List, [], Bool, Option, None, MatchOption}
use Rattle.edge_board.specs.Board.{View}
use Rattle.der_core.specs.Element.{AreOctets}
use Rattle.cms_signed.specs.Outline.{Sees, content_of}
use Rattle.item_intake.specs.declared.inflow.Inflow.{Inflow}
use Rattle.item_intake.specs.declared.intake.Intake.{Intake}
use Rattle.item_intake.specs.Inflows.{Start, Gathered, IsInflow}

-- no content has come, and nothing was done
abbrev pub IsIdle : Type 0 → Start → List Bool → View → Inflow → Type 0
IsIdle told start pool v inflow = (inflow.stream ≡ None) × Gathered told 0 start pool v inflow.front.items []

-- these octets of the content have come, where the item has one
abbrev pub IsOnItsWay : Type 0 → Type 0 → Start → List Bool → View → Inflow → Option (ℕ × ℕ) → List ℕ → Type 0
IsOnItsWay told moments start pool v inflow cut content = MatchOption cut
    (IsIdle told start pool v inflow)
    (λ cut. IsInflow told moments cut.1 start pool v inflow content)

-- These octets of an item have come: its outline is that of them, and its content so far is on its way.
pub record IsIntake (told moments : Type 0) (start : Start) (pool : List Bool) (v : View) (intake : Intake)
    (item : List ℕ) : Type 0 where
  pub octets : AreOctets item
  pub sees : Sees intake.outline item
  pub held : IsOnItsWay told moments start pool v intake.inflow intake.outline.cut (content_of intake.outline.cut item)
