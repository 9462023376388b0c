-- What is read of an item, turn by turn. A place in the input is what is still to be handed on, where the source tells
-- it, and how many octets were handed on.
use Rattle.std.specs.Prelude.{◌≡◌, ℕ, ◌+◌, Bool, true, false, List, [], ◌∷◌, ◌++◌, length, Option}
use Rattle.std.specs.Io.KnownBytes.{Consumes, IsAtEnd, prepend_known}
use Rattle.edge_board.specs.Board.{View}
use Rattle.package_attrs.specs.Image.{blocks_for}
use Rattle.der_core.specs.Items.{IsSequence, HasSequence}
use Rattle.load_input.specs.Inputs.{Buffered}
use Rattle.item_intake.specs.declared.fault.LoadFault.{LoadFault}
use Rattle.item_intake.specs.declared.fault.LoadFault.TheVariants as faults
use Rattle.item_intake.specs.declared.reader.Reader.{Reader}
use Rattle.item_intake.specs.declared.turns.Turn.{Turn}
use Rattle.item_intake.specs.declared.turns.Turn.TheVariants as turns
use Rattle.item_intake.specs.Inflows.{Start, RisesAtMost}
use Rattle.item_intake.specs.Reading.{IsReading}

abbrev pub Place : Type 0
Place = Option (List ℕ) × ℕ

-- where an input stands over what its source has left
abbrev pub place_of : Buffered → Option (List ℕ) → Place
place_of b left = (prepend_known b.octets left, b.passed)

-- Further octets were handed on, and with them so much of the item has come; and what else holds of it.
pub record HasRead (told moments : Type 0) (start : Start) (pool : List Bool) (v : View) (reader : Reader)
    (item : List ℕ) (from to : Place) (then : List ℕ → Type 0) : Type 0 where
  pub part : List ℕ
  pub text : Consumes from.0 to.0 part
  pub passed_is : to.1 ≡ from.1 + length part
  pub reading : IsReading told moments start pool v reader (item ++ part)
  pub and : then (item ++ part)

-- the item goes on
abbrev pub GoesOn : List ℕ → Type 0
GoesOn octets = HasSequence octets → ⊥

-- the item has ended with its last octet, or the source has, in it or before it
abbrev pub EndsItem : Bool → Option (List ℕ) → List ℕ → Type 0
EndsItem true left octets = IsSequence octets
EndsItem false left octets = GoesOn octets × IsAtEnd left

-- what stands after a turn
abbrev pub AfterTurn : Type 0 → Type 0 → Start → List Bool → View → Reader → List ℕ → Place → Place → Turn → Type 0
AfterTurn told moments start pool v reader item from to turns.Goes =
    HasRead told moments start pool v reader item from to GoesOn
AfterTurn told moments start pool v reader item from to turns.Ends =
    HasRead told moments start pool v reader item from to (EndsItem true to.0)
AfterTurn told moments start pool v reader item from to turns.Stops =
    HasRead told moments start pool v reader item from to (EndsItem false to.0)

-- The board has failed or memory is wanting: these octets of the item were taken.
pub record HasBroken (start : Start) (v : View) (item : List ℕ) (from to : Place) : Type 0 where
  pub part : List ℕ
  pub text : Consumes from.0 to.0 part
  pub passed_is : to.1 ≡ from.1 + length part
  pub last : HasSequence (item ++ part) → IsSequence (item ++ part)
  pub erased : RisesAtMost (blocks_for (length (item ++ part))) start.erased v.erased

-- One octet beyond the limit was taken, behind this place.
pub record IsBeyond (middle to : Place) : Type 0 where
  pub octet : ℕ
  pub text : Consumes middle.0 to.0 (octet ∷ [])
  pub passed_is : to.1 ≡ middle.1

-- what stands after a fault
abbrev pub AfterFault : Type 0 → Type 0 → Start → List Bool → View → Reader → List ℕ → Place → Place → LoadFault → Type 0
AfterFault told moments start pool v reader item from to faults.Device = HasBroken start v item from to
AfterFault told moments start pool v reader item from to faults.Memory = HasBroken start v item from to
AfterFault told moments start pool v reader item from to faults.Source =
    HasRead told moments start pool v reader item from to GoesOn
AfterFault told moments start pool v reader item from to faults.TooLong =
    (middle : Place) × IsBeyond middle to × HasRead told moments start pool v reader item from middle GoesOn
