-- Reading a source to its end.
use Rattle.std.specs.Prelude.{◌≡◌, ◌↔◌, IfSome, ℕ, ◌+◌, ◌-◌, ◌^◌, ◌<◌, ◌≤◌, Bool, true, false, List, ◌++◌, length}
use Rattle.std.specs.Io.KnownBytes.{Consumes, IsAtEnd}
use Rattle.std.specs.declared.option.Option.{Option}
use Rattle.edge_board.specs.Supply.{Supply}
use Rattle.edge_board.specs.Causes.{Rose}
use Rattle.fwload_top.specs.Meaning.{input_limit}
use Rattle.fwload_top.specs.AnswersOnce.{IsLonger}
use Rattle.fwload_top.specs.declared.input.InputFault.{InputFault}
use Rattle.fwload_top.specs.declared.input.InputFault.TheVariants as faults
use Rattle.fwload_top.specs.declared.status.Status.{Status}
use Rattle.fwload_top.specs.declared.status.Status.TheVariants as statuses

-- n octets of what was left went to the end of a list
pub record TakesPiece (left left' : Option (List ℕ)) (old new : List ℕ) (room n : ℕ) : Type 0 where
  pub octets : (bs : List ℕ) × (length bs ≡ n) × (new ≡ old ++ bs) × Consumes left left' bs
  pub bound : n ≤ room
  pub last : n ≡ 0 → 0 < room → IsAtEnd left'

-- what was left up to a limit, and whether it ended there
pub record Fills (left left' : Option (List ℕ)) (limit : ℕ) (input : List ℕ) (ended : Bool) :
    Type 0 where
  pub text : Consumes left left' input
  pub end : ended ≡ true → IsAtEnd left'
  pub full : ended ≡ false → length input ≡ limit
  pub within : length input ≤ limit

-- the status that a run ends with where its input was not read
abbrev pub status_of : InputFault → Status
status_of faults.Failed = statuses.SourceFault
status_of faults.TooLong = statuses.InputTooLong
status_of faults.Memory = statuses.NoMemory

-- The input is all that was left, and is within the limit.
pub record WasRead (source source' : Supply) (input : List ℕ) : Type 0 where
  pub text : Consumes source.left source'.left input
  pub end : IsAtEnd source'.left
  pub within : length input ≤ input_limit
  pub calm : source'.faults ≡ source.faults
  pub few : source'.taken < 2 ^ 64 - 1 → source'.taken ≤ source.taken + input_limit

-- The input was not read: a read failed, it is longer than the limit, or memory was wanting.
pub record WasNotRead (source source' : Supply) (fault : InputFault) : Type 0 where
  pub count : source.faults ≤ source'.faults
  pub calm : ¬ (fault ≡ faults.Failed) → source'.faults ≡ source.faults
  pub failed : fault ≡ faults.Failed → Rose source.faults source'.faults
  pub too_long : source'.taken < 2 ^ 64 - 1 → (fault ≡ faults.TooLong) ↔ (source.taken + input_limit < source'.taken)
  pub most : source'.taken < 2 ^ 64 - 1 → source'.taken ≤ source.taken + input_limit + 1
  pub longer : fault ≡ faults.TooLong → IfSome source.left IsLonger
