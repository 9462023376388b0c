-- Which calls of a board in memory fail, and how many octets it still keeps. Its maker plans both.
use Rattle.std.specs.Prelude.{◌≡◌, ◌⊎◌, ℕ, ◌-◌, ◌<◌, ◌≤◌, List, Contains, Result, MatchResult}
use Rattle.edge_board.specs.Causes.{counted}
use Rattle.edge_board.specs.Board.{View, Unchanged, SameTest}

-- What a board in memory is to do.
pub record BoardPlan : Type 0 where
  -- how many calls that answer a Result were made, which is the next one's number
  pub made : ℕ
  -- the numbers of the calls that fail
  pub failing : List ℕ
  -- from this number on each call fails
  pub calls : ℕ
  -- how many octets the board can still keep, of programs and sends together
  pub room : ℕ
  -- how many calls failed
  pub faults : ℕ

-- The next call fails, where it needs room for so many octets: for its number, or out of room.
abbrev pub IsToFail : ℕ → BoardPlan → Type 0
IsToFail octets plan =
    (plan.calls ≤ plan.made) ⊎ (Contains plan.failing plan.made ⊎ (plan.room < octets))

-- the plan after a call that kept so many octets
abbrev pub after_call : ℕ → BoardPlan → BoardPlan
after_call octets plan = record plan { made = counted plan.made; room = plan.room - octets }

-- the plan after a call that failed
abbrev pub after_fault : BoardPlan → BoardPlan
after_fault plan = record plan { made = counted plan.made; faults = counted plan.faults }

-- A call of the old plan leaves the new one. It keeps so many octets, unless it fails.
abbrev pub GoesOn : {T E : Type 0} → ℕ → BoardPlan → BoardPlan → Result T E → Type 0
GoesOn octets old new result =
    MatchResult result (λ _. new ≡ after_call octets old) (λ _. new ≡ after_fault old)

-- A call has changed nothing but the count of faults.
pub record StandsStill (old new : View) : Type 0 where
  pub flash : Unchanged old new
  pub silent : SameTest old.sent new.sent
  pub clock : new.clock ≡ old.clock
  pub erased : new.erased ≡ old.erased
