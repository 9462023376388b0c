-- What a board goes through over all its time: runs of the program one after the other, and power cuts at any moment of
-- them.
use Rattle.std.specs.Prelude.{◌≡◌, ◌⊎◌, ℕ, List, [], ◌∷◌, Option}
use Rattle.std.specs.List.{AllZip}
use Rattle.std.specs.Option.{IsSomeAnd}
use Rattle.der_core.specs.Element.{AreOctets}
use Rattle.der_core.specs.Items.{IsItems}
use Rattle.edge_board.specs.Sends.{IsFront}
use Rattle.module_record.specs.declared.module.Module.{Module}
use Rattle.load_claims.specs.Lives.{Follow, last_image}
use Rattle.load_claims.specs.Lives.{Round as LoadRound}
use Rattle.fwload_top.specs.declared.words.Command.{Command}
use Rattle.fwload_top.specs.declared.words.Command.TheVariants as commands
use Rattle.fwload_top.specs.BadLine.{line_refused}
use Rattle.fwload_top.specs.BoardRuns.{BoardRun, Loads, Signs, Stays, AreBoardRuns, loads_in}
use Rattle.fwload_top.specs.Commands.{promise}

-- One run, as far as it came: what was asked, what the source had left where it told that, how many blocks the board
-- has, the image that the run began with, the octets that it sent, and the image that it or a power cut left.
pub record Round : Type 0 where
  pub command : Command
  pub input : Option (List ℕ)
  pub blocks : ℕ
  pub start : List ℕ
  pub sent : List ℕ
  pub end : List ℕ

-- a power cut in that command leaves this
abbrev pub IsRound : Type 0 → Round → Type 0
IsRound tells_cells r = (promise r.command).Cut tells_cells r.input r.start r.blocks r.end r.sent

-- The first round begins with this image, and each later one with what the one before it left.
abbrev pub AreRounds : Type 0 → List ℕ → List Round → Type 0
AreRounds tells_cells image [] = Unit {0}
AreRounds tells_cells image (r ∷ rounds) =
    (r.start ≡ image) × IsRound tells_cells r × AreRounds tells_cells r.end rounds

-- the image that the last of them left
abbrev pub last_end : List ℕ → List Round → List ℕ
last_end image [] = image
last_end image (r ∷ rounds) = last_end r.end rounds

-- a source of packages to be loaded tells its octets
abbrev pub LoadsTold : Command → Option (List ℕ) → Type 0
LoadsTold (commands.Load at) input = IsSomeAnd input AreOctets
LoadsTold other input = Unit {0}

abbrev pub IsTold : Round → Type 0
IsTold r = LoadsTold r.command r.input

-- ---- as runs of a board

-- no octet was sent of what is signed: nothing at all, or a front of a refusal
abbrev pub SendsNoOutput : Command → List ℕ → Type 0
SendsNoOutput commands.Issue s = (s ≡ []) ⊎ ((n : ℕ) × IsFront (line_refused n) s)
SendsNoOutput commands.Pack s = (s ≡ []) ⊎ ((n : ℕ) × IsFront (line_refused n) s)
SendsNoOutput (commands.Load at) s = s ≡ []
SendsNoOutput other s = Unit {0}

-- The round is this run of `load`, at its moment, over the items of its input.
pub record IsLoadOf (r : Round) (run : LoadRound) : Type 0 where
  pub command : r.command ≡ commands.Load run.at
  pub items : IsSomeAnd r.input (λ input. IsItems input run.items)
  pub start : run.start ≡ r.start
  pub sent : run.sent ≡ r.sent
  pub end : run.end ≡ r.end

-- The round is this run of the board: one of `load`, one that signs, or one that leaves the image and sends nothing
-- signed.
abbrev pub IsRunOfRound : Round → BoardRun → Type 0
IsRunOfRound r (Loads m run) = IsLoadOf r run
IsRunOfRound r (Signs output run) = run ≡ record { start = r.start; sent = r.sent; left = r.end }
IsRunOfRound r (Stays image) = (r.start ≡ image) × (r.end ≡ image) × SendsNoOutput r.command r.sent

-- Rounds over a module's board, as runs of it. Those of `load` among them follow each other, and end as the rounds do.
pub record AreModuleRuns (m : Module) (image : List ℕ) (rounds : List Round) (runs : List BoardRun) : Type 0 where
  pub runs_are : AreBoardRuns m.key image runs
  pub each : AllZip IsRunOfRound rounds runs
  pub follow : Follow m image (loads_in runs)
  pub last : last_image image (loads_in runs) ≡ last_end image rounds
