-- `load`: what the loader promises of its run, by the status that it ends with; and what a power cut leaves of it.
use Rattle.std.specs.Prelude.{◌≡◌, ℕ, List, [], Option, Some}
use Rattle.der_core.specs.Items.{IsItems}
use Rattle.module_record.specs.declared.module.Module.{Module}
use Rattle.bank_layout.specs.Recovery.{Standing, Recovers}
use Rattle.bank_layout.specs.Recovery.Holder.{module_board}
use Rattle.load_claims.specs.Kept.{KeptIn}
use Rattle.loader_core.specs.declared.loading.Ending.{Ending}
use Rattle.loader_core.specs.declared.loading.Ending.TheVariants as endings
use Rattle.loader_core.specs.Loading.{LoadSeen, LoadRuns, LoadReady, load_seen}
use Rattle.fwload_top.specs.declared.status.Status.{Status}
use Rattle.fwload_top.specs.declared.status.Status.TheVariants as statuses
use Rattle.fwload_top.specs.Seen.{Seen}
use Rattle.fwload_top.specs.Standing.{HasNoModule}

-- ---- the run

-- the status of each ending
abbrev pub status_of : Ending → Status
status_of endings.Done = statuses.Done
status_of endings.SomeRefused = statuses.SomeRefused
status_of endings.NotAModule = statuses.NotAModule
status_of endings.DeviceFault = statuses.DeviceFault
status_of endings.SourceFault = statuses.SourceFault
status_of endings.InputTooLong = statuses.InputTooLong
status_of endings.NoMemory = statuses.NoMemory

-- what the loader sees of the run
abbrev pub seen_loading : Ending → Seen → LoadSeen
seen_loading ending r = load_seen r.tells_cells r.tells_moments ending r.source r.source' r.old r.new

-- The run ended as one of the loader's does, and leaves what the loader promises of it.
pub record RunsLoad (at : ℕ) (r : Seen) : Type 0 where
  pub ending : Ending
  pub status : r.status ≡ status_of ending
  pub runs : LoadRuns at (seen_loading ending r)

-- What brings it to its end; that doesn't depend on how it ends.
abbrev pub IsLoadReady : Seen → Type 0
IsLoadReady r = LoadReady (seen_loading endings.Done r)

-- ---- a power cut

-- Over these cells, what a power cut leaves and the octets that were sent since the start: on a module's board, whose
-- input is told, what `KeptIn` says of the items of that; where no module holds the cells, these, and nothing was sent.
pub record LoadCut (at : ℕ) (left : Option (List ℕ)) (start image s : List ℕ) : Type 0 where
  pub kept : (m : Module) (from : Standing) → Recovers start (module_board m from)
      → (input : List ℕ) (items : List (List ℕ)) → left ≡ Some input → IsItems input items
      → KeptIn m at from items image s
  pub nothing : HasNoModule start → (image ≡ start) × (s ≡ [])
