-- What a run of `load` leaves: how it ended, what it took, sent and erased, and what a power cut at any of its moments
-- leaves. The model of flash and the order of a run are this project's own; packages and answers are RFC 4108's.
use Rattle.std.specs.Prelude.{◌≡◌, ◌↔◌, ℕ, ◌+◌, ◌-◌, ◌/◌, ◌<◌, ◌≤◌, ◌^◌, Bool, true, false, List, [], ◌++◌, length, take, IfSome, sum_by}
use Rattle.std.specs.Option.{IsSomeAnd}
use Rattle.std.specs.Io.KnownBytes.{IsAtEnd}
use Rattle.edge_board.specs.Board.{View, SameTest, IsSettled}
use Rattle.edge_board.specs.Causes.{Rose}
use Rattle.edge_board.specs.Runs.{LeavesOnly}
use Rattle.edge_board.specs.Sends.{FrontSent}
use Rattle.edge_board.specs.Supply.{Supply}
use Rattle.der_core.specs.Head.{BeginsWith}
use Rattle.der_core.specs.Items.{IsItems, Splits}
use Rattle.cms_signed.specs.Cut.{HasCut}
use Rattle.package_attrs.specs.Image.{blocks_for}
use Rattle.module_record.specs.declared.module.Module.{Module}
use Rattle.bank_layout.specs.Recovery.{Standing, Recovers}
use Rattle.bank_layout.specs.Recovery.Holder.{module_board}
use Rattle.judge_core.specs.Conditions.{most_contents}
use Rattle.judge_core.specs.Verdicts.{Verdict}
use Rattle.load_claims.specs.Items.{Judged, answers}
use Rattle.load_claims.specs.Boards.{Loads, CutsKeep}
use Rattle.loader_core.specs.declared.loading.Ending.{Ending}
use Rattle.loader_core.specs.declared.loading.Ending.TheVariants.{Done, SomeRefused, NotAModule, DeviceFault, SourceFault, InputTooLong, NoMemory}

-- ---- what is seen of a run

-- how a run of `load` ended, and the source and the board before and after it
pub record LoadSeen : Type 1 where
  -- whether the board tells its cells, and its moments
  pub tells_cells : Type 0
  pub tells_moments : Type 0
  pub ending : Ending
  pub source : Supply
  pub source' : Supply
  pub old : View
  pub new : View

abbrev pub load_seen : Type 0 → Type 0 → Ending → Supply → Supply → View → View → LoadSeen
load_seen tells_cells tells_moments ending source source' old new = record {
  tells_cells = tells_cells;
  tells_moments = tells_moments;
  ending = ending;
  source = source;
  source' = source';
  old = old;
  new = new;
}

-- the most octets of input that a run takes without ending for it
abbrev pub load_limit : ℕ
load_limit = 2 ^ 32

-- no module holds the cells
abbrev pub HasNoModule : List ℕ → Type 0
HasNoModule cells = (m : Module) (standing : Standing) → ¬ Recovers cells (module_board m standing)

-- ---- causes

-- A fault is answered exactly where a call failed, and too long an input exactly where more octets than the limit were
-- taken. A count stays at 2^64 - 1 once it is there.
pub record LoadCauses (r : LoadSeen) : Type 0 where
  pub source_count : r.source.faults ≤ r.source'.faults
  pub device_count : r.old.faults ≤ r.new.faults
  pub source_fault : r.ending ≡ SourceFault → Rose r.source.faults r.source'.faults
  pub device_fault : r.ending ≡ DeviceFault → Rose r.old.faults r.new.faults
  -- no call that failed is passed over
  pub source_calm : ¬ (r.ending ≡ SourceFault) → r.source'.faults ≡ r.source.faults
  pub device_calm : ¬ (r.ending ≡ DeviceFault) → r.new.faults ≡ r.old.faults
  pub too_long : r.source'.taken < 2 ^ 64 - 1
      → (r.ending ≡ InputTooLong) ↔ (r.source.taken + load_limit < r.source'.taken)
  -- one octet beyond the limit tells that there are more
  pub most : r.source'.taken < 2 ^ 64 - 1 → r.source'.taken ≤ r.source.taken + load_limit + 1
  pub silent : r.ending ≡ NotAModule → SameTest r.old.sent r.new.sent

-- ---- the input

-- The input is what was left, as far as the source tells it; these octets of it were taken, and the rest wasn't.
pub record TakesOf (r : LoadSeen) (input taken rest : List ℕ) : Type 0 where
  pub told : IfSome r.source.left (λ left. left ≡ input)
  pub untaken : IfSome r.source.left (λ left. IsSomeAnd r.source'.left (λ now. now ≡ rest))
  pub parts : input ≡ taken ++ rest
  pub count : r.source'.taken < 2 ^ 64 - 1 → r.source'.taken ≡ r.source.taken + length taken

-- ---- how it ends

-- The first n items were judged and answered, exactly their answers were sent, and the board recovers to what stands
-- there after them.
abbrev pub AnsweredFirst : ℕ → Module → ℕ → Standing → List (List ℕ) → LoadSeen → Type 0
AnsweredFirst n m at start items r =
    (end : Standing) × (refused : Bool) × Loads m at start end (take n items) refused r.old r.new

-- The same of all items, one of which was refused or none was; the source was read to its end, and nothing is pending.
pub record AnsweredAll (refused : Bool) (m : Module) (at : ℕ) (start : Standing) (items : List (List ℕ)) (rest : List ℕ)
    (r : LoadSeen) : Type 0 where
  pub none_left : rest ≡ []
  pub at_end : IsAtEnd r.source'.left
  pub settled : IsSettled r.new
  pub end : Standing
  pub loads : Loads m at start end items refused r.old r.new

-- the same of those items that are whole SEQUENCE elements within these octets
abbrev pub AnsweredWhole : List ℕ → Module → ℕ → Standing → List (List ℕ) → LoadSeen → Type 0
AnsweredWhole octets m at start items r =
    (whole : List (List ℕ)) × (so_far : List ℕ) × Splits octets whole so_far
    × AnsweredFirst (length whole) m at start items r

-- or of some of the first of those
abbrev pub AnsweredSome : List ℕ → Module → ℕ → Standing → List (List ℕ) → LoadSeen → Type 0
AnsweredSome octets m at start items r =
    (whole : List (List ℕ)) × (so_far : List ℕ) × Splits octets whole so_far
    × ((k : ℕ) × (k ≤ length whole) × AnsweredFirst k m at start items r)

-- Some of the first items were judged, and a front of their answers was sent.
abbrev pub AnsweredPart : Module → ℕ → Standing → List (List ℕ) → LoadSeen → Type 0
AnsweredPart m at start items r =
    (verdicts : List Verdict) × Judged m at start items verdicts × FrontSent (answers m start verdicts) r.old r.new

-- What is known by how it ends, over a board on which this stood; these are the items of the whole input.
abbrev pub EndsAs : Ending → Module → ℕ → Standing → List (List ℕ) → List ℕ → List ℕ → LoadSeen → Type 0
EndsAs Done m at start items taken rest r = AnsweredAll false m at start items rest r
EndsAs SomeRefused m at start items taken rest r = AnsweredAll true m at start items rest r
EndsAs NotAModule m at start items taken rest r = ⊥
EndsAs DeviceFault m at start items taken rest r = AnsweredPart m at start items r
EndsAs SourceFault m at start items taken rest r = AnsweredWhole taken m at start items r
EndsAs InputTooLong m at start items taken rest r = AnsweredWhole (take load_limit taken) m at start items r
EndsAs NoMemory m at start items taken rest r = AnsweredSome taken m at start items r

-- where no module holds the board, nothing is taken or sent, and the cells stay
pub record Untouched (r : LoadSeen) : Type 0 where
  pub source : r.source' ≡ r.source
  pub silent : SameTest r.old.sent r.new.sent
  pub cells : r.new.cells ≡ r.old.cells
  pub not_done : ¬ (r.ending ≡ Done) × ¬ (r.ending ≡ SomeRefused)
  pub not_read : ¬ (r.ending ≡ SourceFault) × ¬ (r.ending ≡ InputTooLong)

-- ---- erased blocks

-- how many blocks are erased for an item at most: a block for each 4,096 octets that it begins, and 34 for an install
abbrev pub most_erased : List ℕ → ℕ
most_erased item = 34 + blocks_for (length item)

-- Where these octets, behind the whole items, begin with a content's head and then have so many octets of the content,
-- those are stored: a block was erased for each 4,096 of them, but for the six that may stand before the image. So it
-- is for each content that the module has blocks for, in an item within the limit.
abbrev pub StoresAsItComes : Module → List ℕ → LoadSeen → Type 0
StoresAsItComes m octets r =
    (whole : List (List ℕ)) × (so_far : List ℕ) × Splits octets whole so_far
    × ((contents place size come : ℕ) → BeginsWith so_far 0x30 contents → contents ≤ most_contents
    → HasCut so_far place size → place + come ≤ length so_far → 6 ≤ come → come ≤ size
    → blocks_for size ≤ m.capacity → r.old.erased + (come - 6) / 4096 ≤ r.new.erased)

-- ---- the run

-- What a run of `load` at this moment leaves. `items` are those of the whole input: there is one such list at most.
pub record LoadRuns (at : ℕ) (r : LoadSeen) : Type 0 where
  pub causes : LoadCauses r
  pub blocks : r.new.blocks ≡ r.old.blocks
  pub input : List ℕ
  pub taken : List ℕ
  pub rest : List ℕ
  pub takes : TakesOf r input taken rest
  pub too_much : r.ending ≡ InputTooLong → load_limit < length taken
  pub no_module : r.tells_cells → r.ending ≡ NotAModule → HasNoModule r.old.cells
  -- how it ends, without a power cut
  pub ends : r.tells_cells → (m : Module) (start : Standing) → Recovers r.old.cells (module_board m start)
      → (items : List (List ℕ)) → IsItems input items → EndsAs r.ending m at start items taken rest r
  pub untouched : r.tells_cells → HasNoModule r.old.cells → Untouched r
  -- what a power cut at any moment leaves, whatever the ending
  pub moments : r.tells_moments → IsSettled r.old → (m : Module) (start : Standing)
      → Recovers r.old.cells (module_board m start) → (items : List (List ℕ)) → IsItems input items
      → CutsKeep m at start items r.old r.new
  pub only_image : r.tells_moments → IsSettled r.old → HasNoModule r.old.cells
      → LeavesOnly r.old r.new (λ image s. (image ≡ r.old.cells) × r.old.sent s)
  -- how many blocks it erases at most, and at least
  pub rises : r.old.erased ≤ r.new.erased
  pub erased : r.tells_moments → (items : List (List ℕ)) → IsItems taken items
      → r.new.erased ≤ r.old.erased + sum_by most_erased items
  pub stores : r.tells_moments → r.ending ≡ SourceFault → (m : Module) (start : Standing)
      → Recovers r.old.cells (module_board m start) → StoresAsItComes m taken r

-- ---- when a run is complete

-- A module holds the board, and the input is told and is within the limit.
pub record LoadReady (r : LoadSeen) : Type 0 where
  pub tells : r.tells_cells
  pub module_is : (m : Module) × (standing : Standing) × Recovers r.old.cells (module_board m standing)
  pub input : IsSomeAnd r.source.left (λ input. length input ≤ load_limit)

-- No call on the source or the board failed.
pub record LoadUndisturbed (r : LoadSeen) : Type 0 where
  pub source : Rose r.source.faults r.source'.faults → ⊥
  pub device : Rose r.old.faults r.new.faults → ⊥

-- all items were answered, or memory was wanting
abbrev pub IsComplete : Ending → Type 0
IsComplete Done = Unit {0}
IsComplete SomeRefused = Unit {0}
IsComplete NoMemory = Unit {0}
IsComplete NotAModule = ⊥
IsComplete DeviceFault = ⊥
IsComplete SourceFault = ⊥
IsComplete InputTooLong = ⊥
