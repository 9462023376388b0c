-- Runs of `load` on boards, each from what the one before it left, or a power cut did.
use Rattle.std.specs.Prelude.{◌≡◌, ℕ, List, [], ◌∷◌, ◌++◌, Some, sum_by, flat_map}
use Rattle.std.specs.List.{AllByRecursion}
use Rattle.edge_board.specs.Board.{View, IsSettled}
use Rattle.edge_board.specs.Supply.{Supply}
use Rattle.der_core.specs.Items.{IsItems}
use Rattle.config_table.specs.State.{made_by, empty_state}
use Rattle.module_record.specs.declared.module.Module.{Module}
use Rattle.bank_layout.specs.Recovery.{Standing, Recovers}
use Rattle.bank_layout.specs.Recovery.Holder.{module_board}
use Rattle.load_claims.specs.Headline.{AreExactIn}
use Rattle.load_claims.specs.Lives.{Round, installs, installed_in, InstallsReceiptsOrOneMore}
use Rattle.loader_core.specs.declared.loading.Ending.{Ending}
use Rattle.loader_core.specs.Loading.{LoadRuns, load_seen}

-- ---- one run

-- A run on a board of this type: when it was made and how it ended, the source and the board before and after it, the
-- items that it was offered, what had been sent before, and a power cut at one of its moments: what the run had sent by
-- then, and the image that stands there afterwards. The moment after its last call is one of them.
pub record CutRun (B : Type 0) : Type 0 where
  pub at : ℕ
  pub ending : Ending
  pub source : Supply
  pub source' : Supply
  pub old : B
  pub new : B
  pub items : List (List ℕ)
  pub before : List ℕ
  pub sent : List ℕ
  pub image : List ℕ

-- It is a run of `load`, which was begun with nothing pending, of a source that tells what is left.
pub record IsCutRun {B : Type 0} (tells_cells tells_moments : Type 0) (view : B → View) (c : CutRun B) : Type 0 where
  pub runs : LoadRuns c.at (load_seen tells_cells tells_moments c.ending c.source c.source' (view c.old) (view c.new))
  pub settled : IsSettled (view c.old)
  pub input : List ℕ
  pub left : c.source.left ≡ Some input
  pub items_are : IsItems input c.items
  pub sent_before : (view c.old).sent c.before
  pub cut : (view c.new).might (view c.old).clock c.image (c.before ++ c.sent)

-- ---- runs one after the other

-- each run begins with the image that the one before it left
abbrev pub FollowEachOther : {B : Type 0} → Type 0 → Type 0 → (B → View) → List ℕ → List (CutRun B) → Type 0
FollowEachOther tells_cells tells_moments view image [] = Unit {0}
FollowEachOther tells_cells tells_moments view image (c ∷ cuts) =
    ((view c.old).cells ≡ image) × IsCutRun tells_cells tells_moments view c
    × FollowEachOther tells_cells tells_moments view c.image cuts

-- what the last of them left
abbrev pub image_after : {B : Type 0} → List ℕ → List (CutRun B) → List ℕ
image_after image [] = image
image_after image (c ∷ cuts) = image_after c.image cuts

-- these are the same runs, seen by their images alone
abbrev pub AreRoundsOf : {B : Type 0} → (B → View) → List (CutRun B) → List Round → Type 0
AreRoundsOf view [] [] = Unit {0}
AreRoundsOf view [] (r ∷ rounds) = ⊥
AreRoundsOf view (c ∷ cuts) [] = ⊥
AreRoundsOf view (c ∷ cuts) (r ∷ rounds) =
    (r.start ≡ (view c.old).cells) × (r.at ≡ c.at) × (r.items ≡ c.items) × (r.sent ≡ c.sent) × (r.end ≡ c.image)
    × AreRoundsOf view cuts rounds

-- The image recovers to the module, with the images and stale entries that the packages make which these runs
-- installed, in order: each run a prefix of the packages that it accepted, which holds each one whose receipt was sent
-- whole, and at most one more. The packages are accepted exactly where they are admitted.
pub record FindsInstalled (m : Module) (rounds : List Round) (image : List ℕ) : Type 0 where
  pub now : Standing
  pub recovers : Recovers image (module_board m now)
  pub state : now.state ≡ made_by (flat_map installed_in rounds) empty_state
  pub sequence : now.sequence ≡ sum_by installs rounds
  pub each : AllByRecursion InstallsReceiptsOrOneMore rounds
  pub exact : AllByRecursion (AreExactIn m) rounds
