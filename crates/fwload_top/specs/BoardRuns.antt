-- What the board of a key or a module goes through over all its time: runs that sign with its leaves, any other runs, and
-- power cuts at any moment of them. No leaf may be used twice (RFC 8554, section 9.2).
use Rattle.std.specs.Prelude.{◌≡◌, ◌⊎◌, ℕ, List, [], ◌∷◌, flat_map}
use Rattle.lms_sign.specs.declared.key.SignKey.{SignKey}
use Rattle.lms_sign.specs.PublicKeys.{leaf_count}
use Rattle.module_record.specs.declared.module.Module.{Module}
use Rattle.bank_layout.specs.Recovery.{Standing, HoldsKey, Recovers}
use Rattle.bank_layout.specs.Recovery.Holder.{module_board}
use Rattle.packager.specs.SigningRuns.{Output, SigningRun, leaf_of, leaf_if}
use Rattle.packager.specs.SigningRuns.{Signs as SignsOutput}
use Rattle.load_claims.specs.Lives.{IsRound, leaves_of}
use Rattle.load_claims.specs.Lives.{Round as LoadRound}

-- ---- one run

-- One run, as far as it came.
pub data BoardRun : Type 0 where
  -- a run of `load`, by the module that holds the board
  Loads : Module → LoadRound → BoardRun
  -- a run that signs this, with the key that holds the board
  Signs : Output → SigningRun → BoardRun
  -- any run that leaves this image as it was, whatever it sent: it signs nothing
  Stays : List ℕ → BoardRun

-- the image that it began with
abbrev pub image_before : BoardRun → List ℕ
image_before (Loads m r) = r.start
image_before (Signs output r) = r.start
image_before (Stays image) = image

-- that which it left, or a power cut did
abbrev pub image_after : BoardRun → List ℕ
image_after (Loads m r) = r.end
image_after (Signs output r) = r.left
image_after (Stays image) = image

-- it is a run that signs with this key, if it signs
abbrev pub IsRunOf : SignKey → BoardRun → Type 0
IsRunOf key (Loads m r) = (m.key ≡ key) × IsRound m r
IsRunOf key (Signs output r) = SignsOutput key output r
IsRunOf key (Stays image) = Unit {0}

-- the leaves with which any octet was sent that is signed, in the order in which it was
abbrev pub leaves_used : SignKey → BoardRun → List ℕ
leaves_used key (Loads m r) = leaves_of m r
leaves_used key (Signs output r) = leaf_if r.sent (leaf_of (leaf_count key) r)
leaves_used key (Stays image) = []

-- ---- all of them

-- Runs one after the other: the first begins with this image, and each later one with what the run before it left.
abbrev pub AreBoardRuns : SignKey → List ℕ → List BoardRun → Type 0
AreBoardRuns key image [] = Unit {0}
AreBoardRuns key image (r ∷ runs) =
    (image_before r ≡ image) × IsRunOf key r × AreBoardRuns key (image_after r) runs

-- what is signed on the board is signed with this key: it holds the board, or the module that does has it
abbrev pub SignsWith : List ℕ → SignKey → Type 0
SignsWith image key =
    HoldsKey image key
    ⊎ ((m : Module) × (standing : Standing) × (m.key ≡ key) × Recovers image (module_board m standing))

-- the runs of `load` among them
abbrev pub loads_of : BoardRun → List LoadRound
loads_of (Loads m r) = r ∷ []
loads_of (Signs output r) = []
loads_of (Stays image) = []

abbrev pub loads_in : List BoardRun → List LoadRound
loads_in runs = flat_map loads_of runs
