-- What a key's board goes through over all its time: runs that sign with a leaf, any other runs, and power cuts at any
-- moment of them. No leaf may be used twice (RFC 8554, section 9.2).
use Rattle.std.specs.Prelude.{◌≡◌, ℕ, List, [], ◌∷◌}
use Rattle.lms_sign.specs.declared.key.SignKey.{SignKey}
use Rattle.packager.specs.SigningRuns.{Output, SigningRun, leaf_of, leaf_if}
use Rattle.packager.specs.SigningRuns.{Signs as SignsOutput}

-- One run, as far as it came.
pub data BoardRun : Type 0 where
  -- a run that signs this
  Signs : Output → SigningRun → BoardRun
  -- any run that leaves this image as it was, whatever it sent: it signs nothing
  Stays : List ℕ → BoardRun

-- the image that it began with
abbrev pub image_before : BoardRun → List ℕ
image_before (Signs output r) = r.start
image_before (Stays image) = image

-- that which it left, or a power cut did
abbrev pub image_after : BoardRun → List ℕ
image_after (Signs output r) = r.left
image_after (Stays image) = image

-- it is a run with this key
abbrev pub IsRunOf : SignKey → BoardRun → Type 0
IsRunOf key (Signs output r) = SignsOutput key output r
IsRunOf key (Stays image) = Unit {0}

-- Runs one after the other: the first begins with this image, and each later one with what the run before it left.
abbrev pub AreBoardRuns : SignKey → List ℕ → List BoardRun → Type 0
AreBoardRuns key image [] = Unit {0}
AreBoardRuns key image (r ∷ runs) =
    (image_before r ≡ image) × IsRunOf key r × AreBoardRuns key (image_after r) runs

-- the leaf, of a key with so many, with which any octet was sent that is signed
abbrev pub leaf_used : ℕ → BoardRun → List ℕ
leaf_used leaves (Signs output r) = leaf_if r.sent (leaf_of leaves r)
leaf_used leaves (Stays image) = []
