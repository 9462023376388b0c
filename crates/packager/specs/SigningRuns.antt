-- A run that signs with one leaf, or a power cut at any moment of it.
use Rattle.std.specs.Prelude.{◌≡◌, ℕ, ◌+◌, ◌<◌, List, [], ◌∷◌, length, take}
use Rattle.cert_fields.specs.Certificate.{certificate_text}
use Rattle.cms_signed.specs.Message.{message_text}
use Rattle.edge_board.specs.Board.{Keeps, cell}
use Rattle.key_state.specs.KeyBlock.{row_of, row_start, FirstUnspent}
use Rattle.key_state.specs.Row.{spent_in}
use Rattle.lms_sign.specs.declared.key.SignKey.{SignKey}
use Rattle.lms_sign.specs.PublicKeys.{leaf_count}
use Rattle.packager.specs.CertificatePlan.{CertificatePlan, certificate_by}
use Rattle.packager.specs.PackagePlan.{PlannedPackage}
use Rattle.packager.specs.PlannedMessage.{package_by}

-- What a run signs: a certificate, or a package.
pub data Output : Type 0 where
  Certifies : (plan : CertificatePlan) → Output
  Packs : (plan : PlannedPackage) → Output

-- its octets, signed by a key with a leaf
abbrev pub output_text : SignKey → Output → ℕ → List ℕ
output_text key (Certifies plan) leaf = certificate_text (certificate_by plan key leaf)
output_text key (Packs plan) leaf = message_text (package_by plan key leaf)

-- One run, as far as it came: the image that it began with, the octets that it sent, and the image that it left, or that
-- a power cut did.
pub record SigningRun : Type 0 where
  pub start : List ℕ
  pub sent : List ℕ
  pub left : List ℕ

-- the leaf of a run, of a key with so many: the first unspent one of the row that it began with
abbrev pub leaf_of : ℕ → SigningRun → ℕ
leaf_of leaves r = spent_in (row_of leaves r.start)

-- The image is the start, but for the octet of that leaf. Where any octet was sent, there is such a leaf and its octet
-- is 00.
pub record SpendsLeaf (leaves : ℕ) (r : SigningRun) : Type 0 where
  pub kept : Keeps (FirstUnspent leaves r.start) r.start r.left
  pub spent : 0 < length r.sent
      → (leaf_of leaves r < leaves) × (cell r.left (row_start + leaf_of leaves r) ≡ 0)

-- The run signs this with that leaf of the key: what it sent is a front of the octets.
pub record Signs (key : SignKey) (output : Output) (r : SigningRun) : Type 0 where
  pub leaf : SpendsLeaf (leaf_count key) r
  pub sent : (count : ℕ) × (r.sent ≡ take count (output_text key output (leaf_of (leaf_count key) r)))

-- a leaf with which any octet was sent
abbrev pub leaf_if : List ℕ → ℕ → List ℕ
leaf_if [] leaf = []
leaf_if (octet ∷ octets) leaf = leaf ∷ []
