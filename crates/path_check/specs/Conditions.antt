-- The conditions on the certificates of a path, by their numbers in der_core's `Condition` (RFC 5280, section 6.1). They
-- are asked of every member by itself, of all members one condition after the other. The signer's certificate is the
-- first of the members, and the one below the anchor the last; where the signer is the anchor there are none.
use Rattle.std.specs.Prelude.{ℕ, ◌≤◌, List, [], ◌∷◌, slice_get}
use Rattle.std.specs.List.{AllByRecursion, filter_map}
use Rattle.der_core.specs.Asked.{Asked, asked}
use Rattle.cert_fields.specs.Anchor.{TrustAnchor}
use Rattle.cert_fields.specs.Certificate.{Certificate}
use Rattle.cert_fields.specs.Extensions.{HasExtensions}
use Rattle.cert_fields.specs.declared.extensions.Extensions.{Extensions}
use Rattle.hss_chain.specs.declared.key.HssKey.{HssKey}
use Rattle.path_check.specs.HssCertificate.{IsKeyOf, IsAnchorKey, IsSignedBy}
use Rattle.path_check.specs.PathRules.{KeepRules}

-- the members of a path, by their places
abbrev pub members_at : List Certificate → List ℕ → List Certificate
members_at certificates places = filter_map (slice_get certificates) places

-- its extensions read
abbrev pub Reads : Certificate → Type 0
Reads c = (e : Extensions) × HasExtensions c e

-- the moment lies in its validity, ends included (4.1.2.5)
pub record IsValidAt (at : ℕ) (c : Certificate) : Type 0 where
  pub begun : c.signed.from.moment ≤ at
  pub lasts : at ≤ c.signed.to.moment

-- its key is an HSS key
abbrev pub HasKey : Certificate → Type 0
HasKey c = (key : HssKey) × IsKeyOf c key

-- the key above: that of the next member, or of the anchor
abbrev pub IsKeyAbove : TrustAnchor → List Certificate → HssKey → Type 0
IsKeyAbove anchor [] key = IsAnchorKey anchor key
IsKeyAbove anchor (next ∷ above) key = IsKeyOf next key

-- each is signed by the key above it
abbrev pub AreSigned : TrustAnchor → List Certificate → Type 0
AreSigned anchor [] = Unit {0}
AreSigned anchor (c ∷ above) =
    ((key : HssKey) × IsKeyAbove anchor above key × IsSignedBy key c) × AreSigned anchor above

abbrev pub path_conditions : ℕ → TrustAnchor → List Certificate → List Asked
path_conditions at anchor members =
    asked 23 (AllByRecursion Reads members)
    ∷ asked 24 (AllByRecursion (IsValidAt at) members)
    ∷ asked 25 (KeepRules members)
    ∷ asked 26 (AllByRecursion HasKey members)
    ∷ asked 27 (AreSigned anchor members)
    ∷ []
