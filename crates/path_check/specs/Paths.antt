-- The path from a signer up to a trust anchor (RFC 5280, section 6.1). Which of several it is, is this project's own: at
-- each step the first that fits, an anchor before a certificate, and at most eight certificates.
use Rattle.std.specs.Prelude.{ℕ, ◌≤◌, List, [], ◌∷◌, length}
use Rattle.cert_fields.specs.Certificate.{Certificate}
use Rattle.cert_fields.specs.Anchor.{TrustAnchor}
use Rattle.cert_fields.specs.Sid.{SignerIdentifier}
use Rattle.path_check.specs.First.{HoldsAt, HasNone, IsFirst}
use Rattle.path_check.specs.Above.{IsAbove, IsAnchorAbove, IsNamed, IsNamedAnchor}

-- the candidate may have issued the certificate at this place
abbrev pub IsAboveAt : List Certificate → ℕ → Certificate → Type 0
IsAboveAt certificates below candidate = HoldsAt (λ child. IsAbove child candidate) certificates below

abbrev pub IsAnchorAboveAt : List Certificate → ℕ → TrustAnchor → Type 0
IsAnchorAboveAt certificates below anchor = HoldsAt (λ child. IsAnchorAbove child anchor) certificates below

-- From the certificate at this place those places lead up to that anchor: where none is left, the anchor is the first
-- above it; else no anchor is above it, the next is the first certificate above it, and the others lead on from there.
abbrev pub LeadsTo : List Certificate → List TrustAnchor → ℕ → List ℕ → ℕ → Type 0
LeadsTo certificates anchors below [] anchor = IsFirst (IsAnchorAboveAt certificates below) anchors anchor
LeadsTo certificates anchors below (next ∷ more) anchor =
    HasNone (IsAnchorAboveAt certificates below) anchors
    × IsFirst (IsAboveAt certificates below) certificates next
    × LeadsTo certificates anchors next more anchor

-- The members are these places among the certificates, the signer's first, and the anchor is at that place: the first
-- anchor that is named, without a member; or, where none is named, from the first certificate that is named at most
-- eight members.
abbrev pub HasMembers : SignerIdentifier → List Certificate → List TrustAnchor → List ℕ → ℕ → Type 0
HasMembers name certificates anchors [] anchor = IsFirst (IsNamedAnchor name) anchors anchor
HasMembers name certificates anchors (first ∷ more) anchor =
    HasNone (IsNamedAnchor name) anchors
    × IsFirst (IsNamed name) certificates first
    × (length more ≤ 7)
    × LeadsTo certificates anchors first more anchor

-- a path: the places of its members, and that of the anchor
pub record PathPlaces : Type 0 where
  pub members : List ℕ
  pub anchor : ℕ

-- it is the signer's path
abbrev pub PathOf : SignerIdentifier → List Certificate → List TrustAnchor → PathPlaces → Type 0
PathOf name certificates anchors path = HasMembers name certificates anchors path.members path.anchor
