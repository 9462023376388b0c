-- The same by places: a path as a sequence of members.
use Rattle.std.specs.Prelude.{◌≡◌, ℕ, suc, List, Some, length, slice_get}
use Rattle.cert_fields.specs.Certificate.{Certificate}
use Rattle.cert_fields.specs.Anchor.{TrustAnchor}
use Rattle.path_check.specs.First.{HasNone, IsFirst}
use Rattle.path_check.specs.Paths.{IsAboveAt, IsAnchorAboveAt}

-- Of two members that stand one behind the other no anchor is above the lower one, and the upper one is the first
-- certificate above it; the anchor is the first above the last member.
pub record Rises (certificates : List Certificate) (anchors : List TrustAnchor) (members : List ℕ) (anchor : ℕ)
    : Type 0 where
  pub each : (i below above : ℕ) → slice_get members i ≡ Some below → slice_get members (suc i) ≡ Some above
      → HasNone (IsAnchorAboveAt certificates below) anchors × IsFirst (IsAboveAt certificates below) certificates above
  pub last : (i top : ℕ) → length members ≡ suc i → slice_get members i ≡ Some top
      → IsFirst (IsAnchorAboveAt certificates top) anchors anchor
