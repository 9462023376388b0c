-- What is above a certificate on its path.
use Rattle.std.specs.Prelude.{ℕ, List, Result, Ok, Err}
use Rattle.cert_fields.specs.Certificate.{Certificate}
use Rattle.cert_fields.specs.Anchor.{TrustAnchor}
use Rattle.path_check.specs.First.{HasNone, IsFirst}
use Rattle.path_check.specs.Paths.{IsAboveAt, IsAnchorAboveAt}
use Rattle.path_check.specs.declared.find.Above.{Above}
use Rattle.path_check.specs.declared.find.Above.TheVariants as above
use Rattle.path_check.specs.declared.find.FindFault.{FindFault}
use Rattle.path_check.specs.declared.find.FindFault.TheVariants.{NoAnchor, Memory}

-- the first anchor above the certificate at this place, else the first certificate, else nothing
abbrev pub TellsAbove : List Certificate → List TrustAnchor → ℕ → Above → Type 0
TellsAbove certificates anchors place (above.Anchor anchor) =
    IsFirst (IsAnchorAboveAt certificates place) anchors anchor
TellsAbove certificates anchors place (above.Certificate next) =
    HasNone (IsAnchorAboveAt certificates place) anchors × IsFirst (IsAboveAt certificates place) certificates next
TellsAbove certificates anchors place above.Nothing =
    HasNone (IsAnchorAboveAt certificates place) anchors × HasNone (IsAboveAt certificates place) certificates

-- a search says that there is no path
abbrev pub SaysNone : {A : Type 0} → Result A FindFault → Type 0
SaysNone (Ok found) = ⊥
SaysNone (Err NoAnchor) = Unit {0}
SaysNone (Err Memory) = ⊥
