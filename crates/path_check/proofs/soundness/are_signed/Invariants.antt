use Rattle.std.proofs.Common.{◌↔◌, map, drop}
use Rattle.cert_fields.specs.Anchor.{TrustAnchor}
use Rattle.path_check.specs.Conditions.{AreSigned}
use Rattle.path_check.specs.Members.{member_view, IsOnlyKey}
use Rattle.path_check.proofs.soundness.are_signed.Given as goal

-- the members are signed exactly where those from here on are
abbrev pub invariant-loop-place : goal.invariant-loop-place
invariant-loop-place l =
    (anchor : TrustAnchor) → IsOnlyKey anchor l.anchor_key
    → AreSigned anchor (map member_view l.members) ↔ AreSigned anchor (drop l.place (map member_view l.members))
