use Rattle.std.proofs.Common.{ℕ, ◌<◌}
use Rattle.cert_fields.specs.Sid.{sid_view}
use Rattle.path_check.specs.First.{HoldsAt}
use Rattle.path_check.specs.Above.{IsNamed}
use Rattle.path_check.proofs.find.named_certificate.Given as goal

-- it holds of none so far
abbrev pub invariant-loop-place : goal.invariant-loop-place
invariant-loop-place l = (i : ℕ) → i < l.place → ¬ HoldsAt (IsNamed (sid_view l.sid)) l.certs i
