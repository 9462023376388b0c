use Rattle.std.proofs.Common.{ℕ, List}
use Rattle.cms_signed.specs.Outline.{Sees}
use Rattle.verdict_rows.proofs.row.outlined.Given as goal

-- it is the outline of some octets
abbrev pub invariant-loop-piece : goal.invariant-loop-piece
invariant-loop-piece l = (octets : List ℕ) × Sees l.outline octets
