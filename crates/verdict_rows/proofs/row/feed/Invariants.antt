use Rattle.std.proofs.Common.{ℕ, List, length}
use Rattle.cms_signed.specs.Outline.{Sees}
use Rattle.verdict_rows.proofs.row.feed.Given as goal

-- it is the outline of some octets
abbrev pub invariant-loop-rest : goal.invariant-loop-rest
invariant-loop-rest l = (item : List ℕ) → Sees l.fn.outline item → (more : List ℕ) × Sees l.outline more

abbrev pub decreases-loop-rest : goal.decreases-loop-rest
decreases-loop-rest l = length l.rest
