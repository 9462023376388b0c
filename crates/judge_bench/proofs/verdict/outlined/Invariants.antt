use Rattle.std.proofs.Common.{List, ℕ}
use Rattle.cms_signed.specs.Outline.{Sees}
use Rattle.judge_bench.proofs.verdict.outlined.Given as goal

-- an item is seen as the outline
abbrev pub invariant-loop-piece : goal.invariant-loop-piece
invariant-loop-piece l = (item : List ℕ) × Sees l.outline item
