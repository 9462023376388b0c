use Rattle.std.proofs.Common.{List, ℕ}
use Rattle.cms_signed.specs.Outline.{Sees}
use Rattle.judge_bench.proofs.verdict.feed.Given as goal

-- an item is seen as the outline
abbrev pub invariant-loop : goal.invariant-loop
invariant-loop l = (item : List ℕ) → Sees l.fn.outline item → (longer : List ℕ) × Sees l.outline longer
