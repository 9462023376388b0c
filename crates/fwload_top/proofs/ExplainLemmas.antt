-- The status of `explain`.
use Rattle.std.proofs.Common.{ℕ, Option, Some, None}
use Rattle.fwload_top.specs.Explain.{answer_status}
use Rattle.fwload_top.proofs.AnswersOnceLemmas.{HasLine}

-- it goes with a line
pub has_line : (refused : Option ℕ) → HasLine (answer_status refused)
has_line None = tt
has_line (Some number) = tt
