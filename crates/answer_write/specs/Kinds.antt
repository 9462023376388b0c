-- What an answer is.
use Rattle.std.specs.Prelude.{ℕ, List}
use Rattle.answer_write.specs.Answers.{load_receipt, load_error}
use Rattle.answer_write.specs.declared.kind.AnswerKind.{AnswerKind}
use Rattle.answer_write.specs.declared.kind.AnswerKind.TheVariants as kinds

-- its type, by the contents of its OBJECT IDENTIFIER
abbrev pub type_of : AnswerKind → List ℕ
type_of kinds.Receipt = load_receipt
type_of kinds.Error = load_error
