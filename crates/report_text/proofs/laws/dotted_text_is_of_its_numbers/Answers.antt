use Rattle.std.proofs.Common.{ap}
use Rattle.der_core.proofs.Objects.{subidentifiers_again}
use Rattle.report_text.specs.Dotted.{dotted_if}
use Rattle.report_text.proofs.laws.dotted_text_is_of_its_numbers.Goals as goal

pub returns : goal.returns
returns c = λ numbers small. ap dotted_if (subidentifiers_again numbers small)
