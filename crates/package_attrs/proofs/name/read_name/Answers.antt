use Rattle.der_core.proofs.Shapes.{Answers-reads}
use Rattle.package_attrs.proofs.IdentifierLaws.{name-front}
use Rattle.package_attrs.proofs.ReadingLemmas.{and_rest}
use Rattle.package_attrs.proofs.name.read_name.Goals as goal

pub returns-clause-spelled : goal.returns-clause-spelled
returns-clause-spelled c octets =
    Answers-reads (λ name. (name, c.read_front.new.fields)) c.args.fields.now c.read_front.result (and_rest name-front) octets
    c.read_front.ensures.exact
