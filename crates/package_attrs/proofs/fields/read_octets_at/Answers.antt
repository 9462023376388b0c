use Rattle.der_core.proofs.Shapes.{Answers-reads}
use Rattle.package_attrs.proofs.ListLaws.{octets-front}
use Rattle.package_attrs.proofs.ReadingLemmas.{and_rest}
use Rattle.package_attrs.proofs.fields.read_octets_at.Goals as goal

pub returns-clause-spelled : goal.returns-clause-spelled
returns-clause-spelled c are =
    Answers-reads (λ octets. (octets, c.octets_at.new.fields)) c.args.fields.now c.octets_at.result (and_rest octets-front) are
    c.octets_at.ensures
