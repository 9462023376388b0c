use Rattle.der_core.proofs.Shapes.{Answers-reads}
use Rattle.package_attrs.proofs.ListLaws.{oid-front}
use Rattle.package_attrs.proofs.ReadingLemmas.{and_rest}
use Rattle.package_attrs.proofs.fields.read_oid_at.Goals as goal

pub returns-clause-spelled : goal.returns-clause-spelled
returns-clause-spelled c are =
    Answers-reads (λ id. (id, c.oid_at.new.fields)) c.args.fields.now c.oid_at.result (and_rest oid-front) are
    c.oid_at.ensures
