use Rattle.der_core.proofs.Shapes.{Answers-reads}
use Rattle.der_core.proofs.TimeValues.{time-front}
use Rattle.cert_fields.proofs.CertificateLaws.{and_rest}
use Rattle.cert_fields.proofs.fields.read_time.Goals as goal

pub returns-clause-spelled : goal.returns-clause-spelled
returns-clause-spelled c octets =
    Answers-reads (λ time. (time, c.read_time_at.new.items)) c.args.items.now c.read_time_at.result
    (and_rest time-front) octets c.read_time_at.ensures
