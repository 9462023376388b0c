use Rattle.der_core.proofs.Shapes.{Answers-reads}
use Rattle.cert_fields.proofs.CertificateLaws.{serial-front, and_rest}
use Rattle.cert_fields.proofs.fields.read_serial_number.Goals as goal

pub returns-clause-spelled : goal.returns-clause-spelled
returns-clause-spelled c octets =
    Answers-reads (λ serial. (serial.now, c.read_serial.new.items)) c.args.items.now c.read_serial.result
    (and_rest serial-front) octets c.read_serial.ensures
