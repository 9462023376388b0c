use Rattle.der_core.proofs.Shapes.{Answers-reads}
use Rattle.cert_fields.specs.View.{bits_view}
use Rattle.cert_fields.proofs.CertificateLaws.{bits-front, and_rest}
use Rattle.cert_fields.proofs.fields.read_bit_string.Goals as goal

pub returns-clause-spelled : goal.returns-clause-spelled
returns-clause-spelled c octets =
    Answers-reads (λ bits. (bits_view bits, c.read_bits_at.new.items)) c.args.items.now c.read_bits_at.result
    (and_rest bits-front) octets c.read_bits_at.ensures
