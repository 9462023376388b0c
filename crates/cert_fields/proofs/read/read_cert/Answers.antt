use Rattle.std.proofs.Common.{arith}
use Rattle.der_core.proofs.Shapes.{Answers-reads}
use Rattle.cert_fields.specs.View.{certificate_view}
use Rattle.cert_fields.proofs.CertificateLaws.{certificate-whole, tbs_some}
use Rattle.cert_fields.proofs.read.read_cert.Goals as goal

pub returns-clause-spelled : goal.returns-clause-spelled
returns-clause-spelled c =
    Answers-reads certificate_view c.args.bytes.now c.read_whole.result certificate-whole (λ i. omega (arith, c.type_inv.bytes i))
    c.read_whole.ensures.exact

pub returns-clause-tbs : goal.returns-clause-tbs
returns-clause-tbs c = tbs_some c.read_whole.result c.read_whole.ensures.tbs
