use Rattle.cert_fields.proofs.ExtensionLaws.{one_reading_from}
use Rattle.cert_fields.proofs.laws.one_reading_of_extensions.Goals as goal

pub returns : goal.returns
returns c = record { unique = λ cert these those h k. one_reading_from cert.signed.extensions these those h k }
