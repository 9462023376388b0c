use Rattle.cert_fields.proofs.ConstraintLaws as laws
use Rattle.cert_fields.proofs.laws.one_constraints_text.Goals as goal

pub returns : goal.returns
returns c = record { unique = laws.one_constraints_text }
