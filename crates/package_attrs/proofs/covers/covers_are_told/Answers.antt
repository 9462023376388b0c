use Rattle.package_attrs.proofs.CoverLemmas.{identifiers, targets}
use Rattle.package_attrs.proofs.covers.covers_are_told.Goals as goal

pub returns-clause-identifiers : goal.returns-clause-identifiers
returns-clause-identifiers c = identifiers

pub returns-clause-targets : goal.returns-clause-targets
returns-clause-targets c = targets
