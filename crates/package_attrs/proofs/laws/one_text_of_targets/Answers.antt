use Rattle.package_attrs.proofs.ListLaws.{targets-whole}
use Rattle.package_attrs.proofs.ReadingLemmas.{one_text}
use Rattle.package_attrs.proofs.laws.one_text_of_targets.Goals as goal

pub returns-clause-unique : goal.returns-clause-unique
returns-clause-unique c = one_text targets-whole

pub returns-clause-read : goal.returns-clause-read
returns-clause-read c = targets-whole.again
