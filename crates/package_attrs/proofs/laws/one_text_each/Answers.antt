use Rattle.package_attrs.proofs.IdentifierLaws.{identifier-whole}
use Rattle.package_attrs.proofs.ReadingLemmas.{one_text}
use Rattle.package_attrs.proofs.laws.one_text_each.Goals as goal

pub returns-clause-unique : goal.returns-clause-unique
returns-clause-unique c = one_text identifier-whole

pub returns-clause-read : goal.returns-clause-read
returns-clause-read c = identifier-whole.again
