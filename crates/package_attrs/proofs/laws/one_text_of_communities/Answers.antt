use Rattle.package_attrs.proofs.ListLaws.{communities-whole}
use Rattle.package_attrs.proofs.ReadingLemmas.{one_text}
use Rattle.package_attrs.proofs.laws.one_text_of_communities.Goals as goal

pub returns-clause-unique : goal.returns-clause-unique
returns-clause-unique c = one_text communities-whole

pub returns-clause-read : goal.returns-clause-read
returns-clause-read c = communities-whole.again
