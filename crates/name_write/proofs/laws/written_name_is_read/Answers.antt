use Rattle.package_attrs.proofs.IdentifierLaws.{name-front}
use Rattle.name_write.proofs.laws.written_name_is_read.Goals as goal

pub returns : goal.returns
returns c = name-front.again
