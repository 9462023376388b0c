use Rattle.cms_signed.proofs.Cuts.{is_integer}
use Rattle.cms_signed.proofs.laws.a_version_is_an_integer.Goals as goal

pub returns : goal.returns
returns c = is_integer
