use Rattle.cms_signed.proofs.OneMessage.{one_message}
use Rattle.cms_signed.proofs.laws.one_message.Goals as goal

pub returns : goal.returns
returns c kind other m n h k e = one_message kind other m n h k e
