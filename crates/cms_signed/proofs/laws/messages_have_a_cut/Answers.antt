use Rattle.cms_signed.proofs.MessageCuts.{message_cut}
use Rattle.cms_signed.proofs.laws.messages_have_a_cut.Goals as goal

pub returns : goal.returns
returns c m h = message_cut m h
