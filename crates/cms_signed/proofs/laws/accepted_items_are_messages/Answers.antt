use Rattle.cms_signed.proofs.MessageLaws.{accepted, holds}
use Rattle.cms_signed.proofs.laws.accepted_items_are_messages.Goals as goal

pub returns : goal.returns
returns c kind item = (accepted kind item, holds kind item)
