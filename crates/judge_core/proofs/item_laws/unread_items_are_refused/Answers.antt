use Rattle.judge_core.proofs.RefusalLemmas.{no_item, too_long}
use Rattle.judge_core.proofs.item_laws.unread_items_are_refused.Goals as goal

pub returns-clause-none : goal.returns-clause-none
returns-clause-none c = no_item

pub returns-clause-long : goal.returns-clause-long
returns-clause-long c = too_long
