use Rattle.bank_layout.proofs.Recovering.{old_or_new}
use Rattle.bank_layout.proofs.laws.writing_leaves_old_or_new.Goals as goal

pub returns : goal.returns
returns c = record {
  moment = λ a b m running manifest next holds keeps. old_or_new a b m running manifest holds keeps next;
}
