use Rattle.std.proofs.Common.{refl, ◌∙◌}
use Rattle.module_record.proofs.KeyLaws.{same_key}
use Rattle.text_rows.proofs.whole_answers.tree_of.Goals as goal

pub returns-in-Ok : goal.returns-in-Ok
returns-in-Ok c = record { key = c.in-Ok.ensures.key ∙ same_key _ c.args.owner.now.key refl }
