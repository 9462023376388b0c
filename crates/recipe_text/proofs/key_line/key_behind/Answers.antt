use Rattle.recipe_text.proofs.KeyLines.{words_read}
use Rattle.recipe_text.proofs.key_line.key_behind.Goals as goal

pub returns : goal.returns
returns c = record { spelled = words_read c.args.words.now c.key_in.result c.key_in.ensures.exact }
