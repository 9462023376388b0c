use Rattle.recipe_text.proofs.KeyLines.{line_reads}
use Rattle.recipe_text.proofs.key_line.key_on.Goals as goal

pub returns : goal.returns
returns c = record { spelled = line_reads c.args.line.now c.read_line.result c.read_line.ensures.exact }
