use Rattle.std.proofs.Common.{length, ap}
use Rattle.judge_core.proofs.content.known_of.Goals as goal

pub returns-clause-image : goal.returns-clause-image
returns-clause-image c = λ image is.
    ap length (c.one_image.ensures c.args.content.now image c.image_of.result.now is c.image_of.ensures.image)
