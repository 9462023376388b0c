use Rattle.content_stream.proofs.WrapLemmas.{image_size_is}
use Rattle.content_stream.proofs.wrap.image_length.Goals as goal

pub returns-clause-image : goal.returns-clause-image
returns-clause-image c = λ content image size begins imaged.
    image_size_is c.args.content_size c.wrap_size.result c.args.front.now content image c.wrap_size.ensures.wrap
    size begins imaged
