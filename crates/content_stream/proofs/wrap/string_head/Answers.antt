use Rattle.std.proofs.Common.{◌∙◌, sym}
use Rattle.content_stream.proofs.WrapLemmas.{head_read}
use Rattle.content_stream.proofs.wrap.string_head.Goals as goal

-- a head that stands there is read, and none was
pub returns-in-Err-clause-none : goal.returns-in-Err-clause-none
returns-in-Err-clause-none c = λ size begins.
    let read = sym (head_read c.args.front.now 4 size begins) ∙ c.in-Err.ensures.exact in cc
