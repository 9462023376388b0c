use Rattle.std.proofs.Common.{inr, length, refl, ap, arith}
use Rattle.der_core.specs.Head.{head_octets}
use Rattle.content_stream.proofs.WrapLemmas.{wrap_begins, one_head}
use Rattle.content_stream.proofs.wrap.wrap_size.Goals as goal

-- a head with another size than the content's rest is no wrap, and no other head stands there
pub returns-else-size-content_size-clause-wrap : goal.returns-else-size-content_size-clause-wrap
returns-else-size-content_size-clause-wrap c = inr (
  λ n wrap.
      let begins = wrap_begins c.args.content_size c.args.front.now n wrap in
      let same = (one_head c.args.front.now 4 4 n c.in-Some.size begins c.in-Some.ensures.found.0).1 in
      c.if-size-content_size.false
      (omega (arith, c.in-Some.ensures.found.1, wrap.whole, same, ap (λ m. length (head_octets 0x04 m)) same)),
  refl,
)

pub returns-in-None-clause-wrap : goal.returns-in-None-clause-wrap
returns-in-None-clause-wrap c = inr (
  λ n wrap. c.in-None.ensures.none n (wrap_begins c.args.content_size c.args.front.now n wrap),
  refl,
)
