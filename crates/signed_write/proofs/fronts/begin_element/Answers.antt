use Rattle.std.proofs.Common.{◌++◌, ◌+◌, ◌∙◌, List, ℕ, length, ap, arith}
use Rattle.der_core.specs.Head.{head_octets}
use Rattle.signed_write.proofs.Packed.{begun}
use Rattle.signed_write.proofs.fronts.begin_element.Goals as goal

pub returns-clause-text : goal.returns-clause-text
returns-clause-text c = λ rest long.
    let size = length c.args.contents.now + c.args.later in
    ap (λ (o : List ℕ). o ++ rest) (c.in_ok-extend_from_slice.ensures.items
    ∙ ap (λ (o : List ℕ). o ++ c.args.contents.now) (c.in_ok-put_head.ensures.ok
    ∙ ap (λ (o : List ℕ). o ++ head_octets c.args.tag size) (c.in_ok-reserve.ensures.items ∙ c.new-front.ensures.items)))
    ∙ begun c.args.tag size c.args.contents.now rest (omega (arith, long))
