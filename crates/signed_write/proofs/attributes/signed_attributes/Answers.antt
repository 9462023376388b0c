use Rattle.std.proofs.Common.{◌∙◌, List, ℕ, ◌++◌, length, ap, arith}
use Rattle.der_core.specs.Element.{enc}
use Rattle.signed_write.proofs.Packed.{some_octets}
use Rattle.signed_write.proofs.attributes.signed_attributes.Goals as goal

pub returns-clause-some : goal.returns-clause-some
returns-clause-some c =
    let contents = c.deref.result.now in
    let is = c.in_ok-put_tlv.ensures.ok ∙ ap (λ (o : List ℕ). o ++ enc 0xA0 contents) c.new-element.ensures.items in
    omega (arith, ap (λ (o : List ℕ). length o) is, some_octets 0xA0 contents)
