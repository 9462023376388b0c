use Rattle.std.proofs.Common.{◌++◌, ◌∙◌, List, ℕ, ap}
use Rattle.der_core.specs.Element.{enc}
use Rattle.signed_write.proofs.Packed.{nested}
use Rattle.signed_write.proofs.message.content_front.Goals as goal

pub returns-clause-text : goal.returns-clause-text
returns-clause-text c = λ octets long.
    nested 0x04 c.in_ok-head.head.items c.extend_from_slice.new.self.items c.in_ok-explicit.explicit.items
    c.in_ok-content.content.items c.args.front.now octets (enc 0x06 c.args.content_type.now) c.deref-3.result.now c.deref.result.now
    (c.in_ok-head.ensures.text octets long) c.deref-3.ensures.value
    (c.in_ok-extend_from_slice.ensures.items ∙ ap (λ (o : List ℕ). o ++ c.deref-2.result.now) (c.in_ok-put_tlv.ensures.ok
    ∙ ap (λ (o : List ℕ). o ++ enc 0x06 c.args.content_type.now) c.new-contents.ensures.items)
    ∙ ap (λ (o : List ℕ). enc 0x06 c.args.content_type.now ++ o) c.deref-2.ensures.value)
    (c.in_ok-explicit.ensures.text octets long) c.deref.ensures.value (c.in_ok-content.ensures.text octets long)
