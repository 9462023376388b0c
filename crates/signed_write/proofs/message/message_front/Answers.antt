use Rattle.std.proofs.Common.{◌++◌, ◌∙◌, List, ℕ, false, ap, append_assoc}
use Rattle.der_core.specs.Element.{enc}
use Rattle.der_core.specs.Number.{number_contents}
use Rattle.cert_fields.specs.Algorithms.{digest_algorithm}
use Rattle.cms_signed.specs.Cut.{signed_data}
use Rattle.signed_write.proofs.Packed.{nested}
use Rattle.signed_write.proofs.message.message_front.Goals as goal

pub returns-clause-text : goal.returns-clause-text
returns-clause-text c = λ rest long.
    let version = enc 0x02 (number_contents 3) in
    let digests = enc 0x31 (digest_algorithm false) in
    nested 0x30 c.in_ok-head.head.items c.extend_from_slice.new.self.items c.in_ok-explicit.explicit.items
    c.in_ok-data.data.items c.deref.result.now rest (enc 0x06 signed_data) c.deref-4.result.now c.deref-2.result.now
    (c.in_ok-head.ensures.text rest long) c.deref-4.ensures.value
    (c.in_ok-extend_from_slice.ensures.items ∙ ap (λ (o : List ℕ). o ++ c.deref-3.result.now) (c.in_ok-put_tlv.ensures.ok
    ∙ ap (λ (o : List ℕ). o ++ enc 0x06 signed_data) c.new-contents.ensures.items)
    ∙ ap (λ (o : List ℕ). enc 0x06 signed_data ++ o) c.deref-3.ensures.value)
    (c.in_ok-explicit.ensures.text rest long) c.deref-2.ensures.value (c.in_ok-data.ensures.text rest long)
    ∙ ap (λ (o : List ℕ). enc 0x30 (enc 0x06 signed_data ++ enc 0xA0 (enc 0x30 o)))
    (ap (λ (o : List ℕ). o ++ rest) (c.deref.ensures.value ∙ c.in_ok-fields.ensures.ok)
    ∙ append_assoc version (digests ++ c.args.front.now) rest
    ∙ ap (λ (o : List ℕ). version ++ o) (append_assoc digests c.args.front.now rest))
