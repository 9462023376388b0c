use Rattle.std.proofs.Common.{◌≡◌, ◌++◌, ◌+◌, ◌∙◌, List, ℕ, ◌∷◌, false, length, drop, option_map, refl, ap, ap₂, sym, arith}
use Rattle.std.proofs.lemmas.List.{length-append}
use Rattle.std.proofs.lemmas.Result.{IfOk-weaker}
use Rattle.der_core.specs.Element.{enc}
use Rattle.der_core.specs.Number.{number_contents}
use Rattle.der_core.specs.Shapes.{text_if}
use Rattle.attribute_set.specs.AttributeSet.{set_contents}
use Rattle.cert_fields.specs.Algorithms.{digest_algorithm, signature_algorithm}
use Rattle.cms_signed.specs.Certificates.{choices_text}
use Rattle.cms_signed.specs.Cut.{signed_data}
use Rattle.cms_signed.specs.Signer.{signed_attributes_text}
use Rattle.signed_write.specs.Orders.{in_order}
use Rattle.signed_write.specs.Written.{written_choices}
use Rattle.signed_write.proofs.Packed.{same_parts, packed, sized, retagged}
use Rattle.signed_write.proofs.Sets.{choices_part}
use Rattle.signed_write.proofs.message.begin_message.Goals as goal

pub returns-clause-signed : goal.returns-clause-signed
returns-clause-signed c =
    IfOk-weaker c.put_together.result _ _ (λ unsigned signed. λ w is.
    signed ∙ ap (λ (o : List ℕ). 0x31 ∷ drop 1 o) (c.deref-4.ensures.value ∙ c.in_ok-attributes.ensures.ok w.attributes is.attributes)
    ∙ retagged (set_contents (in_order w.attributes))) c.put_together.ensures.signed

pub returns-clause-text : goal.returns-clause-text
returns-clause-text c =
    let draft = c.args.draft.now in
    let front = c.in_ok-front.front.items in
    let middle = c.in_ok-middle.middle.items in
    let attributes = c.in_ok-attributes.attributes.items in
    let behind = c.in_ok-behind.behind.items in
    let size = c.signature_size-size.result in
    IfOk-weaker c.put_together.result _ _ (λ unsigned before. λ w is signature long.
    let few : length signature ≡ size = long ∙ sym c.signature_size-size.ensures.value in
    let later : length (attributes ++ (behind ++ signature)) ≡ c.len.result + c.len-2.result + size =
    omega (arith, few, length-append attributes (behind ++ signature), length-append behind signature, c.len.ensures, c.len-2.ensures) in
    let after : length (draft.content.now ++ (middle ++ (attributes ++ (behind ++ signature))))
    ≡ length draft.content.now + c.len-3.result + (c.len.result + c.len-2.result + size) =
    omega (arith, sized draft.content.now middle attributes behind signature size few, c.len-3.ensures, c.len.ensures, c.len-2.ensures) in
    ap (λ (o : List ℕ). o ++ signature) (before
    ∙ same_parts c.deref-2.result.now draft.content.now c.deref-3.result.now c.deref-4.result.now c.deref-5.result.now
    front draft.content.now middle attributes behind c.deref-2.ensures.value refl c.deref-3.ensures.value
    c.deref-4.ensures.value c.deref-5.ensures.value)
    ∙ packed front draft.content.now middle attributes behind signature c.deref.result.now draft.front.now w.content
    (enc 0x06 signed_data) (enc 0x02 (number_contents 3)) (enc 0x31 (digest_algorithm false)) (enc 0x06 w.content_type)
    (text_if (enc 0xA0) (option_map choices_text (written_choices w.certificates)))
    (enc 0x02 (number_contents 3)) (enc 0x80 w.signer) (digest_algorithm false) signature_algorithm
    (signed_attributes_text (in_order w.attributes))
    (c.in_ok-front.ensures.text (draft.content.now ++ (middle ++ (attributes ++ (behind ++ signature)))) after)
    (ap (λ (o : List ℕ). o ++ draft.content.now) c.deref.ensures.value
    ∙ c.in_ok-content.ensures.text draft.content.now refl
    ∙ ap (λ (o : List ℕ). enc 0x30 (enc 0x06 o ++ enc 0xA0 (enc 0x04 (draft.front.now ++ draft.content.now)))) is.content_type)
    is.content
    (c.in_ok-middle.ensures.text (attributes ++ (behind ++ signature)) later
    ∙ ap₂ (λ (certificates signer : List ℕ). certificates ++ enc 0x31 (enc 0x30 (enc 0x02 (number_contents 3)
    ++ (enc 0x80 signer ++ (digest_algorithm false ++ (attributes ++ (behind ++ signature)))))))
    (choices_part draft.certificates.now w.certificates is.certificates) is.signer)
    (c.in_ok-behind.ensures.text signature few)
    (c.in_ok-attributes.ensures.ok w.attributes is.attributes)) c.put_together.ensures.before

pub returns-clause-most : goal.returns-clause-most
returns-clause-most c =
    let content = c.args.draft.now.content.now in
    let front = c.deref-2.result.now in
    let middle = c.deref-3.result.now in
    let attributes = c.deref-4.result.now in
    let behind = c.deref-5.result.now in
    IfOk-weaker c.put_together.result _ _ (λ unsigned before.
    omega (
      arith,
      ap (λ (o : List ℕ). length o) before,
      sized front content middle attributes behind (length behind) refl,
      ap (λ (o : List ℕ). length o) c.deref-2.ensures.value,
      ap (λ (o : List ℕ). length o) c.deref-3.ensures.value,
      ap (λ (o : List ℕ). length o) c.deref-4.ensures.value,
      ap (λ (o : List ℕ). length o) c.deref-5.ensures.value,
      c.in_ok-front.ensures.most,
      c.in_ok-middle.ensures.most,
      c.in_ok-attributes.ensures.most,
      c.in_ok-behind.ensures.most,
    )) c.put_together.ensures.before
