use Rattle.std.proofs.Common.{ℕ, List, map, refl, ◌∙◌, ap}
use Rattle.der_core.specs.Attribute.{attribute_text}
use Rattle.signed_write.specs.Written.{IsDraft}
use Rattle.answer_write.specs.Answers.{written_answer, answer_attributes}
use Rattle.answer_write.specs.Kinds.{type_of}
use Rattle.answer_write.proofs.Signing.{signed_by}
use Rattle.answer_write.proofs.answer.reserve_answer.Goals as goal

pub returns-clause-answer : goal.returns-clause-answer
returns-clause-answer c =
    let m = c.args.owner.now in
    let text = c.args.text.now in
    let kind = c.content_type-content_type.ensures.value in
    let w = written_answer m (type_of c.args.kind) text in
    let draft : IsDraft _ w = record {
      content_type = kind;
      content = refl;
      certificates = refl;
      signer = c.requires.signer;
      attributes = ap (map (λ part. part.items)) c.deref.ensures.value ∙ c.in_ok-attributes.ensures.ok ∙ ap (λ (k : List ℕ). map attribute_text (answer_attributes k text)) kind;
    } in
    record {
      plain = c.in_ok-plain.ensures.octets;
      size = c.in_ok-unsigned.ensures.size;
      signed = signed_by c.signatures_hold.ensures m (type_of c.args.kind) text c.in_ok-unsigned.unsigned
          (c.in_ok-unsigned.ensures.signed w draft) (c.in_ok-unsigned.ensures.text w draft);
    }
