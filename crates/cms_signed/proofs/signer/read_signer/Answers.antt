use Rattle.std.proofs.Common.{ℕ, List, Option, ap, sym, ◌∙◌}
use Rattle.std.specs.Prelude.{option_map}
use Rattle.std.specs.Borrow.{Bor}
use Rattle.std.proofs.lemmas.Bool.{false≢true}
use Rattle.std.proofs.lemmas.Option.{none-some}
use Rattle.cms_signed.specs.SignedView.{signer_view}
use Rattle.cms_signed.specs.Signer.{to_be_signed}
use Rattle.cms_signed.proofs.TailLaws as laws
use Rattle.cms_signed.proofs.signer.read_signer.Goals as goal

abbrev octets : Option (Bor (List ℕ)) → Option (List ℕ)
octets o = option_map (λ (x : Bor (List ℕ)). x.now) o

pub returns-in_default-clause-answer : goal.returns-in_default-clause-answer
returns-in_default-clause-answer c =
    laws.numbered c.args.tail.now _ 16 c.numbered.ensures.value
    (laws.bad_signed c.args.tail.now _ (signer_view c.in-Ok.found.1) c.in-Ok.ensures
    (λ attributes set is. none-some _ (sym (ap octets c.in_default.is) ∙ is)))

pub signed_attributes-requires-clause-room : goal.signed_attributes-requires-clause-room
signed_attributes-requires-clause-room c =
    (laws.signed_room (signer_view c.in-Ok.found.1) c.in-Some.element.now c.in-Ok.ensures.signer (ap octets c.in-Some.is)).1

pub returns-in_default-2-clause-answer : goal.returns-in_default-2-clause-answer
returns-in_default-2-clause-answer c =
    laws.numbered c.args.tail.now _ 16 c.numbered-in_default-2.ensures.value
    (laws.bad_signed c.args.tail.now _ (signer_view c.in-Ok.found.1) c.in-Ok.ensures
    (laws.none_read (signer_view c.in-Ok.found.1) c.in-Some.element.now c.in_ok-attrs.field-0 (ap octets c.in-Some.is)
    c.in_ok-attrs.ensures c.in_default-2.is))

pub returns-then-not-is_sha_256-clause-answer : goal.returns-then-not-is_sha_256-clause-answer
returns-then-not-is_sha_256-clause-answer c =
    let signed = laws.some_read (signer_view c.in-Ok.found.1) c.in-Some.element.now c.in_ok-attrs.field-0
    c.in-Some-2.attrs (ap octets c.in-Some.is) c.in_ok-attrs.ensures c.in-Some-2.is in
    laws.numbered c.args.tail.now _ 17 c.numbered-then-not-is_sha_256.ensures.value
    (laws.bad_digest c.args.tail.now _ (signer_view c.in-Ok.found.1) c.in-Ok.ensures
    (c.in-Some-2.attrs, signed.0, signed.1)
    (laws.isnt_digest (signer_view c.in-Ok.found.1) (sym c.is_sha_256.ensures ∙ c.if-not-is_sha_256.true)))

pub returns-then-not-is_hss_lms-clause-answer : goal.returns-then-not-is_hss_lms-clause-answer
returns-then-not-is_hss_lms-clause-answer c =
    let signed = laws.some_read (signer_view c.in-Ok.found.1) c.in-Some.element.now c.in_ok-attrs.field-0
    c.in-Some-2.attrs (ap octets c.in-Some.is) c.in_ok-attrs.ensures c.in-Some-2.is in
    laws.numbered c.args.tail.now _ 18 c.numbered-then-not-is_hss_lms.ensures.value
    (laws.bad_signature c.args.tail.now _ (signer_view c.in-Ok.found.1) c.in-Ok.ensures
    (c.in-Some-2.attrs, signed.0, signed.1)
    (laws.is_digest (signer_view c.in-Ok.found.1) (sym c.is_sha_256.ensures ∙ c.if-not-is_sha_256.false))
    (λ is. false≢true (sym c.if-not-is_hss_lms.true ∙ c.is_hss_lms.ensures.exact.1 is)))

pub returns-clause-answer : goal.returns-clause-answer
returns-clause-answer c =
    let signed = laws.some_read (signer_view c.in-Ok.found.1) c.in-Some.element.now c.in_ok-attrs.field-0
    c.in-Some-2.attrs (ap octets c.in-Some.is) c.in_ok-attrs.ensures c.in-Some-2.is in
    let digest = laws.is_digest (signer_view c.in-Ok.found.1) (sym c.is_sha_256.ensures ∙ c.if-not-is_sha_256.false) in
    let signature = c.is_hss_lms.ensures.exact.0 c.if-not-is_hss_lms.false in
    let b = laws.is_behind c.args.tail.now _ (signer_view c.in-Ok.found.1) c.in-Some-2.attrs c.in-Ok.ensures
    signed.0 signed.1 digest signature in (
      laws.all_asked c.args.tail.now _ (signer_view c.in-Ok.found.1) c.in-Ok.ensures (c.in-Some-2.attrs, signed.0, signed.1)
          digest signature,
      (
        b.0,
        b.1,
        b.2,
        record {
          certs = b.3;
          sid = b.4;
          attrs = b.5;
          attrs_rest = laws.signed_is c.in-Some.element.now _ c.in-Some-2.attrs c.untagged.ensures signed.2
              ∙ ap to_be_signed b.5;
          signature = b.6;
        },
      ),
    )
