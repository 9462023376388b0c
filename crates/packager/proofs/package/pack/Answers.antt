use Rattle.std.proofs.Common.{◌≡◌, ◌++◌, ◌∙◌, List, ℕ, map, length, refl, ap, ap₂, sym, arith, Vec, Global}
use Rattle.std.specs.List.{flat_map, concat}
use Rattle.std.proofs.lemmas.List.Folds.{flat_map-map}
use Rattle.cms_signed.specs.Message.{message_text}
use Rattle.cms_signed.specs.Signer.{to_be_signed}
use Rattle.lms_sign.specs.PublicKeys.{hss_signature_size}
use Rattle.signed_write.specs.Orders.{in_order}
use Rattle.signed_write.specs.Unsigned.{Parts}
use Rattle.signed_write.specs.Written.{Written, written_message}
use Rattle.packager.specs.PackagePlan.{package_view}
use Rattle.packager.specs.PlannedMessage.{written_of}
use Rattle.packager.proofs.Choices.{same_octets}
use Rattle.packager.proofs.Drafts.{of_one}
use Rattle.packager.proofs.package.pack.Goals as goal

-- the certificates that were put together are the plan's
all_texts : (texts given : List (Vec ℕ Global)) (octets : List ℕ) → octets ≡ flat_map (λ part. part.items) given
    → given ≡ texts → octets ≡ flat_map (λ (text : List ℕ). text) (map (λ part. part.items) texts)
all_texts texts given octets is same =
    is ∙ ap (λ (parts : List (Vec ℕ Global)). flat_map (λ part. part.items) parts) same
    ∙ sym (flat_map-map (λ (text : List ℕ). text) (λ (part : Vec ℕ Global). part.items) texts)

pub begin_message-requires : goal.begin_message-requires
begin_message-requires c =
    let plan = c.requires.plan in
    let certificates = c.deref-6.ensures.value
    ∙ all_texts c.args.plan.now.certificates.items c.deref-3.result.now _ c.in_ok-certificates.ensures.ok c.deref-3.ensures.value in
    record {
      limits = record {
        content_type = omega arith;
        front = omega (arith, ap (λ (o : List ℕ). length o) c.deref-4.ensures.value, c.in_ok-head.ensures.most);
        content = omega (arith, ap (λ (o : List ℕ). length o) c.deref-5.ensures.value, plan.image);
        certificates = omega (arith, ap (λ (o : List ℕ). length o) certificates, plan.certificate_octets);
        signer = omega (arith, ap (λ (o : List ℕ). length o) c.octets.ensures.value, plan.signer.1);
        attributes =
            omega (
              arith,
              ap (λ (parts : List (Vec ℕ Global)). length (concat (map (λ part. part.items) parts))) c.deref-7.ensures.value,
              c.in_ok-attributes.ensures.most,
            );
      };
    }

pub returns-clause-signed : goal.returns-clause-signed
returns-clause-signed c =
    let view = package_view c.args.plan.now in
    of_one c.begin_message.result (λ (unsigned : Parts) (w : Written). unsigned.signed ≡ to_be_signed (in_order w.attributes))
    _ (written_of view) c.begin_message.ensures.signed
    (record {
      content_type = refl;
      content = ap₂ (λ (x y : List ℕ). x ++ y) c.deref-4.ensures.value c.deref-5.ensures.value ∙ c.in_ok-head.ensures.text;
      certificates =
          c.deref-6.ensures.value
          ∙ all_texts c.args.plan.now.certificates.items c.deref-3.result.now _ c.in_ok-certificates.ensures.ok c.deref-3.ensures.value
          ∙ sym (same_octets c.one_certificate_text.ensures.read view.certificates c.requires.plan.certificates);
      signer = c.octets.ensures.value;
      attributes =
          ap (λ (parts : List (Vec ℕ Global)). map (λ part. part.items) parts) c.deref-7.ensures.value
          ∙ c.in_ok-attributes.ensures.ok;
    })

pub returns-clause-text : goal.returns-clause-text
returns-clause-text c =
    let view = package_view c.args.plan.now in
    of_one c.begin_message.result (λ (unsigned : Parts) (w : Written). (signature : List ℕ)
    → length signature ≡ hss_signature_size c.args.key.now → unsigned.before ++ signature ≡ message_text (written_message w signature))
    _ (written_of view) c.begin_message.ensures.text
    (record {
      content_type = refl;
      content = ap₂ (λ (x y : List ℕ). x ++ y) c.deref-4.ensures.value c.deref-5.ensures.value ∙ c.in_ok-head.ensures.text;
      certificates =
          c.deref-6.ensures.value
          ∙ all_texts c.args.plan.now.certificates.items c.deref-3.result.now _ c.in_ok-certificates.ensures.ok c.deref-3.ensures.value
          ∙ sym (same_octets c.one_certificate_text.ensures.read view.certificates c.requires.plan.certificates);
      signer = c.octets.ensures.value;
      attributes =
          ap (λ (parts : List (Vec ℕ Global)). map (λ part. part.items) parts) c.deref-7.ensures.value
          ∙ c.in_ok-attributes.ensures.ok;
    })
