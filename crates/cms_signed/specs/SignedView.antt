-- What the code reads, as the values of the readings.
use Rattle.std.specs.Prelude.{◌≡◌, ℕ, List, Option, option_map}
use Rattle.std.specs.Borrow.{Bor}
use Rattle.cert_fields.specs.Certificate.{certificate_text, IsCertificate, signed_text as certificate_signed_text}
use Rattle.cert_fields.specs.View.{certificate_view}
use Rattle.cert_fields.specs.declared.certificate.Cert.{Cert}
use Rattle.cms_signed.specs.declared.gapped.Gapped.{Gapped}
use Rattle.cms_signed.specs.declared.signed_data.ContentInfo.{ContentInfo}
use Rattle.cms_signed.specs.declared.signed_data.SignedData.{SignedData}
use Rattle.cms_signed.specs.declared.signed_data.EncapsulatedContentInfo.{EncapsulatedContentInfo}
use Rattle.cms_signed.specs.declared.tail.Tail.{Tail}
use Rattle.cms_signed.specs.Gapped.{Gapped as Octets}
use Rattle.cms_signed.specs.declared.certificates.Choice.{Choice}
use Rattle.cms_signed.specs.declared.certificates.Choice.TheVariants as choices
use Rattle.cms_signed.specs.declared.signer_info.Attributed.{Attributed}
use Rattle.cms_signed.specs.declared.signer_info.SignerInfo.{SignerInfo}
use Rattle.cms_signed.specs.Certificates.{CertificateChoice, Plain, Other}
use Rattle.cert_fields.specs.Sid.{sid_view}
use Rattle.cms_signed.specs.Signed.{Tail as TailOctets}
use Rattle.cms_signed.specs.Signer.{SignerInfo as SignerOctets}
use Rattle.cms_signed.specs.SignerReading.{Attributed as AttributedOctets}

abbrev pub gapped_view : Gapped → Octets
gapped_view g = record { front = g.front.now; gap = g.gap; back = g.back.now }

abbrev pub info_view : ContentInfo → List ℕ × Octets
info_view i = (i.content_type, gapped_view i.content)

abbrev pub signed_view : SignedData → ℕ × (List ℕ × (Octets × List ℕ))
signed_view s = (s.version, (s.digest_algorithms.now, (gapped_view s.encapsulated, s.tail.now)))

abbrev pub encapsulated_view : EncapsulatedContentInfo → List ℕ × Option Octets
encapsulated_view e = (e.content_type, option_map gapped_view e.content)

abbrev pub tail_view : Tail → TailOctets
tail_view t = record {
  certificates = option_map (λ o. o.now) t.certificates;
  crls = option_map (λ o. o.now) t.crls;
  signer_infos = t.signer_infos.now;
}

abbrev pub choice_view : Choice → CertificateChoice
choice_view (choices.Plain certificate) = Plain (certificate_view certificate)
choice_view (choices.Other tag contents) = Other tag contents.now

-- a certificate that was read of its whole text, with the octets of both and of its signed part
pub record IsWhole (c : Cert) : Type 0 where
  pub valid : IsCertificate (certificate_view c)
  pub text : c.whole.now ≡ certificate_text (certificate_view c)
  pub tbs : c.tbs.now ≡ certificate_signed_text (certificate_view c).signed

-- a choice that is a certificate was read so
abbrev pub HasWhole : Choice → Type 0
HasWhole (choices.Plain certificate) = IsWhole certificate
HasWhole (choices.Other tag contents) = Unit {0}

abbrev pub signature_view : Bor (List ℕ) × Option (Bor (List ℕ)) → List ℕ × Option (List ℕ)
signature_view s = (s.0.now, option_map (λ o. o.now) s.1)

abbrev pub attributed_view : Attributed → AttributedOctets
attributed_view a = (
  option_map (λ o. o.now) a.signed_attributes,
  (a.signature_algorithm.now, (a.signature.now, option_map (λ o. o.now) a.unsigned_attributes)),
)

abbrev pub signer_view : SignerInfo → SignerOctets
signer_view s = record {
  version = s.version;
  sid = sid_view s.sid;
  digest_algorithm = s.digest_algorithm.now;
  signed_attributes = option_map (λ o. o.now) s.attributed.signed_attributes;
  signature_algorithm = s.attributed.signature_algorithm.now;
  signature = s.attributed.signature.now;
  unsigned_attributes = option_map (λ o. o.now) s.attributed.unsigned_attributes;
}
