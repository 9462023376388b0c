-- The certificates of a plan, as they stand beside the content.
use Rattle.std.proofs.Common.{◌≡◌, ℕ, ◌<◌, List, [], ◌∷◌, ◌++◌, map, length, Option, Some, option_map, refl, sym, ap, ap₂, subst, ◌∙◌, arith}
use Rattle.std.specs.List.{AllByRecursion, flat_map}
use Rattle.std.specs.Option.{unwrap_or}
use Rattle.der_core.specs.Element.{enc}
use Rattle.der_core.specs.Shapes.{text_if}
use Rattle.cert_fields.specs.Certificate.{Certificate, IsCertificate, certificate_text}
use Rattle.cert_fields.specs.CertificateReading.{certificate_of}
use Rattle.cert_fields.specs.KeptCertificate.{certificate_in, no_certificate}
use Rattle.cms_signed.specs.Certificates.{Plain, choices_text, IsChoice}
use Rattle.packager.specs.PackagePlan.{IsCertificateText}
use Rattle.signed_write.specs.Written.{written_choices}

-- a certificate's text is read as it
abbrev pub ReadsBack : Type 0
ReadsBack = (c : Certificate) → IsCertificate c → certificate_of (certificate_text c) ≡ Some c

-- the certificate that a text is
in_text : ReadsBack → (text : List ℕ) (c : Certificate) → IsCertificate c → text ≡ certificate_text c
    → certificate_in text ≡ c
in_text reads text c valid is =
    ap (λ (o : Option Certificate). unwrap_or o no_certificate) (ap certificate_of is ∙ reads c valid)

-- the octets of the certificates are the plan's
pub same_octets : ReadsBack → (texts : List (List ℕ)) → AllByRecursion IsCertificateText texts
    → choices_text (map (λ text. Plain (certificate_in text)) texts) ≡ flat_map (λ text. text) texts
same_octets reads [] all = refl
same_octets reads (text ∷ texts) ((c, valid, is), more) =
    ap₂ (λ (front rest : List ℕ). front ++ rest)
    (ap certificate_text (in_text reads text c valid is) ∙ sym is) (same_octets reads texts more)

-- where there are any, they stand in [0]
pub written_part : ReadsBack → (texts : List (List ℕ)) → AllByRecursion IsCertificateText texts → 0 < length texts
    → text_if (enc 0xA0) (option_map choices_text (written_choices (map (λ text. Plain (certificate_in text)) texts)))
    ≡ enc 0xA0 (flat_map (λ text. text) texts)
written_part reads [] all some = absurd (omega (arith, some))
written_part reads (text ∷ texts) all some = ap (enc 0xA0) (same_octets reads (text ∷ texts) all)

-- each is a certificate
pub are_choices : ReadsBack → (texts : List (List ℕ)) → AllByRecursion IsCertificateText texts
    → AllByRecursion IsChoice (map (λ text. Plain (certificate_in text)) texts)
are_choices reads [] all = tt
are_choices reads (text ∷ texts) ((c, valid, is), more) =
    (subst IsCertificate (sym (in_text reads text c valid is)) valid, are_choices reads texts more)
