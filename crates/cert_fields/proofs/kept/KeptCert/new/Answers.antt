use Rattle.std.proofs.Common.{◌≡◌, ◌↔◌, Option, Some, ap, sym, subst}
use Rattle.std.specs.Option.{unwrap_or}
use Rattle.cert_fields.specs.Certificate.{Certificate, IsCertificate, certificate_text}
use Rattle.cert_fields.specs.KeptCertificate.{no_certificate}
use Rattle.cert_fields.proofs.kept.KeptCert.new.Goals as goal

pub returns-in-Some : goal.returns-in-Some
returns-in-Some c =
    let same = ap (λ (read : Option Certificate). unwrap_or read no_certificate) c.in-Some.ensures.exact in
    record {
      spelled = λ certificate. subst
          (λ (v : Certificate). (Some v ≡ Some certificate) ↔ (IsCertificate certificate × (c.args.octets.now ≡ certificate_text certificate)))
          (sym same) (c.in-Some.ensures.spelled certificate);
    }
