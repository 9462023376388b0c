-- A certificate that is kept as its octets.
use Rattle.std.specs.Prelude.{◌≡◌, ℕ, List, [], None, Some}
use Rattle.std.specs.Option.{unwrap_or}
use Rattle.der_core.specs.declared.time_value.Time.{Time}
use Rattle.der_core.specs.declared.time_value.TimeForm.TheVariants.{Utc}
use Rattle.cert_fields.specs.Certificate.{Certificate, SignedPart}
use Rattle.cert_fields.specs.CertificateReading.{certificate_of}

abbrev pub no_time : Time
no_time = record { form = Utc; moment = 0 }

abbrev pub no_part : SignedPart
no_part = record {
  version = 0;
  serial = [];
  algorithm = [];
  issuer = [];
  subject = [];
  from = no_time;
  to = no_time;
  key_algorithm = [];
  key = (0, []);
  issuer_unique = None;
  subject_unique = None;
  extensions = None;
}

-- what octets that are no certificate stand for; none that is kept is such
abbrev pub no_certificate : Certificate
no_certificate = record { signed = no_part; algorithm = []; signature = (0, []) }

-- the certificate that octets are
abbrev pub certificate_in : List ℕ → Certificate
certificate_in octets = unwrap_or (certificate_of octets) no_certificate

-- the octets are a certificate, all of them
abbrev pub AreCertificate : List ℕ → Type 0
AreCertificate octets = certificate_of octets ≡ Some (certificate_in octets)
