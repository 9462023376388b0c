-- A certificate of the code as its value.
use Rattle.std.specs.Prelude.{ℕ, List, Option, None, Some}
use Rattle.std.specs.Borrow.{Bor}
use Rattle.cert_fields.specs.Certificate.{BitString, SignedPart, Certificate}
use Rattle.cert_fields.specs.declared.certificate.Bits.{Bits}
use Rattle.cert_fields.specs.declared.certificate.Cert.{Cert}
use Rattle.cert_fields.specs.CertificateReading.{OptionalParts, Unversioned}
use Rattle.cert_fields.specs.declared.signed_part.TbsCert.{TbsCert}
use Rattle.cert_fields.specs.declared.signed_part.Parts.{Parts}
use Rattle.cert_fields.specs.declared.signed_part.UnversionedParts.{UnversionedParts}

abbrev pub bits_view : Bits → BitString
bits_view bits = (bits.unused, bits.octets.now)

abbrev pub part_view : Option (Bor (List ℕ)) → Option (List ℕ)
part_view None = None
part_view (Some part) = Some part.now

abbrev pub optional_view : Parts → OptionalParts
optional_view p = (part_view p.issuer_unique, (part_view p.subject_unique, part_view p.extensions))

abbrev pub unversioned_view : UnversionedParts → Unversioned
unversioned_view u = (
  u.serial.now,
  (
    u.algorithm.now,
    (
      u.issuer.now,
      (
        u.validity,
        (
          u.subject.now,
          ((u.key_algorithm.now, bits_view u.key), optional_view u.parts),
        ),
      ),
    ),
  ),
)

abbrev pub signed_view : TbsCert → SignedPart
signed_view s = record {
  version = s.version;
  serial = s.serial.now;
  algorithm = s.algorithm.now;
  issuer = s.issuer.now;
  subject = s.subject.now;
  from = s.from;
  to = s.to;
  key_algorithm = s.key_algorithm.now;
  key = bits_view s.key;
  issuer_unique = part_view s.issuer_unique;
  subject_unique = part_view s.subject_unique;
  extensions = part_view s.extensions;
}

abbrev pub certificate_view : Cert → Certificate
certificate_view c = record {
  signed = signed_view c.signed;
  algorithm = c.algorithm.now;
  signature = bits_view c.signature;
}
