-- The identifier of a signer, by which the certificate or the key of the signer is found (RFC 5652, section 5.3).
--
--   SignerIdentifier ::= CHOICE {
--     issuerAndSerialNumber IssuerAndSerialNumber,
--     subjectKeyIdentifier [0] SubjectKeyIdentifier }
--
--   IssuerAndSerialNumber ::= SEQUENCE {
--     issuer Name,
--     serialNumber CertificateSerialNumber }
--
--   SubjectKeyIdentifier ::= OCTET STRING
--
-- A name is a SEQUENCE that is kept whole. A serial number is any INTEGER here, and a key identifier any octets: those
-- that no certificate has match none.
use Rattle.std.specs.Prelude.{ℕ, List, ◌++◌}
use Rattle.der_core.specs.Element.{enc, HasRoom, IsTagged}
use Rattle.der_core.specs.Integer.{IsInteger}
use Rattle.cert_fields.specs.declared.sid.Sid.{Sid}
use Rattle.cert_fields.specs.declared.sid.Sid.TheVariants as sids

-- the name of an issuer, a whole element, and the contents of a serial number; or a key identifier
pub data SignerIdentifier : Type 0 where
  IssuerAndSerialNumber : (issuer serial : List ℕ) → SignerIdentifier
  SubjectKeyIdentifier : (identifier : List ℕ) → SignerIdentifier

abbrev pub serial_contents : List ℕ × List ℕ → List ℕ
serial_contents x = x.0 ++ enc 0x02 x.1

abbrev pub sid_text : SignerIdentifier → List ℕ
sid_text (IssuerAndSerialNumber issuer serial) = enc 0x30 (serial_contents (issuer, serial))
sid_text (SubjectKeyIdentifier identifier) = enc 0x80 identifier

-- an identifier that has a text
abbrev pub IsSid : SignerIdentifier → Type 0
IsSid (IssuerAndSerialNumber issuer serial) =
    IsTagged 0x30 issuer × (IsInteger serial × HasRoom (serial_contents (issuer, serial)))
IsSid (SubjectKeyIdentifier identifier) = HasRoom identifier

-- an identifier of the code as its value
abbrev pub sid_view : Sid → SignerIdentifier
sid_view (sids.Serial issuer serial) = IssuerAndSerialNumber issuer.now serial.now
sid_view (sids.KeyId identifier) = SubjectKeyIdentifier identifier.now
