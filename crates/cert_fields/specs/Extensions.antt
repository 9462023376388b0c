-- What the extensions of a certificate say: their values and their texts (RFC 5280, section 4.2; RFC 6010, section 3), in
-- this project's profile.
--
--   Extensions ::= SEQUENCE SIZE (1..MAX) OF Extension
--
--   Extension ::= SEQUENCE {
--     extnID OBJECT IDENTIFIER,
--     critical BOOLEAN DEFAULT FALSE,
--     extnValue OCTET STRING }
--       -- contains the DER encoding of an ASN.1 value corresponding to the extension type identified by extnID
--
--   SubjectKeyIdentifier ::= KeyIdentifier                                       (4.2.1.2)
--   KeyIdentifier ::= OCTET STRING
--
--   AuthorityKeyIdentifier ::= SEQUENCE {                                        (4.2.1.1)
--     keyIdentifier [0] KeyIdentifier OPTIONAL,
--     authorityCertIssuer [1] GeneralNames OPTIONAL,
--     authorityCertSerialNumber [2] CertificateSerialNumber OPTIONAL }
--
--   KeyUsage ::= BIT STRING {                                                    (4.2.1.3)
--     digitalSignature (0), nonRepudiation (1), keyEncipherment (2), dataEncipherment (3), keyAgreement (4),
--     keyCertSign (5), cRLSign (6), encipherOnly (7), decipherOnly (8) }
--
--   BasicConstraints ::= SEQUENCE {                                              (4.2.1.9)
--     cA BOOLEAN DEFAULT FALSE,
--     pathLenConstraint INTEGER (0..MAX) OPTIONAL }
--
-- The content constraints are those of Constraints. Own: there may be no extension at all in the list; a key identifier
-- has 1 to 64 octets; of an authority's key identifier the issuer and the serial number aren't looked at; bits of a key
-- usage from 9 on are ignored, and zero bits may stand at its end; a pathLenConstraint is below 2 ^ 128, and may stand
-- without cA. No type stands twice (4.2). A critical extension must be known (4.2).
use Rattle.std.specs.Prelude.{◌≡◌, ℕ, ◌+◌, ◌-◌, ◌*◌, ◌/◌, ◌%◌, ◌^◌, ◌<◌, ◌≤◌, Bool, List, [], ◌++◌, length, map}
use Rattle.std.specs.Prelude.{Option, None, Some, IfSome, IsTrue, not, bytes_eq, get_or, option_map}
use Rattle.std.specs.List.{AllByRecursion, IsDistinct, flat_map, find}
use Rattle.std.specs.Option.{option_and_then}
use Rattle.der_core.specs.BitString.{bits_contents, IsBits}
use Rattle.der_core.specs.Boolean.{boolean_contents}
use Rattle.der_core.specs.Element.{enc, HasRoom}
use Rattle.der_core.specs.Number.{number_contents}
use Rattle.der_core.specs.Objects.{IsOid}
use Rattle.der_core.specs.Shapes.{text_if, text_unless}
use Rattle.cert_fields.specs.Certificate.{BitString, bits_text, Certificate}
use Rattle.cert_fields.specs.Constraints.{constraints_text, AreConstraints}
use Rattle.cert_fields.specs.ExtensionTypes.{subject_key_identifier, key_usage, basic_constraints}
use Rattle.cert_fields.specs.ExtensionTypes.{authority_key_identifier, content_constraints, is_known}
use Rattle.cert_fields.specs.declared.extensions.CaRule.{CaRule}
use Rattle.cert_fields.specs.declared.extensions.Extensions.{Extensions}

-- ---- a list of extensions

-- An extension.
pub record Extension : Type 0 where
  -- the contents of the OBJECT IDENTIFIER of its type
  pub kind : List ℕ
  pub critical : Bool
  -- the contents of the OCTET STRING
  pub value : List ℕ

-- FALSE, the DEFAULT of critical and of cA
abbrev pub is_false : Bool → Bool
is_false b = not b

abbrev pub boolean_text : Bool → List ℕ
boolean_text b = enc 0x01 (boolean_contents b)

-- the contents of Extension
abbrev pub extension_contents : Extension → List ℕ
extension_contents e = enc 0x06 e.kind ++ (text_unless is_false boolean_text e.critical ++ enc 0x04 e.value)

abbrev pub extension_text : Extension → List ℕ
extension_text e = enc 0x30 (extension_contents e)

abbrev pub extensions_text : List Extension → List ℕ
extensions_text all = enc 0x30 (flat_map extension_text all)

pub record IsExtension (e : Extension) : Type 0 where
  pub kind : IsOid e.kind
  pub fits : HasRoom (extension_contents e)

-- extensions that have a text
pub record AreExtensions (all : List Extension) : Type 0 where
  pub each : AllByRecursion IsExtension all
  pub fits : HasRoom (flat_map extension_text all)

-- what stands in [3] of a certificate is the text of these; a certificate without it has none
abbrev pub StandsFor : Option (List ℕ) → List Extension → Type 0
StandsFor None all = all ≡ []
StandsFor (Some octets) all = AreExtensions all × (octets ≡ extensions_text all)

-- ---- the values of those that are read

-- KeyIdentifier, in this project's limits
pub record IsKeyIdentifier (octets : List ℕ) : Type 0 where
  pub some : 0 < length octets
  pub most : length octets ≤ 64

abbrev pub key_identifier_text : List ℕ → List ℕ
key_identifier_text octets = enc 0x04 octets

-- AuthorityKeyIdentifier: the contents of each component
pub record AuthorityKey : Type 0 where
  pub key : Option (List ℕ)
  pub issuer : Option (List ℕ)
  pub serial : Option (List ℕ)

abbrev pub authority_key_contents : AuthorityKey → List ℕ
authority_key_contents a = text_if (enc 0x80) a.key ++ (text_if (enc 0xA1) a.issuer ++ text_if (enc 0x82) a.serial)

abbrev pub authority_key_text : AuthorityKey → List ℕ
authority_key_text a = enc 0x30 (authority_key_contents a)

pub record IsAuthorityKey (a : AuthorityKey) : Type 0 where
  pub key : IfSome a.key IsKeyIdentifier
  pub fits : HasRoom (authority_key_contents a)

-- KeyUsage: any bits
pub record IsUsage (usage : BitString) : Type 0 where
  pub bits : IsBits usage
  pub fits : HasRoom (bits_contents usage)

-- bit n of a BIT STRING: the first is the most significant bit of the first octet (X.690, section 8.6.2.1). Bits that
-- aren't there are zero.
abbrev pub named_bit : List ℕ → ℕ → ℕ
named_bit octets n = get_or octets (n / 8) 0 / 2 ^ (7 - n % 8) % 2

-- a key usage as a number, in which bit n is bit n of the BIT STRING, for n below 9
abbrev pub usage_number : List ℕ → ℕ
usage_number octets =
    named_bit octets 0 + 2 * named_bit octets 1 + 4 * named_bit octets 2 + 8 * named_bit octets 3
    + 16 * named_bit octets 4 + 32 * named_bit octets 5 + 64 * named_bit octets 6 + 128 * named_bit octets 7
    + 256 * named_bit octets 8

-- BasicConstraints
abbrev pub path_length_text : ℕ → List ℕ
path_length_text n = enc 0x02 (number_contents n)

abbrev pub ca_rule_text : CaRule → List ℕ
ca_rule_text r = enc 0x30 (text_unless is_false boolean_text r.ca ++ text_if path_length_text r.path_len)

abbrev pub IsCaRule : CaRule → Type 0
IsCaRule r = IfSome r.path_len (λ n. n < 2 ^ 128)

-- ---- what a list of extensions says

-- the value of the extension of this type, where there is one
abbrev pub value_of : List ℕ → List Extension → Option (List ℕ)
value_of kind all = option_map (λ e. e.value) (find (λ e. bytes_eq e.kind kind) all)

-- the extension of this type has the text of a value that is valid; where there is no value, there is no such extension
abbrev pub Says : {V : Type 0} → (V → List ℕ) → (V → Type 0) → List ℕ → List Extension → Option V → Type 0
Says text IsValid kind all value = IfSome value IsValid × (value_of kind all ≡ option_map text value)

-- the same of authorityKeyIdentifier, which gives its keyIdentifier; without one it gives none
abbrev pub SaysAuthority : List Extension → Option (List ℕ) → Type 0
SaysAuthority all key =
    (named : Option AuthorityKey) × Says authority_key_text IsAuthorityKey authority_key_identifier all named
    × (key ≡ option_and_then (λ a. a.key) named)

-- the same of keyUsage, which gives its number
abbrev pub SaysUsage : List Extension → Option ℕ → Type 0
SaysUsage all usage =
    (bits : Option BitString) × Says bits_text IsUsage key_usage all bits
    × (usage ≡ option_map (λ b. usage_number b.1) bits)

-- an extension that is critical is known
abbrev pub IsUnderstood : Extension → Type 0
IsUnderstood e = IsTrue e.critical → IsTrue (is_known e.kind)

-- the extensions read as these values
pub record ReadAs (all : List Extension) (e : Extensions) : Type 0 where
  -- no type stands twice
  pub distinct : IsDistinct bytes_eq (map (λ one. one.kind) all)
  pub understood : AllByRecursion IsUnderstood all
  pub subject_key : Says key_identifier_text IsKeyIdentifier subject_key_identifier all e.subject_key
  pub authority_key : SaysAuthority all e.authority_key
  pub ca : Says ca_rule_text IsCaRule basic_constraints all e.ca
  pub usage : SaysUsage all e.usage
  pub constraints : Says constraints_text AreConstraints content_constraints all e.constraints

-- what stands in [3] reads as these values
abbrev pub SaysIn : Option (List ℕ) → Extensions → Type 0
SaysIn part e = (all : List Extension) × StandsFor part all × ReadAs all e

-- The certificate's extensions read as these values. A certificate without extensions reads as none of them.
abbrev pub HasExtensions : Certificate → Extensions → Type 0
HasExtensions c e = SaysIn c.signed.extensions e
