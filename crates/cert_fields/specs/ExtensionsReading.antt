-- The reading of extensions, by the shapes of their texts.
use Rattle.std.specs.Prelude.{ℕ, Bool, false, List, Option}
use Rattle.der_core.specs.LeafReading.{boolean_of}
use Rattle.der_core.specs.Reading.{number_of, octets_of}
use Rattle.der_core.specs.Shapes.{Front, Whole, element, alone, before, optional, mapped, listed, anything}
use Rattle.der_core.specs.Shapes.{maybe_before, defaulted}
use Rattle.cert_fields.specs.Certificate.{BitString}
use Rattle.cert_fields.specs.CertificateReading.{bits_at}
use Rattle.cert_fields.specs.ConstraintsReading.{type_at}
use Rattle.cert_fields.specs.Extensions.{Extension, is_false, AuthorityKey}
use Rattle.cert_fields.specs.ExtensionTypes.{subject_key_identifier, basic_constraints}
use Rattle.cert_fields.specs.Extensions.{Says, SaysAuthority, SaysUsage, key_identifier_text, IsKeyIdentifier}
use Rattle.cert_fields.specs.Extensions.{ca_rule_text, IsCaRule}
use Rattle.cert_fields.specs.declared.extensions.CaRule.{CaRule}
use Rattle.cert_fields.specs.declared.extensions.Extensions.{Extensions}

-- ---- a list of extensions

unfoldable pub boolean_at : Front Bool
boolean_at = element 0x01 boolean_of

unfoldable pub value_of_extension : Whole (List ℕ)
value_of_extension = alone (element 0x04 anything)

abbrev pub extension_value : List ℕ × (Bool × List ℕ) → Extension
extension_value x = record { kind = x.0; critical = x.1.0; value = x.1.1 }

unfoldable pub extension_of : Whole Extension
extension_of = mapped extension_value (before type_at (defaulted 0x01 is_false false boolean_at value_of_extension))

unfoldable pub extension_at : Front Extension
extension_at = element 0x30 extension_of

unfoldable pub extension_list_of : Whole (List Extension)
extension_list_of = alone (element 0x30 (listed extension_at))

-- ---- the values of those that are read

unfoldable pub key_identifier_of : Whole (List ℕ)
key_identifier_of = alone (element 0x04 octets_of)

unfoldable pub authority_serial_of : Whole (Option (List ℕ))
authority_serial_of = optional (alone (element 0x82 anything))

unfoldable pub authority_issuer_of : Whole (Option (List ℕ) × Option (List ℕ))
authority_issuer_of = maybe_before 0xA1 (element 0xA1 anything) authority_serial_of

unfoldable pub authority_parts_of : Whole (Option (List ℕ) × (Option (List ℕ) × Option (List ℕ)))
authority_parts_of = maybe_before 0x80 (element 0x80 octets_of) authority_issuer_of

abbrev pub authority_value : Option (List ℕ) × (Option (List ℕ) × Option (List ℕ)) → AuthorityKey
authority_value x = record { key = x.0; issuer = x.1.0; serial = x.1.1 }

unfoldable pub authority_key_of : Whole AuthorityKey
authority_key_of = alone (element 0x30 (mapped authority_value authority_parts_of))

unfoldable pub usage_bits_of : Whole BitString
usage_bits_of = alone bits_at

unfoldable pub path_length_of : Whole (Option ℕ)
path_length_of = optional (alone (element 0x02 number_of))

abbrev pub ca_rule_value : Bool × Option ℕ → CaRule
ca_rule_value x = record { ca = x.0; path_len = x.1 }

unfoldable pub ca_rule_fields_of : Whole CaRule
ca_rule_fields_of = mapped ca_rule_value (defaulted 0x01 is_false false boolean_at path_length_of)

unfoldable pub ca_rule_of : Whole CaRule
ca_rule_of = alone (element 0x30 ca_rule_fields_of)

-- what the extensions say but for the constraints
pub record SaysBut (all : List Extension) (e : Extensions) : Type 0 where
  pub subject_key : Says key_identifier_text IsKeyIdentifier subject_key_identifier all e.subject_key
  pub authority_key : SaysAuthority all e.authority_key
  pub ca : Says ca_rule_text IsCaRule basic_constraints all e.ca
  pub usage : SaysUsage all e.usage
