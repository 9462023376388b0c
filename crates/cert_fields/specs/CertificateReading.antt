-- The reading of a certificate, by the shapes of its text.
use Rattle.std.specs.Prelude.{◌≡◌, ◌++◌, Some, ℕ, Bool, true, List, length, nat_le, ◌==◌, Option}
use Rattle.std.specs.Option.{option_map_or}
use Rattle.der_core.specs.Element.{AreOctets}
use Rattle.der_core.specs.LeafReading.{integer_of, bits_of}
use Rattle.der_core.specs.Reading.{number_of}
use Rattle.der_core.specs.Shapes.{Front, Whole, element, alone, before, optional, mapped, tested, anything, any_element}
use Rattle.der_core.specs.Shapes.{whole_element, maybe_before, defaulted}
use Rattle.der_core.specs.TimeReading.{time_at}
use Rattle.der_core.specs.declared.time_value.Time.{Time}
use Rattle.cert_fields.specs.Certificate.{BitString, SignedPart, Certificate, is_v1}

-- an algorithm or a name
abbrev pub sequence_at : Front (List ℕ)
sequence_at = whole_element 0x30

unfoldable pub version_at : Front ℕ
version_at = element 0xA0 (tested (λ version. nat_le version 2) (alone (element 0x02 number_of)))

unfoldable pub serial_at : Front (List ℕ)
serial_at = element 0x02 (tested (λ serial. nat_le (length serial) 20) integer_of)

unfoldable pub validity_at : Front (Time × Time)
validity_at = element 0x30 (before time_at (alone time_at))

unfoldable pub bits_at : Front BitString
bits_at = element 0x03 bits_of

unfoldable pub key_at : Front (List ℕ × BitString)
key_at = element 0x30 (before sequence_at (alone bits_at))

-- the unique identifiers and the extensions, each where it is there
abbrev pub OptionalParts : Type 0
OptionalParts = Option (List ℕ) × (Option (List ℕ) × Option (List ℕ))

unfoldable pub extensions_of : Whole (List ℕ)
extensions_of = alone (element 0xA3 (alone any_element))

unfoldable pub maybe_extensions_of : Whole (Option (List ℕ))
maybe_extensions_of = optional extensions_of

unfoldable pub subject_parts_of : Whole (Option (List ℕ) × Option (List ℕ))
subject_parts_of = maybe_before 0x82 (element 0x82 anything) maybe_extensions_of

unfoldable pub optional_parts_of : Whole OptionalParts
optional_parts_of = maybe_before 0x81 (element 0x81 anything) subject_parts_of

-- all parts but the version: serial number, algorithm, issuer, validity, subject, key, and the optional parts
abbrev pub Unversioned : Type 0
Unversioned = List ℕ × (List ℕ × (List ℕ × ((Time × Time) × (List ℕ × ((List ℕ × BitString) × OptionalParts)))))

unfoldable pub unversioned_of : Whole Unversioned
unversioned_of =
    before serial_at
    (before sequence_at (before sequence_at (before validity_at (before sequence_at (before key_at optional_parts_of)))))

-- the version, where it isn't the DEFAULT, and the other parts
unfoldable pub versioned_of : Whole (ℕ × Unversioned)
versioned_of = defaulted 0xA0 is_v1 0 version_at unversioned_of

-- the parts by their names
abbrev pub signed_part : ℕ × Unversioned → SignedPart
signed_part x =
    let b = x.1.1 in
    let o = b.1.1.1.1.1 in
    record {
      version = x.0;
      serial = x.1.0;
      algorithm = b.0;
      issuer = b.1.0;
      subject = b.1.1.1.0;
      from = b.1.1.0.0;
      to = b.1.1.0.1;
      key_algorithm = b.1.1.1.1.0.0;
      key = b.1.1.1.1.0.1;
      issuer_unique = o.0;
      subject_unique = o.1.0;
      extensions = o.1.1;
    }

-- extensions stand in v3 alone
abbrev pub has_third : SignedPart → Bool
has_third s = option_map_or (λ _. s.version == 2) s.extensions true

unfoldable pub signed_part_of : Whole SignedPart
signed_part_of =
    tested has_third
    (mapped signed_part versioned_of)

unfoldable pub signed_at : Front SignedPart
signed_at = element 0x30 signed_part_of

abbrev pub certificate_value : SignedPart × (List ℕ × BitString) → Certificate
certificate_value x = record { signed = x.0; algorithm = x.1.0; signature = x.1.1 }

unfoldable pub certificate_fields_of : Whole Certificate
certificate_fields_of = mapped certificate_value (before signed_at (before sequence_at (alone bits_at)))

unfoldable pub certificate_of : Whole Certificate
certificate_of = alone (element 0x30 certificate_fields_of)

-- octets begin with these, as which a signed part was read
pub record HoldsSigned (tbs : List ℕ) (signed : SignedPart) (octets : List ℕ) : Type 0 where
  pub are : AreOctets octets
  pub rest : List ℕ
  pub text : tbs ++ rest ≡ octets
  pub reads : signed_at octets ≡ Some (signed, rest)
