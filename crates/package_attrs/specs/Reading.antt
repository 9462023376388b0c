-- The reading of names and identifiers (RFC 4108, section 2.2.3), by the shapes of their texts.
use Rattle.std.specs.Prelude.{ℕ, List}
use Rattle.der_core.specs.Reading.{number_of, oid_of, octets_of}
use Rattle.der_core.specs.Shapes.{Front, Whole, element, alone, before, optional, choice, mapped, tested, anything}
use Rattle.package_attrs.specs.declared.name.PackageName.{PackageName}
use Rattle.package_attrs.specs.declared.name.PackageName.TheVariants as names
use Rattle.package_attrs.specs.declared.name.Stale.{Stale}
use Rattle.package_attrs.specs.declared.name.Stale.TheVariants as stales
use Rattle.package_attrs.specs.Identifier.{Named}
use Rattle.package_attrs.specs.Kinds.{kinds_match}

-- a preferred name's identifier and version
unfoldable pub pair_of : Whole (List ℕ × ℕ)
pair_of = before (element 0x06 oid_of) (alone (element 0x02 number_of))

-- an identifier at the front
unfoldable pub oid_at : Front (List ℕ)
oid_at = element 0x06 oid_of

-- an OCTET STRING of 1 to 64 octets at the front
unfoldable pub octets_at : Front (List ℕ)
octets_at = element 0x04 octets_of

-- the contents of one OCTET STRING, of any length
unfoldable pub octet_string_of : Whole (List ℕ)
octet_string_of = alone (element 0x04 anything)

-- a name at the front: preferred where a SEQUENCE stands there, else legacy
unfoldable pub name_at : Front PackageName
name_at =
    choice 0x30 (element 0x30 (mapped (λ x. names.Preferred x.0 x.1) pair_of))
    (element 0x04 (mapped (λ octets. names.Legacy octets) octets_of))

-- a stale value at the front: a number where an INTEGER stands there, else octets
unfoldable pub stale_at : Front Stale
stale_at =
    choice 0x02 (element 0x02 (mapped (λ n. stales.Upto n) number_of))
    (element 0x04 (mapped (λ octets. stales.Legacy octets) octets_of))

-- a name and a stale value of its kind, or none
unfoldable pub fields_of : Whole Named
fields_of =
    tested (λ i. kinds_match i.name i.stale)
    (mapped (λ x. record { name = x.0; stale = x.1 }) (before name_at (optional (alone stale_at))))

-- an identifier
unfoldable pub identifier_of : Whole Named
identifier_of = alone (element 0x30 fields_of)
