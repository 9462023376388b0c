-- What signed attributes say of a package (RFC 4108, section 2.2; RFC 5652, section 11).
use Rattle.std.specs.Prelude.{◌≡◌, ℕ, List, map, length, Option, Some, None, ◌⊎◌, bytes_eq}
use Rattle.std.specs.List.{Contains, IsDistinct}
use Rattle.der_core.specs.Attribute.{Attribute}
use Rattle.der_core.specs.Element.{enc}
use Rattle.der_core.specs.Objects.{IsOid}
use Rattle.der_core.specs.Time.{time_text, IsTime}
use Rattle.der_core.specs.declared.time_value.Time.{Time}
use Rattle.package_attrs.specs.declared.community.Community.{Community}
use Rattle.package_attrs.specs.declared.package.Info.{Info}
use Rattle.package_attrs.specs.AttributeTypes.{content_type, message_digest, signing_time, firmware_package_id}
use Rattle.package_attrs.specs.AttributeTypes.{target_hardware_ids, community_identifiers, firmware_package_info}
use Rattle.package_attrs.specs.Communities.{communities_text, AreCommunities}
use Rattle.package_attrs.specs.Description.{Description}
use Rattle.package_attrs.specs.Identifier.{Named, identifier_text, IsIdentifier}
use Rattle.package_attrs.specs.Information.{info_text, IsInfo, no_info}
use Rattle.package_attrs.specs.Targets.{targets_text, AreTargets}

-- ---- attributes of a type

-- No type stands twice. RFC 5652, sections 11.1 to 11.3, asks it of three types; of the others it is this project's own.
abbrev pub HaveOwnTypes : List Attribute → Type 0
HaveOwnTypes attrs = IsDistinct bytes_eq (map (λ a. a.kind) attrs)

-- an attribute of this type is there, and these are its values
abbrev pub Has : List ℕ → List Attribute → List ℕ → Type 0
Has kind attrs values = Contains attrs (record { kind = kind; values = values })

-- no attribute of this type is there
abbrev pub Lacks : List ℕ → List Attribute → Type 0
Lacks kind attrs = (values : List ℕ) → Has kind attrs values → ⊥

-- an attribute of this type is there, and its one value is the text of v, which is valid
abbrev pub HasOne : {V : Type 0} → (V → List ℕ) → (V → Type 0) → List ℕ → List Attribute → V → Type 0
HasOne text IsValid kind attrs v = IsValid v × Has kind attrs (text v)

-- the same where there is a v, and else no attribute of this type
abbrev pub HasAtMostOne : {V : Type 0} → (V → List ℕ) → (V → Type 0) → List ℕ → List Attribute → Option V → Type 0
HasAtMostOne text IsValid kind attrs None = Lacks kind attrs
HasAtMostOne text IsValid kind attrs (Some v) = HasOne text IsValid kind attrs v

-- ---- what they say

-- the type of the content (RFC 5652, section 11.1)
abbrev pub HasContentType : List Attribute → List ℕ → Type 0
HasContentType attrs id = HasOne (enc 0x06) IsOid content_type attrs id

-- the SHA-256 digest of the content, of 32 octets (RFC 5652, section 11.2)
abbrev pub HasDigest : List Attribute → List ℕ → Type 0
HasDigest attrs digest = HasOne (enc 0x04) (λ octets. length octets ≡ 32) message_digest attrs digest

-- the moment of signing, where it is there (RFC 5652, section 11.3)
abbrev pub HasTime : List Attribute → Option Time → Type 0
HasTime attrs time = HasAtMostOne time_text IsTime signing_time attrs time

-- the package's identifier (RFC 4108, section 2.2.3)
abbrev pub HasIdentifier : List Attribute → Named → Type 0
HasIdentifier attrs identifier = HasOne identifier_text IsIdentifier firmware_package_id attrs identifier

-- the hardware types that it is for (RFC 4108, section 2.2.4)
abbrev pub HasTargets : List Attribute → List (List ℕ) → Type 0
HasTargets attrs hw_types = HasOne targets_text AreTargets target_hardware_ids attrs hw_types

-- the communities that it is for, where they are there (RFC 4108, section 2.2.8)
abbrev pub HasCommunities : List Attribute → Option (List Community) → Type 0
HasCommunities attrs cs = HasAtMostOne communities_text AreCommunities community_identifiers attrs cs

-- the package's type and dependencies; neither where the attribute isn't there (RFC 4108, section 2.2.9)
abbrev pub HasInfo : List Attribute → Info → Type 0
HasInfo attrs info =
    HasOne info_text IsInfo firmware_package_info attrs info ⊎ (Lacks firmware_package_info attrs × (info ≡ no_info))

-- the attributes are those of a package that this describes. The content's type and digest, the identifier and the
-- hardware types are there; each of these and, where it is there, of the others has exactly one value, of its form.
-- Attributes of other types may be there, with any values.
pub record Describes (attrs : List Attribute) (d : Description) : Type 0 where
  pub content : HasContentType attrs d.content
  pub digest : HasDigest attrs d.digest
  pub time : (time : Option Time) × HasTime attrs time
  pub identifier : HasIdentifier attrs d.identifier
  pub targets : HasTargets attrs d.targets
  pub communities : HasCommunities attrs d.communities
  pub info : HasInfo attrs d.info
