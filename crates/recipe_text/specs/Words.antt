-- The words of a recipe's lines, by the values that they stand for; this project's own.
use Rattle.std.specs.Prelude.{◌≡◌, ◌↔◌, ℕ, ◌<◌, ◌≤◌, ◌^◌, List, [], ◌∷◌, ◌++◌, length, slice_index, EachIndex}
use Rattle.std.specs.Prelude.{Option, Some}
use Rattle.std.specs.Fmt.{decimal}
use Rattle.der_core.specs.Decimal.{moment_digits}
use Rattle.der_core.specs.Element.{enc}
use Rattle.der_core.specs.Integer.{IsInteger}
use Rattle.der_core.specs.Moment.{IsMoment}
use Rattle.der_core.specs.Objects.{IsOid, AreSmall, oid_contents, dotted}
use Rattle.cert_fields.specs.Constraints.{ContentConstraint, AreConstraints, constraints_text}
use Rattle.hss_chain.specs.Keys.{IsHssKey, hss_key_text}
use Rattle.hss_chain.specs.declared.key.HssKey.{HssKey}
use Rattle.packager.specs.PackagePlan.{IsCertificateText}
use Rattle.recipe_text.specs.Lines.{IsHex, spaced}

-- a reader answers a value exactly where it is the one that is said
abbrev pub Exactly : {V : Type 0} → (V → Type 0) → Option V → Type 0
Exactly {V} IsSaid result = (v : V) → (result ≡ Some v) ↔ IsSaid v

-- ---- numbers

-- N: a decimal number below 2^128, without a leading zero
abbrev pub IsNumber : List ℕ → ℕ → Type 0
IsNumber word n = (n < 2 ^ 128) × (word ≡ decimal n)

-- AT: a moment, in fourteen digits
abbrev pub IsAt : List ℕ → ℕ → Type 0
IsAt word at = IsMoment at × (word ≡ moment_digits at)

-- ---- identifiers

-- OID: an object identifier in dotted decimal, by its contents octets (X.690, section 8.19)
pub record IsOidWord (word id : List ℕ) : Type 0 where
  pub valid : IsOid id
  pub numbers : List ℕ
  pub small : AreSmall numbers
  pub contents : id ≡ oid_contents numbers
  pub spelled : word ≡ dotted numbers

-- ---- octets

-- HEX of 1 to 64 octets
pub record IsHex64 (word octets : List ℕ) : Type 0 where
  pub hex : IsHex word octets
  pub some : 0 < length octets
  pub most : length octets ≤ 64

-- HEX of the contents of an INTEGER, of at most 20 octets (RFC 5280, section 4.1.2.2)
pub record IsSerialWord (word octets : List ℕ) : Type 0 where
  pub hex : IsHex word octets
  pub integer : IsInteger octets
  pub most : length octets ≤ 20

-- HEX of the 60 octets of an HSS key (RFC 8554, section 6.1)
pub record IsKeyWord (word : List ℕ) (key : HssKey) : Type 0 where
  pub valid : IsHssKey key
  pub hex : IsHex word (hss_key_text key)

-- the octets are a text of content constraints, all of them (RFC 6010, section 3)
abbrev pub AreConstraintsText : List ℕ → Type 0
AreConstraintsText octets =
    (entries : List ContentConstraint) × AreConstraints entries × (octets ≡ constraints_text entries)

-- HEX of one text of content constraints
pub record IsConstraintsWord (word octets : List ℕ) : Type 0 where
  pub hex : IsHex word octets
  pub text : AreConstraintsText octets

-- HEX of a certificate (RFC 5280, section 4.1)
pub record IsCertificateWord (word octets : List ℕ) : Type 0 where
  pub hex : IsHex word octets
  pub text : IsCertificateText octets

-- ---- two words

-- a word of one kind, a space, and what is of another kind
abbrev pub IsPair : {V W : Type 0} → (List ℕ → V → Type 0) → (List ℕ → W → Type 0) → List ℕ → V × W → Type 0
IsPair IsFirst IsSecond text x =
    (first : List ℕ) × (second : List ℕ) × IsFirst first x.0 × IsSecond second x.1
    × (text ≡ spaced (first ∷ second ∷ []))

-- ---- names

-- 2.5.4.3, id-at-commonName (RFC 5280, appendix A.1)
abbrev pub common_name : List ℕ
common_name = 0x55 ∷ 0x04 ∷ 0x03 ∷ []

-- the Name with one commonName, a UTF8String (RFC 5280, section 4.1.2.4)
abbrev pub name_of : List ℕ → List ℕ
name_of characters = enc 0x30 (enc 0x31 (enc 0x30 (enc 0x06 common_name ++ enc 0x0C characters)))

-- NAME: 1 to 64 characters from 21 to 7E, which stand for that Name
pub record IsNameWord (word name : List ℕ) : Type 0 where
  pub some : 0 < length word
  pub most : length word ≤ 64
  pub each : EachIndex word (λ k. (0x21 ≤ slice_index word k) × (slice_index word k ≤ 0x7E))
  pub stands : name ≡ name_of word
