-- Shapes: readings of DER texts (X.690, section 8.1) put together from parts, as ASN.1 puts types together
-- (X.680). Their laws are in proofs/Shapes: what is put together from parts that read exactly reads exactly.
use Rattle.std.specs.Prelude.{◌≡◌, ℕ, zero, suc, Bool, true, false, List, [], ◌∷◌, ◌++◌, length, Option}
use Rattle.std.specs.Prelude.{Some, None, ◌==◌, not, if◌then◌else◌}
use Rattle.std.specs.Option.{option_map_or}
use Rattle.der_core.specs.Element.{enc, AreOctets, IsElement}
use Rattle.der_core.specs.Reading.{◌>>?◌, front_of, tagged_of}

-- ---- two kinds of readings

-- reads a value at the front of octets, and gives what follows
abbrev pub Front : Type 0 → Type 0
Front V = List ℕ → Option (V × List ℕ)

-- reads a value that is all of the octets
abbrev pub Whole : Type 0 → Type 0
Whole V = List ℕ → Option V

-- ---- shapes

-- an element of this tag, with a value as its contents
abbrev pub element : {V : Type 0} → ℕ → Whole V → Front V
element tag whole bytes = tagged_of tag bytes >>? λ x. whole x.0 >>? λ v. Some (v, x.1)

-- a value, and nothing after it
abbrev pub alone : {V : Type 0} → Front V → Whole V
alone front bytes = front bytes >>? λ x. if length x.1 == 0 then Some x.0 else None

-- a value, and then all of the rest
abbrev pub before : {V W : Type 0} → Front V → Whole W → Whole (V × W)
before front whole bytes = front bytes >>? λ x. whole x.1 >>? λ w. Some (x.0, w)

-- a value, where any octets are left (OPTIONAL at the end)
abbrev pub optional : {V : Type 0} → Whole V → Whole (Option V)
optional whole bytes = if length bytes == 0 then Some None else (whole bytes >>? λ v. Some (Some v))

-- the first octet is this one
abbrev pub begins_with : ℕ → List ℕ → Bool
begins_with tag [] = false
begins_with tag (b ∷ bs) = b == tag

-- one shape where this tag stands at the front, else the other (CHOICE)
abbrev pub choice : {V : Type 0} → ℕ → Front V → Front V → Front V
choice tag this other bytes = if begins_with tag bytes then this bytes else other bytes

-- the same values in another form
abbrev pub mapped : {V W : Type 0} → (V → W) → Whole V → Whole W
mapped f whole bytes = whole bytes >>? λ v. Some (f v)

-- those values that pass a test
abbrev pub tested : {V : Type 0} → (V → Bool) → Whole V → Whole V
tested p whole bytes = whole bytes >>? λ v. if p v then Some v else None

-- values one after the other, at most so many
abbrev pub listed_within : {V : Type 0} → ℕ → Front V → Whole (List V)
listed_within zero front bytes = if length bytes == 0 then Some [] else None
listed_within (suc turns) front bytes =
    if length bytes == 0 then Some []
    else (front bytes >>? λ x. listed_within turns front x.1 >>? λ vs. Some (x.0 ∷ vs))

-- values one after the other, to the end (SEQUENCE OF)
unfoldable pub listed : {V : Type 0} → Front V → Whole (List V)
listed front bytes = listed_within (length bytes) front bytes

-- any octets at all
abbrev pub anything : Whole (List ℕ)
anything bytes = Some bytes

-- any one element, kept as its octets
abbrev pub any_element : Front (List ℕ)
any_element bytes = front_of bytes >>? λ x. Some (enc x.0 x.1.0, x.1.1)

-- one element of this tag, kept as its octets
abbrev pub whole_element : ℕ → Front (List ℕ)
whole_element tag bytes = tagged_of tag bytes >>? λ x. Some (enc tag x.0, x.1)

-- octets that read as a value, kept as octets
abbrev pub kept : {V : Type 0} → Whole V → Whole (List ℕ)
kept whole bytes = whole bytes >>? λ _. Some bytes

-- an element of this tag where it stands there, and then all of the rest (OPTIONAL before others)
abbrev pub maybe_before : {V W : Type 0} → ℕ → Front V → Whole W → Whole (Option V × W)
maybe_before tag front whole bytes =
    if begins_with tag bytes then (front bytes >>? λ x. whole x.1 >>? λ w. Some (Some x.0, w))
    else (whole bytes >>? λ w. Some (None, w))

-- a component with a DEFAULT, and then all of the rest: it stands there exactly where its value isn't the default
-- (X.690, section 11.5)
abbrev pub defaulted : {V W : Type 0} → ℕ → (V → Bool) → V → Front V → Whole W → Whole (V × W)
defaulted tag is_default default front whole =
    mapped (λ x. (option_map_or (λ v. v) x.0 default, x.1))
    (tested (λ x. option_map_or (λ v. not (is_default v)) x.0 true) (maybe_before tag front whole))

-- ---- texts

-- octets that are one element
abbrev pub IsOneElement : List ℕ → Type 0
IsOneElement octets = (tag : ℕ) × (contents : List ℕ) × IsElement tag contents × (octets ≡ enc tag contents)

-- an optional part's text: none where it is absent
abbrev pub text_if : {V : Type 0} → (V → List ℕ) → Option V → List ℕ
text_if text None = []
text_if text (Some v) = text v

-- the text of a component with a DEFAULT: none where its value is the default (X.690, section 11.5)
abbrev pub text_unless : {V : Type 0} → (V → Bool) → (V → List ℕ) → V → List ℕ
text_unless is_default text v = if is_default v then [] else text v

-- ---- exact readings

-- reads exactly the texts of the valid values at the front of octets, whatever follows
pub record IsFront {V : Type 0} (text : V → List ℕ) (IsValid : V → Type 0) (read : Front V) : Type 0 where
  pub takes : (bytes : List ℕ) (x : V × List ℕ) → AreOctets bytes → read bytes ≡ Some x
      → IsValid x.0 × (bytes ≡ text x.0 ++ x.1)
  pub again : (v : V) (rest : List ℕ) → IsValid v → read (text v ++ rest) ≡ Some (v, rest)

-- reads exactly the texts of the valid values
pub record IsWhole {V : Type 0} (text : V → List ℕ) (IsValid : V → Type 0) (read : Whole V) : Type 0 where
  pub takes : (bytes : List ℕ) (v : V) → AreOctets bytes → read bytes ≡ Some v
      → IsValid v × (bytes ≡ text v)
  pub again : (v : V) → IsValid v → read (text v) ≡ Some v
