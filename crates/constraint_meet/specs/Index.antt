-- How constraints are kept: in their place, and beside them the places in their texts at which the types of constrained
-- attributes and the listed values stand, in order. Nothing here has to be believed: what is permitted doesn't name it.
use Rattle.std.specs.Prelude.{◌≡◌, ℕ, ◌+◌, List, [], ◌∷◌, ◌++◌, length, IsPermutation, Contains, Option, Some}
use Rattle.std.specs.List.{concat, flat_map}
use Rattle.der_core.specs.Attribute.{Attribute, attribute_contents, attribute_text}
use Rattle.der_core.specs.Reading.{◌>>?◌, front_of, tagged_of}
use Rattle.cert_fields.specs.Constraints.{ContentConstraint, entry_text}
use Rattle.constraint_meet.specs.declared.places.Part.TheVariants.{Contents, Whole}
use Rattle.constraint_meet.specs.Permits.{values_in}
use Rattle.constraint_meet.specs.Places.{AreInOrder, Holds, from_place}

-- the places of elements that stand one after the other, where so many octets follow them
abbrev pub places_of : ℕ → List (List ℕ) → List ℕ
places_of after [] = []
places_of after (element ∷ more) = (length (concat (element ∷ more)) + after) ∷ places_of after more

-- the places of the values that are listed for constrained attributes
abbrev pub value_places : ℕ → List Attribute → List ℕ
value_places after [] = []
value_places after (a ∷ more) =
    places_of (length (flat_map attribute_text more) + after) (values_in a.values) ++ value_places after more

-- the places of their types
abbrev pub kind_places : ℕ → List Attribute → List ℕ
kind_places after [] = []
kind_places after (a ∷ more) =
    (length (attribute_contents a) + (length (flat_map attribute_text more) + after)) ∷ kind_places after more

-- the same of all entries, whose texts stand one after the other to the end
abbrev pub all_places : (ℕ → List Attribute → List ℕ) → List ContentConstraint → List ℕ
all_places places [] = []
all_places places (entry ∷ more) =
    places (length (flat_map entry_text more)) entry.attributes ++ all_places places more

pub record AreIndexed (entries : List ContentConstraint) (kinds values : List ℕ) : Type 0 where
  pub all_kinds : IsPermutation (all_places kind_places entries) kinds
  pub kinds_in_order : AreInOrder Contents (flat_map entry_text entries) kinds
  pub all_values : IsPermutation (all_places value_places entries) values
  pub values_in_order : AreInOrder Whole (flat_map entry_text entries) values

-- an entry among others, with so many octets of others behind it
pub record StandsAmong (entries : List ContentConstraint) (entry : ContentConstraint) (after : ℕ) : Type 0 where
  pub front : List ContentConstraint
  pub back : List ContentConstraint
  pub all : entries ≡ front ++ entry ∷ back
  pub behind : after ≡ length (flat_map entry_text back)

-- a constrained attribute of an entry, with so many octets behind it
pub record IsAmong (attributes : List Attribute) (after : ℕ) (constrained : Attribute) (behind : ℕ) : Type 0 where
  pub front : List Attribute
  pub back : List Attribute
  pub all : attributes ≡ front ++ constrained ∷ back
  pub left : behind ≡ length (flat_map attribute_text back) + after

-- the values that stand behind the type at a place, and how many octets follow them
unfoldable pub listed_at : List ℕ → ℕ → Option (List ℕ × ℕ)
listed_at octets place =
    front_of (from_place octets place) >>? λ x. tagged_of 0x31 x.1.1 >>? λ y. Some (y.0, length y.1)

-- values that are looked up: one is among them exactly where it stands at one of the places in their text
pub record AreLookedUp (octets places : List ℕ) (left : ℕ) (values : List ℕ) : Type 0 where
  pub ordered : AreInOrder Whole octets places
  pub found : (value : List ℕ) (place : ℕ) → Holds Whole octets places left (length values) value place
      → Contains (values_in values) value
  pub none : (value : List ℕ) → ((place : ℕ) → Holds Whole octets places left (length values) value place → ⊥)
      → Contains (values_in values) value → ⊥
