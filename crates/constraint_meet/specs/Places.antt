-- Elements that are found by their places in octets. A place is the number of octets from it to the end.
use Rattle.std.specs.Prelude.{◌≡◌, ℕ, ◌+◌, ◌-◌, ◌<◌, ◌≤◌, List, [], length, drop, Contains}
use Rattle.std.specs.List.Sorted.{IsSortedBy}
use Rattle.std.specs.Option.{option_map_or}
use Rattle.std.specs.Cmp.Lexicographic.{slice_cmp}
use Rattle.std.specs.Ordering.{nat_cmp, is_lt, then_cmp, on}
use Rattle.std.specs.declared.cmp.Ordering.{Ordering}
use Rattle.der_core.specs.Element.{enc}
use Rattle.der_core.specs.Reading.{FirstElement, front_of}
use Rattle.constraint_meet.specs.declared.places.Part.{Part}
use Rattle.constraint_meet.specs.declared.places.Part.TheVariants.{Contents, Whole}

-- the octets from a place on
abbrev pub from_place : List ℕ → ℕ → List ℕ
from_place octets place = drop (length octets - place) octets

abbrev pub part_of : Part → FirstElement → List ℕ
part_of Contents x = x.1.0
part_of Whole x = enc x.0 x.1.0

-- this part of the element that stands at a place; none where none does
unfoldable pub part_at : Part → List ℕ → ℕ → List ℕ
part_at part octets place = option_map_or (part_of part) (front_of (from_place octets place)) []

-- what places are in the order of: first what stands there, then the place
abbrev pub Key : Type 0
Key = List ℕ × ℕ

abbrev pub key_cmp : Key → Key → Ordering
key_cmp = then_cmp (on (λ (x : Key). x.0) (slice_cmp nat_cmp)) (on (λ (x : Key). x.1) nat_cmp)

abbrev pub key_at : Part → List ℕ → ℕ → Key
key_at part octets place = (part_at part octets place, place)

abbrev pub AreInOrder : Part → List ℕ → List ℕ → Type 0
AreInOrder part octets places = IsSortedBy (λ x y. is_lt (key_cmp (key_at part octets x) (key_at part octets y))) places

-- one of the places is followed by more than so many octets, and by no more than so many beside them, and this stands there
pub record Holds (part : Part) (octets places : List ℕ) (after size : ℕ) (it : List ℕ) (place : ℕ) : Type 0 where
  pub one : Contains places place
  pub low : after < place
  pub high : place ≤ after + size
  pub is : part_at part octets place ≡ it
