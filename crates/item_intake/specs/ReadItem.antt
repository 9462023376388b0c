-- One item of an input, as it was read, or wasn't.
use Rattle.std.specs.Prelude.{◌≡◌, ◌⊎◌, ℕ, ◌+◌, ◌-◌, ◌/◌, ◌<◌, ◌≤◌, Bool, List, [], ◌++◌, length, min, Option}
use Rattle.std.specs.Io.KnownBytes.{Consumes, IsAtEnd}
use Rattle.edge_board.specs.Board.{View}
use Rattle.block_pool.specs.Pools.{free_numbers}
use Rattle.package_attrs.specs.Image.{blocks_for}
use Rattle.der_core.specs.Items.{IsSequence, HasSequence}
use Rattle.der_core.specs.Progress.{Declares}
use Rattle.cms_signed.specs.Cut.{HasCut}
use Rattle.judge_core.specs.Conditions.{most_contents}
use Rattle.item_intake.specs.declared.fault.LoadFault.{LoadFault}
use Rattle.item_intake.specs.declared.fault.LoadFault.TheVariants as faults
use Rattle.item_intake.specs.declared.item.Item.{Item}
use Rattle.item_intake.specs.declared.item.Item.TheVariants as items
use Rattle.item_intake.specs.Inflows.{RisesAtMost}
use Rattle.item_intake.specs.HeldItems.{IsHeldItem}

-- what the next item is, which has these octets, and what is left behind it
abbrev pub IsItemRead : Type 0 → List Bool → List Bool → View → Option (List ℕ) → List ℕ → Item → Type 0
IsItemRead told before now v left octets (items.Whole held) = IsHeldItem told before now v held octets
IsItemRead told before now v left octets items.TooLong =
    IsSequence octets × ((size : ℕ) × Declares octets size × (most_contents < size)) × (now ≡ before)
IsItemRead told before now v left octets items.Unfinished =
    (0 < length octets) × (HasSequence octets → ⊥) × IsAtEnd left × (now ≡ before)
IsItemRead told before now v left octets items.End = (octets ≡ []) × IsAtEnd left × (now ≡ before)

-- the source has ended with it, or before it
abbrev pub IsLast : Item → Type 0
IsLast (items.Whole held) = ⊥
IsLast items.TooLong = ⊥
IsLast items.Unfinished = Unit {0}
IsLast items.End = Unit {0}

-- The next octets are an item, and it was read.
pub record ReadsItem (told : Type 0) (before now : List Bool) (erased : ℕ) (v : View) (left left' : Option (List ℕ))
    (passed passed' : ℕ) (item : Item) : Type 0 where
  pub octets : List ℕ
  pub text : Consumes left left' octets
  pub passed_is : passed' ≡ passed + length octets
  pub is : IsItemRead told before now v left' octets item
  pub erased_is : RisesAtMost (blocks_for (length octets)) erased v.erased

-- how many octets of a content of so many have come in these octets of an item, behind a head that ends at this place
abbrev pub content_come : List ℕ → ℕ → ℕ → ℕ
content_come octets place size = min size (length octets - place)

-- As many blocks were erased at least as the content has filled that had come, but for its first six octets, where its
-- head was whole, it wasn't too long and enough blocks were free.
abbrev pub HasErased : Type 0 → List Bool → ℕ → View → List ℕ → Type 0
HasErased moments before erased v octets =
    moments → (place size : ℕ) → HasCut octets place size
    → ((contents : ℕ) → Declares octets contents → contents ≤ most_contents)
    → blocks_for size ≤ length (free_numbers before)
    → erased + (content_come octets place size - 6) / 4096 ≤ v.erased

-- The item wasn't read to its end: these octets of it were taken, which are no whole item, or just one.
pub record BreaksItem (moments : Type 0) (before : List Bool) (erased : ℕ) (v : View) (left left' : Option (List ℕ))
    (passed passed' : ℕ) (fault : LoadFault) : Type 0 where
  pub octets : List ℕ
  -- the octet beyond the limit
  pub beyond : List ℕ
  pub text : Consumes left left' (octets ++ beyond)
  pub passed_is : passed' ≡ passed + length octets
  pub excess : (fault ≡ faults.TooLong × (length beyond ≡ 1)) ⊎ (¬ (fault ≡ faults.TooLong) × (beyond ≡ []))
  pub last : HasSequence octets → IsSequence octets
  pub goes_on : (fault ≡ faults.TooLong) ⊎ (fault ≡ faults.Source) → HasSequence octets → ⊥
  pub most : RisesAtMost (blocks_for (length octets)) erased v.erased
  pub least : fault ≡ faults.Source → HasErased moments before erased v octets
