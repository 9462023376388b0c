-- The place of the element at the front of octets, and why there is none (X.690, section 8.1).
use Rattle.std.specs.Prelude.{◌≡◌, ℕ, ◌≤◌, List, length, take, slice_range}
use Rattle.der_core.specs.declared.fault.DerFault.{DerFault}
use Rattle.der_core.specs.declared.fault.DerFault.TheVariants.{Short, Malformed}
use Rattle.der_core.specs.declared.tlv.Tlv.{Tlv}
use Rattle.der_core.specs.Element.{enc, IsElement, HasElement, BeginsElement}

-- the octets up to end are an element with this tag, and its contents stand from head to end
pub record IsFirst (bytes : List ℕ) (t : Tlv) : Type 0 where
  pub ordered : t.head ≤ t.end
  pub within : t.end ≤ length bytes
  pub element : IsElement t.tag (slice_range bytes t.head t.end)
  pub text : take t.end bytes ≡ enc t.tag (slice_range bytes t.head t.end)

-- no front of the octets is an element; Short says that they are the front of one, and Malformed that they are not
abbrev pub IsFault : DerFault → List ℕ → Type 0
IsFault Short bytes = (HasElement bytes → ⊥) × BeginsElement bytes
IsFault Malformed bytes = (HasElement bytes → ⊥) × (BeginsElement bytes → ⊥)
