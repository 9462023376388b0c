-- Octets with a gap in them: a part of them is known by its number alone. What is read of them is what would be read
-- whatever stood in the gap. A bridge between the code and the texts: nothing here has to be believed.
use Rattle.std.specs.Prelude.{ℕ, ◌+◌, ◌-◌, List, [], ◌++◌, length, take, drop, nat_lt, ◌==◌, ◌&&◌, Bool}
use Rattle.std.specs.Prelude.{if◌then◌else◌}
use Rattle.std.specs.Prelude.{Option, Some, None, Result, Ok, Err}
use Rattle.der_core.specs.declared.fault.DerFault.{DerFault}
use Rattle.der_core.specs.Reading.{◌>>?◌}
use Rattle.der_core.specs.Shapes.{Whole}
use Rattle.der_core.specs.Head.{head_at}

-- the octets in front of the gap, its size, and those behind it
pub record Gapped : Type 0 where
  pub front : List ℕ
  pub gap : ℕ
  pub back : List ℕ

-- the octets with the gap filled by this content, which has as many octets
abbrev pub filled : Gapped → List ℕ → List ℕ
filled g content = g.front ++ (take g.gap content ++ g.back)

-- octets without a gap
abbrev pub solid : List ℕ → Gapped
solid octets = record { front = octets; gap = 0; back = [] }

-- ---- the shapes over gapped octets

-- what stands behind a head that was read: an element that ends before the gap, or one that reaches behind it; none
-- that ends within it is read
abbrev pub element_from : Gapped → Result (ℕ × (ℕ × List ℕ)) DerFault → Option (ℕ × (Gapped × Gapped))
element_from g (Err fault) = None
element_from g (Ok x) =
    if nat_lt x.1.0 (length x.1.1 + g.gap) then
    (if nat_lt (length x.1.1) x.1.0 then None
    else Some (x.0, (solid (take x.1.0 x.1.1), record { front = drop x.1.0 x.1.1; gap = g.gap; back = g.back })))
    else
    (if nat_lt (length g.back) (x.1.0 - (length x.1.1 + g.gap)) then None
    else Some (
      x.0,
      (
        record { front = x.1.1; gap = g.gap; back = take (x.1.0 - (length x.1.1 + g.gap)) g.back },
        solid (drop (x.1.0 - (length x.1.1 + g.gap)) g.back),
      ),
    ))

-- tag, contents, and what follows
unfoldable pub gapped_front : Gapped → Option (ℕ × (Gapped × Gapped))
gapped_front g = element_from g (head_at g.front)

abbrev pub GappedFront : Type 0 → Type 0
GappedFront V = Gapped → Option (V × Gapped)

abbrev pub GappedWhole : Type 0 → Type 0
GappedWhole V = Gapped → Option V

-- there are no octets
abbrev pub is_nothing : Gapped → Bool
is_nothing g = (length g.front == 0) && ((g.gap == 0) && (length g.back == 0))

unfoldable pub gapped_tagged : ℕ → Gapped → Option (Gapped × Gapped)
gapped_tagged tag g = gapped_front g >>? λ x. if x.0 == tag then Some x.1 else None

abbrev pub gapped_element : {V : Type 0} → ℕ → GappedWhole V → GappedFront V
gapped_element tag whole g = gapped_tagged tag g >>? λ x. whole x.0 >>? λ v. Some (v, x.1)

abbrev pub gapped_alone : {V : Type 0} → GappedFront V → GappedWhole V
gapped_alone front g = front g >>? λ x. if is_nothing x.1 then Some x.0 else None

abbrev pub gapped_before : {V W : Type 0} → GappedFront V → GappedWhole W → GappedWhole (V × W)
gapped_before front whole g = front g >>? λ x. whole x.1 >>? λ w. Some (x.0, w)

abbrev pub gapped_optional : {V : Type 0} → GappedWhole V → GappedWhole (Option V)
gapped_optional whole g = if is_nothing g then Some None else (whole g >>? λ v. Some (Some v))

abbrev pub gapped_anything : GappedWhole Gapped
gapped_anything g = Some g

-- octets without a gap, by a reading of octets
abbrev pub solidly : {V : Type 0} → Whole V → GappedWhole V
solidly whole g = if (g.gap == 0) && (length g.back == 0) then whole g.front else None

-- octets that are one element
abbrev pub gapped_one_element : GappedWhole Gapped
gapped_one_element g = gapped_front g >>? λ x. if is_nothing x.1.1 then Some g else None
