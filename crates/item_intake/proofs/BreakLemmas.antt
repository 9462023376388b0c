-- An item that is read, or isn't.
use Rattle.std.proofs.Common.{◌≡◌, ℕ, ◌+◌, List, [], ◌∷◌, Bool, ◌++◌, ◌⊎◌, length, Option, sym, subst, append-nil, refl, inl, inr, arith}
use Rattle.std.specs.Io.KnownBytes.{Consumes}
use Rattle.std.proofs.KnownBytes.{Consumes-trans}
use Rattle.edge_board.specs.Board.{View}
use Rattle.der_core.specs.Items.{IsSequence, HasSequence}
use Rattle.package_attrs.specs.Image.{blocks_for}
use Rattle.item_intake.specs.declared.fault.TakeFault.{TakeFault}
use Rattle.item_intake.specs.declared.fault.TakeFault.TheVariants as takes
use Rattle.item_intake.specs.declared.fault.LoadFault.{LoadFault}
use Rattle.item_intake.specs.declared.fault.LoadFault.TheVariants as faults
use Rattle.item_intake.specs.declared.reader.Reader.{Reader}
use Rattle.item_intake.specs.Causes.{take_fault}
use Rattle.item_intake.specs.Inflows.{Start, RisesAtMost}
use Rattle.item_intake.specs.Turns.{Place, HasRead, AfterFault, EndsItem}
use Rattle.item_intake.specs.ReadItem.{BreaksItem}
use Rattle.item_intake.proofs.ItemLemmas.{OneContent, ends_last, reading_erased, reading_least}

device_other : (¬ (◌≡◌ {A = LoadFault} faults.Device faults.TooLong)) × (¬ (◌≡◌ {A = LoadFault} faults.Device faults.Source))
device_other = (λ e. cc, λ e. cc)

memory_other : (¬ (◌≡◌ {A = LoadFault} faults.Memory faults.TooLong)) × (¬ (◌≡◌ {A = LoadFault} faults.Memory faults.Source))
memory_other = (λ e. cc, λ e. cc)

source_other : ¬ (◌≡◌ {A = LoadFault} faults.Source faults.TooLong)
source_other e = cc

nothing_beyond : (left left' : Option (List ℕ)) (octets : List ℕ) → Consumes left left' octets → Consumes left left' (octets ++ [])
nothing_beyond left left' octets h = subst (λ (l : List ℕ). Consumes left left' l) (sym (append-nil octets)) h

breaks_other : (moments : Type 0) (before : List Bool) (erased : ℕ) (v : View) (from to : Place)
    (fault : LoadFault) (octets : List ℕ) → (¬ (fault ≡ faults.TooLong)) × (¬ (fault ≡ faults.Source))
    → Consumes from.0 to.0 octets → to.1 ≡ from.1 + length octets → (HasSequence octets → IsSequence octets)
    → RisesAtMost (blocks_for (length octets)) erased v.erased
    → BreaksItem moments before erased v from.0 to.0 from.1 to.1 fault
breaks_other moments before erased v from to fault octets not text passed last most = record {
  octets = octets;
  beyond = [];
  text = nothing_beyond from.0 to.0 octets text;
  passed_is = passed;
  excess = inr (not.0, refl);
  last = last;
  goes_on = λ is has. by_cause is;
  most = most;
  least = λ is. absurd (not.1 is);
}
  where
    by_cause : (fault ≡ faults.TooLong) ⊎ (fault ≡ faults.Source) → ⊥
    by_cause (inl e) = not.0 e
    by_cause (inr e) = not.1 e

pub break_fault : OneContent → (told moments : Type 0) (start : Start) (pool : List Bool) (v : View) (reader : Reader)
    (from to : Place) (fault : LoadFault)
    → AfterFault told moments start pool v reader [] from to fault
    → BreaksItem moments start.pool start.erased v from.0 to.0 from.1 to.1 fault
break_fault one told moments start pool v reader from to faults.Device h =
    breaks_other moments start.pool start.erased v from to faults.Device h.part device_other h.text h.passed_is h.last h.erased
break_fault one told moments start pool v reader from to faults.Memory h =
    breaks_other moments start.pool start.erased v from to faults.Memory h.part memory_other h.text h.passed_is h.last h.erased
break_fault one told moments start pool v reader from to faults.Source h = record {
  octets = h.part;
  beyond = [];
  text = nothing_beyond from.0 to.0 h.part h.text;
  passed_is = h.passed_is;
  excess = inr (source_other, refl);
  last = λ has. absurd (h.and has);
  goes_on = λ is has. h.and has;
  most = reading_erased told moments start pool v reader h.part h.reading;
  least = λ is. reading_least one told moments start pool v reader h.part h.reading;
}
break_fault one told moments start pool v reader from to faults.TooLong (middle, more, h) = record {
  octets = h.part;
  beyond = more.octet ∷ [];
  text = Consumes-trans from.0 middle.0 to.0 h.part (more.octet ∷ []) h.text more.text;
  passed_is = omega (arith, more.passed_is, h.passed_is);
  excess = inl (refl, refl);
  last = λ has. absurd (h.and has);
  goes_on = λ is has. h.and has;
  most = reading_erased told moments start pool v reader h.part h.reading;
  least = λ is. absurd (source_other (sym is));
}

pub break_end : (told moments : Type 0) (start : Start) (pool : List Bool) (v w : View) (reader : Reader)
    (from to : Place) (whole : Bool) (fault : TakeFault) → w.erased ≡ v.erased
    → HasRead told moments start pool v reader [] from to (EndsItem whole to.0)
    → BreaksItem moments start.pool start.erased w from.0 to.0 from.1 to.1 (take_fault fault)
break_end told moments start pool v w reader from to whole fault same h = by_fault fault
  where
    most : RisesAtMost (blocks_for (length h.part)) start.erased w.erased
    most = subst (λ (n : ℕ). RisesAtMost (blocks_for (length h.part)) start.erased n) (sym same)
        (reading_erased told moments start pool v reader h.part h.reading)

    by_fault : (fault : TakeFault) → BreaksItem moments start.pool start.erased w from.0 to.0 from.1 to.1 (take_fault fault)
    by_fault takes.Device = breaks_other moments start.pool start.erased w from to faults.Device h.part device_other h.text
        h.passed_is (ends_last whole to.0 h.part h.and) most
    by_fault takes.Memory = breaks_other moments start.pool start.erased w from to faults.Memory h.part memory_other h.text
        h.passed_is (ends_last whole to.0 h.part h.and) most
