-- What is read of an item goes on.
use Rattle.std.specs.Prelude.{MatchResult, Result, Ok, Err, IsErrAnd, IfErr}
use Rattle.std.proofs.Common.{◌≡◌, ℕ, ◌+◌, List, [], Bool, true, false, ◌++◌, length, take, drop, Option, Some, None, sym, ap, subst, ◌∙◌, arith, append_assoc, append-nil, length-append, refl, take-append-drop}
use Rattle.std.specs.Io.KnownBytes.{Keeps, Consumes, prepend_known}
use Rattle.std.proofs.KnownBytes.{Consumes-trans, Consumes-nil}
use Rattle.edge_board.specs.Board.{View}
use Rattle.der_core.specs.Items.{IsSequence, HasSequence}
use Rattle.der_core.specs.Progress.{Progress}
use Rattle.package_attrs.specs.Image.{blocks_for}
use Rattle.item_intake.specs.declared.fault.TakeFault.{TakeFault}
use Rattle.item_intake.specs.declared.fault.TakeFault.TheVariants as takes
use Rattle.item_intake.specs.declared.fault.LoadFault.{LoadFault}
use Rattle.item_intake.specs.declared.fault.LoadFault.TheVariants as faults
use Rattle.item_intake.specs.declared.intake.Intake.{Intake}
use Rattle.item_intake.specs.declared.reader.Reader.{Reader}
use Rattle.item_intake.specs.declared.turns.Turn.{Turn}
use Rattle.item_intake.specs.declared.turns.Turn.TheVariants as turns
use Rattle.item_intake.specs.Causes.{take_fault, read_fault}
use Rattle.edge_board.specs.Supply.{Supply}
use Rattle.load_input.specs.declared.input.ReadFault.{ReadFault}
use Rattle.load_input.specs.declared.input.ReadFault.TheVariants as reads
use Rattle.load_input.specs.Inputs.{Buffered, Fails}
use Rattle.item_intake.specs.Inflows.{Start, RisesAtMost}
use Rattle.item_intake.specs.Reading.{HasSplit, IsTaking, IsReading, SplitsOff}
use Rattle.item_intake.specs.Turns.{Place, place_of, GoesOn, EndsItem, HasRead, HasBroken, AfterTurn, AfterFault}
use Rattle.item_intake.proofs.IntakeLemmas.{rises_weaker}
use Rattle.item_intake.proofs.ReadingLemmas.{taking_skips}

-- octets that are handed on are the front of what was left
pub handed_on : (octets rest part : List ℕ) (n : ℕ) (left : Option (List ℕ)) → rest ≡ drop n octets → part ≡ take n octets
    → Consumes (prepend_known octets left) (prepend_known rest left) part
handed_on octets rest part n None rest-is part-is = tt
handed_on octets rest part n (Some more) rest-is part-is =
    ap (λ (l : List ℕ). l ++ more) (sym (take-append-drop n octets))
    ∙ append_assoc (take n octets) (drop n octets) more
    ∙ ap (λ (l : List ℕ). l ++ (drop n octets ++ more)) (sym part-is)
    ∙ ap (λ (l : List ℕ). part ++ (l ++ more)) (sym rest-is)

pub splits_last : (ends : Bool) (octets : List ℕ) → SplitsOff ends octets → HasSequence octets → IsSequence octets
splits_last true octets h has = h
splits_last false octets h has = absurd (h has)

pub splits_ends : (ends : Bool) (octets : List ℕ) → ends ≡ true → SplitsOff ends octets → IsSequence octets
splits_ends ends octets is h = subst (λ (b : Bool). SplitsOff b octets) is h

pub splits_goes : (ends : Bool) (octets : List ℕ) → ends ≡ false → SplitsOff ends octets → HasSequence octets → ⊥
splits_goes ends octets is h = subst (λ (b : Bool). SplitsOff b octets) is h

pub taking_split : (told moments : Type 0) (start : Start) (pool : List Bool) (v : View) (intake intake' : Intake)
    (skips skips' : Bool) (item : List ℕ) → intake' ≡ intake → (skips ≡ true → skips' ≡ true)
    → IsTaking told moments start pool v intake skips item → IsTaking told moments start pool v intake' skips' item
taking_split told moments start pool v intake intake' skips skips' item same sticky t =
    subst (λ (x : Intake). IsTaking told moments start pool v x skips' item) (sym same)
    (taking_skips start pool v intake skips skips' item sticky t)

pub reading_next : (told moments : Type 0) (start : Start) (pool : List Bool) (w : View) (mid reader : Reader)
    (item part more : List ℕ) → HasSplit mid.splitter mid.started mid.skips (item ++ part)
    → reader.splitter ≡ mid.splitter → reader.started ≡ mid.started → reader.skips ≡ mid.skips → more ≡ part
    → IsTaking told moments start pool w reader.intake reader.skips (item ++ more)
    → IsReading told moments start pool w reader (item ++ part)
reading_next told moments start pool w mid reader item part more split a b c text taking = record {
  split = subst (λ (x : Progress). HasSplit x reader.started reader.skips (item ++ part)) (sym a)
      (subst (λ (x : Bool). HasSplit mid.splitter x reader.skips (item ++ part)) (sym b)
      (subst (λ (x : Bool). HasSplit mid.splitter mid.started x (item ++ part)) (sym c) split));
  taking = subst (λ (l : List ℕ). IsTaking told moments start pool w reader.intake reader.skips (item ++ l)) text taking;
}

pub erased_next : (item part more : List ℕ) (before now : ℕ) → more ≡ part
    → RisesAtMost (blocks_for (length item + length more)) before now
    → RisesAtMost (blocks_for (length (item ++ part))) before now
erased_next item part more before now text r =
    rises_weaker _ (length (item ++ part)) before now (omega (arith, length-append item part, ap length text)) r

pub after_broken : (told moments : Type 0) (start : Start) (pool : List Bool) (v : View) (reader : Reader) (item : List ℕ)
    (from to : Place) (fault : TakeFault) → HasBroken start v item from to
    → AfterFault told moments start pool v reader item from to (take_fault fault)
after_broken told moments start pool v reader item from to takes.Device h = h
after_broken told moments start pool v reader item from to takes.Memory h = h

-- a fault that is handed on
pub err_fault : {T : Type 0} (result : Result T LoadFault) (fault : LoadFault) (Then : T → Type 0) (Fault : LoadFault → Type 0)
    → IsErrAnd result (λ e. e ≡ fault) → Fault fault → MatchResult result Then Fault
err_fault (Ok x) fault Then Fault is h = absurd is
err_fault (Err e) fault Then Fault is h = subst Fault (sym is) h

pub err_breaks : {T : Type 0} (result : Result T LoadFault) (fault : LoadFault) (Fault : LoadFault → Type 0)
    → IsErrAnd result (λ e. e ≡ fault) → Fault fault → IfErr result Fault
err_breaks (Ok x) fault Fault is h = absurd is
err_breaks (Err e) fault Fault is h = subst Fault (sym is) h

-- ---- one turn after others

pub keeps_consumes : (a b : Option (List ℕ)) → Keeps a b → Consumes a b []
keeps_consumes None b h = tt
keeps_consumes (Some x) None h = h
keeps_consumes (Some x) (Some y) h = sym h

-- nothing more has come
pub read_none : (told moments : Type 0) (start : Start) (pool : List Bool) (v : View) (reader : Reader) (item : List ℕ)
    (from to : Place) (then : List ℕ → Type 0) → IsReading told moments start pool v reader item
    → Consumes from.0 to.0 [] → to.1 ≡ from.1 → then item → HasRead told moments start pool v reader item from to then
read_none told moments start pool v reader item from to then reading text passed and = record {
  part = [];
  text = text;
  passed_is = omega (arith, passed);
  reading = subst (λ (l : List ℕ). IsReading told moments start pool v reader l) (sym (append-nil item)) reading;
  and = subst then (sym (append-nil item)) and;
}

module _ (told moments : Type 0) (start : Start) (pool : List Bool) (v : View) (reader : Reader)
    (item done whole : List ℕ) (from middle to : Place) (is : whole ≡ item ++ done)
    (text : Consumes from.0 middle.0 done) (passed : middle.1 ≡ from.1 + length done) where
  joined : (part : List ℕ) → whole ++ part ≡ item ++ (done ++ part)
  joined part = ap (λ (l : List ℕ). l ++ part) is ∙ append_assoc item done part

  pub read_then : (last : Place) (then : List ℕ → Type 0)
      → HasRead told moments start pool v reader whole middle last then
      → HasRead told moments start pool v reader item from last then
  read_then last then h = record {
    part = done ++ h.part;
    text = Consumes-trans from.0 middle.0 last.0 done h.part text h.text;
    passed_is = omega (arith, passed, h.passed_is, length-append done h.part);
    reading = subst (λ (l : List ℕ). IsReading told moments start pool v reader l) (joined h.part) h.reading;
    and = subst then (joined h.part) h.and;
  }

  broken_then : HasBroken start v whole middle to → HasBroken start v item from to
  broken_then h = record {
    part = done ++ h.part;
    text = Consumes-trans from.0 middle.0 to.0 done h.part text h.text;
    passed_is = omega (arith, passed, h.passed_is, length-append done h.part);
    last = subst (λ (l : List ℕ). HasSequence l → IsSequence l) (joined h.part) h.last;
    erased = subst (λ (l : List ℕ). RisesAtMost (blocks_for (length l)) start.erased v.erased) (joined h.part) h.erased;
  }

  pub turn_then : (turn : Turn) → AfterTurn told moments start pool v reader whole middle to turn
      → AfterTurn told moments start pool v reader item from to turn
  turn_then turns.Goes h = read_then to GoesOn h
  turn_then turns.Ends h = read_then to (EndsItem true to.0) h
  turn_then turns.Stops h = read_then to (EndsItem false to.0) h

  pub fault_then : (fault : LoadFault) → AfterFault told moments start pool v reader whole middle to fault
      → AfterFault told moments start pool v reader item from to fault
  fault_then faults.Device h = broken_then h
  fault_then faults.Memory h = broken_then h
  fault_then faults.Source h = read_then to GoesOn h
  fault_then faults.TooLong (place, beyond, h) = (place, beyond, read_then place GoesOn h)

  pub after_then : (result : Result Turn LoadFault)
      → MatchResult result (AfterTurn told moments start pool v reader whole middle to)
      (AfterFault told moments start pool v reader whole middle to)
      → MatchResult result (AfterTurn told moments start pool v reader item from to)
      (AfterFault told moments start pool v reader item from to)
  after_then (Ok turn) h = turn_then turn h
  after_then (Err fault) h = fault_then fault h

-- a read that failed
pub fill_failed : (told moments : Type 0) (start : Start) (pool : List Bool) (v : View) (reader : Reader) (item : List ℕ)
    (old new : Buffered) (before now : Supply) (fault : ReadFault) → Fails old new before now fault
    → IsReading told moments start pool v reader item → GoesOn item
    → AfterFault told moments start pool v reader item (place_of old before.left) (place_of new now.left) (read_fault fault)
fill_failed told moments start pool v reader item old new before now reads.Failed stopped reading goes =
    read_none told moments start pool v reader item (place_of old before.left) (place_of new now.left) GoesOn reading
    (keeps_consumes _ _ stopped.kept) (ap (λ (b : Buffered). b.passed) stopped.same) goes
fill_failed told moments start pool v reader item old new before now reads.TooLong over reading goes =
    let from = place_of old before.left in (
      from,
      record { octet = over.octet; text = over.text; passed_is = ap (λ (b : Buffered). b.passed) over.same },
      read_none told moments start pool v reader item from from GoesOn reading (Consumes-nil from.0) refl goes,
    )
