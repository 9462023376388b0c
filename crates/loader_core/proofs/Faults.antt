-- What a fault that is handed on says, and why it comes.
use Rattle.std.proofs.Common.{◌≡◌, ◌⊎◌, inl, inr, ℕ, ◌+◌, ◌<◌, ◌≤◌, List, [], Bool, length, refl, sym, ◌∙◌, ap, subst, arith, Option, Result, Ok, Err, IfErr, IsErrAnd, MatchResult, IsErrOf}
use Rattle.edge_board.specs.Board.{View}
use Rattle.edge_board.specs.Causes.{Rose}
use Rattle.module_record.specs.declared.module.Module.{Module}
use Rattle.bank_layout.specs.Recovery.{Standing}
use Rattle.load_input.specs.Inputs.{Buffered, IsCounted}
use Rattle.load_input.specs.Causes.{HasLoadCause}
use Rattle.item_intake.specs.Causes.{excess}
use Rattle.item_intake.specs.declared.fault.LoadFault.{LoadFault}
use Rattle.item_intake.specs.declared.fault.LoadFault.TheVariants as faults
use Rattle.load_item.specs.declared.turn.Turn.{Turn}
use Rattle.load_item.specs.declared.turn.Turn.TheVariants as turns
use Rattle.load_item.specs.Turns.{IsLast}
use Rattle.loader_core.specs.declared.loading.Ending.{Ending}
use Rattle.loader_core.specs.declared.loading.Ending.TheVariants as endings
use Rattle.loader_core.specs.Endings.{fault_ending}
use Rattle.loader_core.specs.Loops.{BreaksRun}

fault_or : {T E : Type 0} → E → Result T E → E
fault_or other (Ok x) = other
fault_or other (Err e) = e

pub of_err : {T E : Type 0} (e x : E) → IsErrOf {T = T} (Err e) x → e ≡ x
unfolding fault_or
of_err {T = T} {E = E} e x is = ap (fault_or {T = T} {E = E} x) is

pub is_err : {T E : Type 0} (e x : E) → e ≡ x → IsErrOf {T = T} (Err e) x
is_err {T = T} {E = E} e x is = ap (λ (f : E). the_err f) is
  where
    the_err : E → Result T E
    the_err f = Err f

-- ---- a fault that is handed on

pub err_breaks : {told moments : Type 0} (m : Module) (at : ℕ) (start : Standing) (old new : View) (left left' : Option (List ℕ)) (p p' : ℕ) (buffered : List ℕ)
    (r : Result Bool LoadFault) (fault : LoadFault) → IsErrAnd r (λ e. e ≡ fault)
    → BreaksRun told moments m at start old new left left' p p' buffered fault
    → IfErr r (BreaksRun told moments m at start old new left left' p p' buffered)
err_breaks {told = told} {moments = moments} m at start old new left left' p p' buffered (Ok x) fault is h = absurd is
err_breaks {told = told} {moments = moments} m at start old new left left' p p' buffered (Err e) fault is h =
    subst (λ (x : LoadFault). BreaksRun told moments m at start old new left left' p p' buffered x) (sym is) h

pub err_counted : (r : Result Bool LoadFault) (fault : LoadFault) (old new : Buffered) (before now : ℕ) → IsErrAnd r (λ e. e ≡ fault)
    → IsCounted (excess fault) old new before now
    → MatchResult r (λ _. IsCounted 0 old new before now) (λ fault. IsCounted (excess fault) old new before now)
err_counted (Ok x) fault old new before now is h = absurd is
err_counted (Err e) fault old new before now is h = subst (λ (x : LoadFault). IsCounted (excess x) old new before now) (sym is) h

pub err_cause : (wanted : LoadFault) (before mid now : ℕ) (r : Result Bool LoadFault) (fault : LoadFault) → IsErrAnd r (λ e. e ≡ fault)
    → mid ≡ before → mid ≤ now → (¬ (fault ≡ wanted) → now ≡ mid) → (fault ≡ wanted → Rose mid now) → HasLoadCause wanted before now r
err_cause wanted before mid now (Ok x) fault is same later calm failed = absurd is
err_cause wanted before mid now (Err e) fault is same later calm failed = record {
  later = omega (arith, same, later);
  calm = λ not. calm (λ w. not (is_err e wanted (is ∙ w))) ∙ same;
  failed = λ w. subst (λ (b : ℕ). Rose b now) same (failed (sym is ∙ of_err e wanted w));
}

pub goes_on_accepted : (t : Turn) → t ≡ turns.Accepted → IsLast t → ⊥
goes_on_accepted t is last = subst IsLast is last

pub goes_on_refused : (t : Turn) → t ≡ turns.Refused → IsLast t → ⊥
goes_on_refused t is last = subst IsLast is last

-- ---- which ending a fault makes

pub not_none : (f : LoadFault) → fault_ending f ≡ endings.NotAModule → ⊥
not_none faults.Device e = cc
not_none faults.Source e = cc
not_none faults.TooLong e = cc
not_none faults.Memory e = cc

pub source_of : (f : LoadFault) → fault_ending f ≡ endings.SourceFault → f ≡ faults.Source
source_of faults.Device e = absurd cc
source_of faults.Source e = refl
source_of faults.TooLong e = absurd cc
source_of faults.Memory e = absurd cc

pub device_of : (f : LoadFault) → fault_ending f ≡ endings.DeviceFault → f ≡ faults.Device
device_of faults.Device e = refl
device_of faults.Source e = absurd cc
device_of faults.TooLong e = absurd cc
device_of faults.Memory e = absurd cc

pub long_of : (f : LoadFault) → fault_ending f ≡ endings.InputTooLong → f ≡ faults.TooLong
long_of faults.Device e = absurd cc
long_of faults.Source e = absurd cc
long_of faults.TooLong e = refl
long_of faults.Memory e = absurd cc

-- ---- octets beyond the limit

pub excess_none : (f : LoadFault) → ¬ (f ≡ faults.TooLong) → excess f ≡ 0
excess_none faults.Device not = refl
excess_none faults.Source not = refl
excess_none faults.TooLong not = absurd (not refl)
excess_none faults.Memory not = refl

pub is_long : (f : LoadFault) → (f ≡ faults.TooLong) ⊎ ¬ (f ≡ faults.TooLong)
is_long faults.Device = inr (λ e. cc)
is_long faults.Source = inr (λ e. cc)
is_long faults.TooLong = inl refl
is_long faults.Memory = inr (λ e. cc)

pub excess_is : (f : LoadFault) (beyond : List ℕ) → (f ≡ faults.TooLong × (length beyond ≡ 1)) ⊎ (¬ (f ≡ faults.TooLong) × (beyond ≡ []))
    → excess f ≡ length beyond
excess_is f beyond (inl long) = ap excess long.0 ∙ sym long.1
excess_is f beyond (inr short) = excess_none f short.0 ∙ sym (ap length short.1)

pub excess_few : (f : LoadFault) → excess f ≤ 1
excess_few faults.Device = omega arith
excess_few faults.Source = omega arith
excess_few faults.TooLong = omega arith
excess_few faults.Memory = omega arith
