-- From the end of an answer to that of a turn.
use Rattle.std.proofs.Common.{◌≡◌, ℕ, ◌≤◌, List, [], ◌∷◌, ◌++◌, length, refl, sym, ap, subst, arith, append-nil, Bool, false, inl, inr, ◌∙◌, Option, Some, unwrap_or, Result, Ok, Err}
use Rattle.std.specs.Prelude.{IfErr, OnOk, IsErrOf}
use Rattle.edge_board.specs.Board.{IsSettled, SameTest, View}
use Rattle.edge_board.specs.Sends.{Sending}
use Rattle.edge_board.proofs.RunLemmas.{leaves_weaker}
use Rattle.config_table.specs.State.{State, state_with}
use Rattle.config_table.specs.Stored.{lengths}
use Rattle.module_record.specs.declared.module.Module.{Module}
use Rattle.bank_layout.specs.declared.bank.Bank.{Bank}
use Rattle.bank_layout.specs.Manifest.{Manifest}
use Rattle.bank_layout.specs.Recovery.{HoldsModule, Recovers, Standing, standing_of}
use Rattle.bank_layout.specs.Recovery.Holder.{module_board}
use Rattle.judge_core.specs.Verdicts.{Judges, Verdict, bench}
use Rattle.module_store.specs.declared.store.Store.{Store}
use Rattle.module_store.specs.Store.{IsQuiet, IsStore, IsStoreOf, manifest_of}
use Rattle.load_claims.specs.Boards.{LeavesRun, Loads}
use Rattle.load_claims.specs.Inside.{InRun}
use Rattle.load_claims.specs.Items.{JudgesAt, after, some_refused}
use Rattle.load_claims.specs.Kept.{Finds}
use Rattle.load_claims.proofs.Below.{OneHolder, one_standing}
use Rattle.load_claims.proofs.Judging.{judged_at}
use Rattle.load_claims.proofs.Keeping.{in_run_more}
use Rattle.load_input.specs.Causes.{HasLoadCause}
use Rattle.item_answer.specs.Answers.{AnswersItem, AnswersPart, EndsAnswer}
use Rattle.item_answer.specs.declared.fault.ItemFault.{ItemFault}
use Rattle.item_answer.specs.declared.fault.ItemFault.TheVariants as ends
use Rattle.item_intake.specs.declared.fault.LoadFault.{LoadFault}
use Rattle.item_intake.specs.declared.fault.LoadFault.TheVariants as faults
use Rattle.load_item.specs.declared.turn.Turn.{Turn}
use Rattle.load_item.specs.declared.turn.Turn.TheVariants as turns
use Rattle.load_item.specs.Answers.{Answers, KeepsStore, turn_result}
use Rattle.load_item.specs.Turns.{IsItem, IsTurn, turn_erases, turn_items, turn_refuses}

-- ---- what stands on the board

-- a verdict over the store of the flash is one over what stands there, whatever the octets of the images
pub of_what_stands : ((image : List ℕ) (m : Module) (running : Option Bank) (manifest : Manifest)
    → HoldsModule image m running manifest → state_with (λ (octets : List ℕ). length octets) (standing_of m manifest image).state ≡ lengths manifest.state)
    → (s : Store) (cells : List ℕ) (at : ℕ) (item : List ℕ) (verdict : Verdict) → IsStoreOf s cells
    → Judges (bench s.module s.state s.sequence at) item verdict
    → JudgesAt s.module at (standing_of s.module (manifest_of s) cells) item verdict
of_what_stands law s cells at item verdict holds judges =
    judged_at s.module at (standing_of s.module (manifest_of s) cells) item verdict
    (subst (λ (state : State ℕ). Judges (record { holder = s.module; at = at; sequence = s.sequence; state = state }) item verdict)
    (sym (law cells s.module s.running (manifest_of s) holds)) judges)

-- what is known of a run over items is known of one over more
pub leaves_more : (m : Module) (at : ℕ) (start : Standing) (items others : List (List ℕ)) (old now : View)
    → LeavesRun m at start items old now → LeavesRun m at start (items ++ others) old now
leaves_more m at start items others old now leaves =
    leaves_weaker old now (Sending old (λ image s. Finds m (λ n. InRun m at start items n s) image))
    (Sending old (λ image s. Finds m (λ n. InRun m at start (items ++ others) n s) image)) leaves
    (λ image q h. (h.0, h.1, h.2, h.3, (h.4.0, h.4.1, in_run_more m at start items others h.4.0 h.1 h.4.2)))

-- nothing was judged or sent
pub part_none : (m : Module) (at : ℕ) (start : Standing) (items : List (List ℕ)) (old new : View)
    → SameTest old.sent new.sent → AnswersPart m at start items old new
part_none m at start items old new silent = record {
  verdicts = [];
  judged = tt;
  sent = (0, omega arith, λ p h. subst (λ (l : List ℕ). new.sent l) (sym (append-nil p)) (silent.forth p h));
}

pub loads_nothing : (m : Module) (at : ℕ) (start : Standing) (old new : View) → SameTest old.sent new.sent
    → Recovers new.cells (module_board m start) → Loads m at start start [] false old new
loads_nothing m at start old new silent found = record {
  verdicts = [];
  judged = tt;
  all = refl;
  refused_is = refl;
  end_is = refl;
  sent = λ p h. subst (λ (l : List ℕ). new.sent l) (sym (append-nil p)) (silent.forth p h);
  found = found;
}

-- ---- turns

item_of : (item : List ℕ) (left : Option (List ℕ)) (turn : Turn) → turn_items item turn ≡ item ∷ []
    → IsTurn item left turn → IsItem item [] left
item_of item left turns.Accepted some is = inl is
item_of item left turns.Refused some is = inl is
item_of item left turns.Last some is = inr (is.0, is.1, refl, is.2)
item_of item left turns.End some is = absurd (omega (arith, ap (λ (l : List (List ℕ)). length l) some))

erases_few : (turn : Turn) → turn_erases turn ≤ 34
erases_few turns.Accepted = omega arith
erases_few turns.Refused = omega arith
erases_few turns.Last = omega arith
erases_few turns.End = omega arith

module _ (holders : OneHolder) {told moments : Type 0} (m : Module) (at : ℕ) (start : Standing) (item : List ℕ)
    (left : Option (List ℕ)) (old new : View) (running : Option Bank) (manifest : Manifest) (turn : Turn)
    (verdict : Verdict) (most : ℕ) (whole : moments → told) (is : IsTurn item left turn)
    (some : turn_items item turn ≡ item ∷ []) (refused : some_refused (verdict ∷ []) ≡ turn_refuses turn)
    (few : most ≤ turn_erases turn) where
  loads_to : HoldsModule new.cells m running manifest
      → Loads m at start (after start verdict) (item ∷ []) (some_refused (verdict ∷ [])) old new
      → Loads m at start (standing_of m manifest new.cells) (turn_items item turn) (turn_refuses turn) old new
  loads_to holds l =
      subst (λ (items : List (List ℕ)). Loads m at start (standing_of m manifest new.cells) items (turn_refuses turn) old new) (sym some)
      (subst (λ (r : Bool). Loads m at start (standing_of m manifest new.cells) (item ∷ []) r old new) refused
      (subst (λ (end : Standing). Loads m at start end (item ∷ []) (some_refused (verdict ∷ [])) old new)
      (one_standing holders new.cells m (after start verdict) (standing_of m manifest new.cells) l.found (running, manifest, holds, refl)) l))

  pub answers_of : (r : Result Unit ItemFault) → (told → AnswersItem moments m at start item verdict old new r)
      → (told → IsErrOf r ends.Memory → Loads m at start start [] false old new)
      → (told → OnOk r (HoldsModule new.cells m running manifest)) → EndsAnswer told most old new r
      → Answers told moments m at start (standing_of m manifest new.cells) item left old new (turn_result turn r)
  answers_of (Ok x) answers memory holds e = record {
    is = is;
    loads = λ tells. loads_to (holds tells) (answers tells).loads;
    leaves = λ t others.
        subst (λ (items : List (List ℕ)). LeavesRun m at start (items ++ others) old new) (sym some)
        (leaves_more m at start (item ∷ []) others old new ((answers (whole t)).moments t));
    item_is = tt;
    fault = tt;
    nothing = λ tells. tt;
    partly = λ tells. tt;
    later = e.erased.0;
    few = omega (arith, e.erased.1, few);
    most = omega (arith, e.erased.1, few, erases_few turn);
  }
  answers_of (Err ends.Failed) answers memory holds e = record {
    is = tt;
    loads = λ tells. tt;
    leaves = λ t others. leaves_more m at start (item ∷ []) others old new ((answers (whole t)).moments t);
    item_is = item_of item left turn some is;
    fault = tt;
    nothing = λ tells not. absurd (not refl);
    partly = λ tells. (answers tells).partly;
    later = e.erased.0;
    few = tt;
    most = omega (arith, e.erased.1, few, erases_few turn);
  }
  answers_of (Err ends.Memory) answers memory holds e = record {
    is = tt;
    loads = λ tells. tt;
    leaves = λ t others. leaves_more m at start (item ∷ []) others old new ((answers (whole t)).moments t);
    item_is = item_of item left turn some is;
    fault = tt;
    nothing = λ tells not. memory tells refl;
    partly = λ tells. (answers tells).partly;
    later = e.erased.0;
    few = tt;
    most = omega (arith, e.erased.1, few, erases_few turn);
  }

-- at the end of the source
pub answers_end : {told moments : Type 0} (m : Module) (at : ℕ) (start : Standing) (octets : List ℕ)
    (left : Option (List ℕ)) (v : View) → IsTurn octets left turns.End → (told → Recovers v.cells (module_board m start))
    → (moments → (others : List (List ℕ)) → LeavesRun m at start others v v)
    → Answers told moments m at start start octets left v v (Ok turns.End)
answers_end m at start octets left v is found begun = record {
  is = is;
  loads = λ tells. loads_nothing m at start v v (record { forth = λ s x. x; back = λ s x. x }) (found tells);
  leaves = begun;
  item_is = tt;
  fault = tt;
  nothing = λ tells. tt;
  partly = λ tells. tt;
  later = omega arith;
  few = omega arith;
  most = omega arith;
}

-- ---- an answer's end

not_err : {T E : Type 0} (x : T) (e : E) → IsErrOf {T = T} {E = E} (Ok x) e → ⊥
not_err {T} {E} x e is = subst (λ (r : Result T E). OnOk r ⊥) (sym is) tt

-- want of memory is no fault of a board
abbrev IsMemory : ItemFault → Type 0
IsMemory ends.Failed = ⊥
IsMemory ends.Memory = Unit {0}

abbrev IsCalm : LoadFault → Type 0
IsCalm faults.Device = ⊥
IsCalm faults.Source = Unit {0}
IsCalm faults.TooLong = Unit {0}
IsCalm faults.Memory = Unit {0}

memory_first : {T : Type 0} → IsErrOf {T = T} (Err ends.Memory) ends.Failed → ⊥
memory_first {T} is = subst (λ (r : Result T ItemFault). IfErr r IsMemory) is tt

memory_then : {T : Type 0} → IsErrOf {T = T} (Err faults.Memory) faults.Device → ⊥
memory_then {T} is = subst (λ (r : Result T LoadFault). IfErr r IsCalm) is tt

module _ (turn : Turn) where
  then_ok : (Q : Type 0) (r : Result Unit ItemFault) → OnOk r Q → OnOk (turn_result turn r) Q
  then_ok Q (Ok x) h = h
  then_ok Q (Err e) h = tt

  pub ok_of : (Q : Type 0) (r : Result Unit ItemFault) (q : Result Turn LoadFault) → q ≡ turn_result turn r
      → OnOk r Q → OnOk q Q
  ok_of Q r q is h = subst (λ (x : Result Turn LoadFault). OnOk x Q) (sym is) (then_ok Q r h)

module _ {told : Type 0} {most : ℕ} (old new : View) (turn : Turn) where
  caused : (r : Result Unit ItemFault) → EndsAnswer told most old new r
      → HasLoadCause faults.Device old.faults new.faults (turn_result turn r)
  caused (Ok x) e = record {
    later = e.later;
    calm = λ not. e.calm (not_err x ends.Failed);
    failed = λ is. absurd (not_err turn faults.Device is);
  }
  caused (Err ends.Failed) e = record {
    later = e.later;
    calm = λ not. absurd (not refl);
    failed = λ is. e.fault refl;
  }
  caused (Err ends.Memory) e = record {
    later = e.later;
    calm = λ not. e.calm memory_first;
    failed = λ is. absurd (memory_then is);
  }

  pub cause_of : (r : Result Unit ItemFault) (q : Result Turn LoadFault) → q ≡ turn_result turn r
      → EndsAnswer told most old new r → HasLoadCause faults.Device old.faults new.faults q
  cause_of r q is e = subst (λ (x : Result Turn LoadFault). HasLoadCause faults.Device old.faults new.faults x) (sym is) (caused r e)

  pub keeps_of : (s s' : Store) (r : Result Unit ItemFault) (q : Result Turn LoadFault) → q ≡ turn_result turn r
      → s'.module ≡ s.module → OnOk r (IsStore s') → OnOk r (IsQuiet s') → (told → OnOk r (IsStoreOf s' new.cells))
      → EndsAnswer told most old new r → KeepsStore told s s' old new q
  keeps_of s s' r q is own valid quiet holds e = record {
    owner = own;
    valid = ok_of turn (IsStore s') r q is valid;
    quiet = ok_of turn (IsQuiet s') r q is quiet;
    holds = λ tells. ok_of turn (IsStoreOf s' new.cells) r q is (holds tells);
    settled = λ tells. ok_of turn (IsSettled new) r q is (e.settled tells);
    blocks = e.blocks;
  }

pub at_ok : {T E Q : Type 0} (r : Result T E) → Q → OnOk r Q
at_ok (Ok x) q = q
at_ok (Err e) q = tt

pub same_some : {X : Type 0} (o : Option X) (a b : X) → o ≡ Some a → o ≡ Some b → a ≡ b
same_some o a b first second = sym (ap (λ x. unwrap_or x a) first) ∙ ap (λ x. unwrap_or x a) second
