-- Turns over the items of a source, one after the other.
use Rattle.std.proofs.Common.{◌≡◌, ℕ, ◌+◌, ◌*◌, ◌<◌, ◌≤◌, ◌||◌, List, [], ◌∷◌, ◌++◌, Bool, true, false, length, take, refl, sym, ◌∙◌, ap, subst, arith, append_assoc, append-nil, length-append, Option, flat_map, sum_by}
use Rattle.std.proofs.lemmas.Grind.{flat_map-append}
use Rattle.std.proofs.lemmas.List.Sums.{sum_by-append}
use Rattle.std.proofs.Math.Seq.{take-append-add}
use Rattle.std.specs.List.{AllByRecursion}
use Rattle.std.specs.Io.KnownBytes.{Consumes}
use Rattle.std.proofs.KnownBytes.{Consumes-nil, Consumes-trans}
use Rattle.edge_board.specs.Board.{View, IsHonest, IsSettled}
use Rattle.der_core.specs.Items.{IsSequence, HasSequence, IsItems, Splits, last_item}
use Rattle.der_core.proofs.Sequences.{none_of_none}
use Rattle.der_core.proofs.Streams.{items_of_splits}
use Rattle.module_record.specs.declared.module.Module.{Module}
use Rattle.bank_layout.specs.Manifest.{Manifest}
use Rattle.bank_layout.specs.Recovery.{Standing, Recovers, standing_of}
use Rattle.bank_layout.specs.Recovery.Holder.{module_board}
use Rattle.judge_core.specs.Verdicts.{Verdict}
use Rattle.load_claims.specs.Items.{Judged, answers}
use Rattle.load_claims.specs.Boards.{Loads, LeavesRun}
use Rattle.load_claims.proofs.Keeping.{judged_then, answers_then}
use Rattle.load_claims.proofs.Serving.{begun, loads_none, loads_then, leaves_then}
use Rattle.item_intake.specs.declared.fault.LoadFault.{LoadFault}
use Rattle.item_answer.specs.Answers.{AnswersPart}
use Rattle.load_item.specs.declared.turn.Turn.{Turn}
use Rattle.load_item.specs.declared.turn.Turn.TheVariants as turns
use Rattle.load_item.specs.Turns.{TurnsItem, FailsItem, turn_items, turn_refuses, turn_erases}
use Rattle.loader_core.specs.Loading.{most_erased}
use Rattle.loader_core.specs.Loops.{InTurns, RunsItems, BreaksRun}

-- ---- lists

pub each_then : (P : List ℕ → Type 0) (xs ys : List (List ℕ)) → AllByRecursion P xs → AllByRecursion P ys → AllByRecursion P (xs ++ ys)
each_then P [] ys first second = second
each_then P (x ∷ xs) ys first second = (first.0, each_then P xs ys first.1 second)

or_true : (x : Bool) → (x || true) ≡ true
or_true true = refl
or_true false = refl

or_false : (x : Bool) → (x || false) ≡ x
or_false true = refl
or_false false = refl

erases_few : (turn : Turn) → turn_erases turn ≤ 34
erases_few turns.Accepted = omega arith
erases_few turns.Refused = omega arith
erases_few turns.Last = omega arith
erases_few turns.End = omega arith

passes : (p q r : ℕ) (front part : List ℕ) → q ≡ p + length front → r ≡ q + length part → r ≡ p + length (front ++ part)
passes p q r front part first second = omega (arith, first, second, length-append front part)

one_last : (octets : List ℕ) → 0 < length octets → last_item octets ≡ octets ∷ []
one_last [] some = absurd (omega (arith, some))
one_last (octet ∷ octets) some = refl

splits_on : (front octets : List ℕ) (ended : List (List ℕ)) → Splits front ended [] → (HasSequence octets → ⊥) → Splits (front ++ octets) ended octets
splits_on front octets ended s goes = record {
  whole = ap (λ (l : List ℕ). l ++ octets) (s.whole ∙ append-nil (flat_map (λ item. item) ended));
  each = s.each;
  goes_on = goes;
}

splits_one : (front octets : List ℕ) (ended : List (List ℕ)) → Splits front ended [] → IsSequence octets → Splits (front ++ octets) (ended ++ octets ∷ []) []
splits_one front octets ended s sequence = record {
  whole = ap (λ (l : List ℕ). l ++ octets) (s.whole ∙ append-nil (flat_map (λ item. item) ended))
      ∙ ap (λ (l : List ℕ). flat_map (λ item. item) ended ++ l) (sym (append-nil octets))
      ∙ sym (flat_map-append (λ (item : List ℕ). item) ended (octets ∷ []))
      ∙ sym (append-nil (flat_map (λ item. item) (ended ++ octets ∷ [])));
  each = each_then IsSequence ended (octets ∷ []) s.each (sequence, tt);
  goes_on = none_of_none;
}

-- ---- a front of the answers

-- a front of the answers to what follows, after all answers to what came before
part_then : (m : Module) (at : ℕ) (start mid : Standing) (done items : List (List ℕ)) (refused : Bool) (a b c : View) → Loads m at start mid done refused a b
    → AnswersPart m at mid items b c → AnswersPart m at start (done ++ items) a c
part_then m at start mid done items refused a b c first p =
    let vs : List Verdict = first.verdicts in
    let ws : List Verdict = p.verdicts in
    let more : List ℕ = answers m mid ws in
    let said : List ℕ = answers m start vs in
    let k : ℕ = p.sent.0 in
    let all : answers m start (vs ++ ws) ≡ said ++ more =
    answers_then m at start vs ws ∙ ap (λ (s : Standing). answers m start vs ++ answers m s ws) (sym first.end_is) in
    record {
      verdicts = vs ++ ws;
      judged = judged_then m at start done items vs ws first.judged first.all (subst (λ (s : Standing). Judged m at s items ws) first.end_is p.judged);
      sent = (
        length said + k,
        omega (arith, p.sent.1, ap length all, length-append said more),
        λ q h. subst (λ (l : List ℕ). c.sent (q ++ l))
            (sym (ap (take (length said + k)) all ∙ take-append-add said more k))
            (subst c.sent (append_assoc q said (take k more)) (p.sent.2 (q ++ said) (first.sent q h))),
      );
    }

-- ---- turns

module _ {told moments : Type 0} (m : Module) (at : ℕ) (start : Standing) where
  -- before the first one
  pub turns_none : (old : View) (left : Option (List ℕ)) (passed : ℕ) → IsHonest told moments old → (told → IsSettled old)
      → (told → Recovers old.cells (module_board m start)) → InTurns told moments m at start start old old left left passed passed false
  turns_none old left passed honest settled found = record {
    octets = [];
    text = Consumes-nil left;
    passed_is = omega arith;
    ended = [];
    splits = record { whole = refl; each = tt; goes_on = none_of_none };
    loads = λ tells. loads_none m at start old (found tells);
    leaves = λ t others. begun m at start others old honest (settled (honest.whole t)) (found (honest.whole t));
    later = omega arith;
    most = omega arith;
  }

  module _ (mid : Standing) (old now next : View) (left left1 left2 : Option (List ℕ)) (p p1 p2 : ℕ) (refused : Bool)
      (honest_old : IsHonest told moments old) (honest : IsHonest told moments now)
      (l : InTurns told moments m at start mid old now left left1 p p1 refused) where
    turn_goes : (end : Standing) (turn : Turn) (t : TurnsItem told moments m at mid end now next left1 left2 p1 p2 turn)
        → turn_items t.octets turn ≡ t.octets ∷ [] → IsSequence t.octets
        → InTurns told moments m at start end old next left left2 p p2 (refused || turn_refuses turn)
    turn_goes end turn t one sequence = record {
      octets = l.octets ++ t.octets;
      text = Consumes-trans left left1 left2 l.octets t.octets l.text t.text;
      passed_is = passes p p1 p2 l.octets t.octets l.passed_is t.passed_is;
      ended = l.ended ++ t.octets ∷ [];
      splits = splits_one l.octets t.octets l.ended l.splits sequence;
      loads = λ tells.
          loads_then m at start mid end l.ended (t.octets ∷ []) refused (turn_refuses turn) old now next (l.loads tells)
          (subst (λ (items : List (List ℕ)). Loads m at mid end items (turn_refuses turn) now next) one (t.loads tells));
      leaves = λ tells others.
          subst (λ (items : List (List ℕ)). LeavesRun m at start items old next) (sym (append_assoc l.ended (t.octets ∷ []) others))
          (leaves_then m at tells start mid l.ended (t.octets ∷ [] ++ others) refused old now next honest_old honest (l.loads (honest.whole tells))
          (l.leaves tells (t.octets ∷ [] ++ others))
          (subst (λ (items : List (List ℕ)). LeavesRun m at mid (items ++ others) now next) one (t.leaves tells others)));
      later = omega (arith, l.later, t.later);
      most = omega (arith, l.most, t.most, erases_few turn, sum_by-append most_erased l.ended (t.octets ∷ []));
    }

    -- the next item was accepted
    pub goes_accepted : (end : Standing) → TurnsItem told moments m at mid end now next left1 left2 p1 p2 turns.Accepted
        → InTurns told moments m at start end old next left left2 p p2 refused
    goes_accepted end t = subst (λ (x : Bool). InTurns told moments m at start end old next left left2 p p2 x) (or_false refused)
        (turn_goes end turns.Accepted t refl t.is)

    -- it was refused
    pub goes_refused : (end : Standing) → TurnsItem told moments m at mid end now next left1 left2 p1 p2 turns.Refused
        → InTurns told moments m at start end old next left left2 p p2 true
    goes_refused end t = subst (λ (x : Bool). InTurns told moments m at start end old next left left2 p p2 x) (or_true refused)
        (turn_goes end turns.Refused t refl t.is)

    -- it was the last, and began no SEQUENCE
    pub turn_last : (end : Standing) → TurnsItem told moments m at mid end now next left1 left2 p1 p2 turns.Last
        → RunsItems told moments m at start old next left left2 p p2 true
    turn_last end t = record {
      octets = l.octets ++ t.octets;
      text = Consumes-trans left left1 left2 l.octets t.octets l.text t.text;
      passed_is = passes p p1 p2 l.octets t.octets l.passed_is t.passed_is;
      at_end = t.is.2;
      items = l.ended ++ t.octets ∷ [];
      items_are = subst (λ (items : List (List ℕ)). IsItems (l.octets ++ t.octets) (l.ended ++ items)) (one_last t.octets t.is.0)
          (items_of_splits (l.octets ++ t.octets) l.ended t.octets (splits_on l.octets t.octets l.ended l.splits t.is.1));
      end = end;
      loads = λ tells.
          subst (λ (x : Bool). Loads m at start end (l.ended ++ t.octets ∷ []) x old next) (or_true refused)
          (loads_then m at start mid end l.ended (t.octets ∷ []) refused true old now next (l.loads tells) (t.loads tells));
      leaves = λ tells.
          leaves_then m at tells start mid l.ended (t.octets ∷ []) refused old now next honest_old honest (l.loads (honest.whole tells))
          (l.leaves tells (t.octets ∷ [])) (t.leaves tells []);
      later = omega (arith, l.later, t.later);
      most = omega (arith, l.most, t.most, sum_by-append most_erased l.ended (t.octets ∷ []));
    }

    -- there was none
    pub turn_ends : (end : Standing) → TurnsItem told moments m at mid end now next left1 left2 p1 p2 turns.End
        → RunsItems told moments m at start old next left left2 p p2 refused
    turn_ends end t = record {
      octets = l.octets ++ t.octets;
      text = Consumes-trans left left1 left2 l.octets t.octets l.text t.text;
      passed_is = passes p p1 p2 l.octets t.octets l.passed_is t.passed_is;
      at_end = t.is.1;
      items = l.ended ++ [];
      items_are = subst (λ (octets : List ℕ). IsItems (l.octets ++ octets) (l.ended ++ [])) (sym t.is.0)
          (subst (λ (octets : List ℕ). IsItems octets (l.ended ++ [])) (sym (append-nil l.octets))
          (items_of_splits l.octets l.ended [] l.splits));
      end = end;
      loads = λ tells.
          subst (λ (x : Bool). Loads m at start end (l.ended ++ []) x old next) (or_false refused)
          (loads_then m at start mid end l.ended [] refused false old now next (l.loads tells) (t.loads tells));
      leaves = λ tells.
          leaves_then m at tells start mid l.ended [] refused old now next honest_old honest (l.loads (honest.whole tells))
          (l.leaves tells []) (t.leaves tells []);
      later = omega (arith, l.later, t.later);
      most = omega (arith, l.most, t.most, ap length t.is.0, sum_by-append most_erased l.ended []);
    }

    -- it wasn't answered whole
    pub turn_fails : (buffered : List ℕ) (fault : LoadFault) → FailsItem told moments m at mid now next left1 left2 p1 p2 buffered fault
        → BreaksRun told moments m at start old next left left2 p p2 buffered fault
    turn_fails buffered fault t = record {
      octets = l.octets ++ t.octets;
      beyond = t.beyond;
      text = subst (λ (octets : List ℕ). Consumes left left2 octets) (sym (append_assoc l.octets t.octets t.beyond))
          (Consumes-trans left left1 left2 l.octets (t.octets ++ t.beyond) l.text t.text);
      passed_is = passes p p1 p2 l.octets t.octets l.passed_is t.passed_is;
      excess = t.excess;
      ended = l.ended;
      so_far = t.octets;
      whole = ap (λ (o : List ℕ). o ++ t.octets) (l.splits.whole ∙ append-nil (flat_map (λ item. item) l.ended));
      each = l.splits.each;
      last = t.last;
      goes_on = t.goes_on;
      items = t.items;
      are = t.are;
      loads = λ tells not. (
        mid,
        refused || false,
        subst (λ (items : List (List ℕ)). Loads m at start mid items (refused || false) old next) (append-nil l.ended)
            (loads_then m at start mid mid l.ended [] refused false old now next (l.loads tells) (t.nothing tells not)),
      );
      partly = λ tells. part_then m at start mid l.ended t.items refused old now next (l.loads tells) (t.partly tells);
      leaves = λ tells others.
          leaves_then m at tells start mid l.ended (t.items ++ others) refused old now next honest_old honest (l.loads (honest.whole tells))
          (l.leaves tells (t.items ++ others)) (t.leaves tells others);
      later = omega (arith, l.later, t.later);
      most = omega (arith, l.most, t.most);
      least = λ tells source place size cut few blocks. omega (arith, l.later, t.least tells source place size cut few blocks);
    }

-- ---- the module of a store stays

pub moved_turn : {told moments : Type 0} (a b : Module) (at : ℕ) (s e : Manifest) (old new : View) (left left' : Option (List ℕ)) (p p' : ℕ)
    (turn turn' : Turn) → a ≡ b → turn ≡ turn'
    → TurnsItem told moments a at (standing_of a s old.cells) (standing_of a e new.cells) old new left left' p p' turn
    → TurnsItem told moments b at (standing_of b s old.cells) (standing_of b e new.cells) old new left left' p p' turn'
moved_turn {told = told} {moments = moments} a b at s e old new left left' p p' turn turn' same is t =
    subst (λ (x : Turn). TurnsItem told moments b at (standing_of b s old.cells) (standing_of b e new.cells) old new left left' p p' x) is
    (subst (λ (x : Module). TurnsItem told moments x at (standing_of x s old.cells) (standing_of x e new.cells) old new left left' p p' turn) same t)

pub moved_fault : {told moments : Type 0} (a b : Module) (at : ℕ) (s : Manifest) (old new : View) (left left' : Option (List ℕ)) (p p' : ℕ) (buffered : List ℕ)
    (fault : LoadFault) → a ≡ b → FailsItem told moments a at (standing_of a s old.cells) old new left left' p p' buffered fault
    → FailsItem told moments b at (standing_of b s old.cells) old new left left' p p' buffered fault
moved_fault {told = told} {moments = moments} a b at s old new left left' p p' buffered fault same t =
    subst (λ (x : Module). FailsItem told moments x at (standing_of x s old.cells) old new left left' p p' buffered fault) same t
