-- An item from its first octet to the last of its answer.
use Rattle.std.proofs.Common.{◌≡◌, ⊎_elim, ℕ, ◌<◌, ◌≤◌, List, [], ◌∷◌, ◌++◌, length, refl, sym, append-nil, subst, arith, false, Bool, inl, inr, Option, Result, Ok, Err}
use Rattle.std.specs.Prelude.{IfOk, IfErr, IsErrAnd, OnOk, IsErrOf, MatchResult}
use Rattle.std.specs.Io.KnownBytes.{Consumes}
use Rattle.edge_board.specs.Board.{SameTest, View}
use Rattle.edge_board.proofs.RunLemmas.{leaves_weaker}
use Rattle.block_pool.specs.Pools.{free_numbers}
use Rattle.der_core.specs.Items.{HasSequence, IsSequence}
use Rattle.der_core.proofs.Sequences.{length-item, none_of_none}
use Rattle.bank_layout.specs.Changes.{LooksAs}
use Rattle.bank_layout.specs.Recovery.{Recovers, Standing, standing_of}
use Rattle.bank_layout.specs.Recovery.Holder.{module_board}
use Rattle.module_store.specs.Moments.{Stays}
use Rattle.module_store.specs.Store.{manifest_of}
use Rattle.module_store.specs.declared.store.Store.{Store}
use Rattle.load_claims.specs.Boards.{LeavesRun, Loads}
use Rattle.load_claims.proofs.Serving.{goes_further, quiet}
use Rattle.load_input.specs.Causes.{HasLoadCause}
use Rattle.item_answer.specs.Answers.{AnswersPart}
use Rattle.item_intake.specs.Causes.{excess}
use Rattle.item_intake.specs.ReadItem.{BreaksItem, IsLast as IsLastItem, ReadsItem}
use Rattle.item_intake.specs.declared.fault.LoadFault.{LoadFault}
use Rattle.item_intake.specs.declared.fault.LoadFault.TheVariants as faults
use Rattle.item_intake.specs.declared.item.Item.{Item}
use Rattle.load_item.specs.declared.turn.Turn.{Turn}
use Rattle.load_item.specs.declared.turn.Turn.TheVariants as turns
use Rattle.load_item.specs.Answers.{Answers, IsAnswerFault}
use Rattle.load_item.specs.Turns.{FailsItem, IsItem, IsLast, IsTurn, TurnsItem, turn_items, turn_refuses}
use Rattle.load_item.proofs.AnswerLemmas.{loads_nothing, part_none}
use Rattle.load_item.proofs.ReadLemmas.{last_read}

-- ---- what is buffered

last_of : (octets : List ℕ) (left : Option (List ℕ)) → IsItem octets [] left → HasSequence octets → IsSequence octets
last_of octets left (inl is) has = is
last_of octets left (inr other) has = absurd (other.1 has)

no_sequence : (octets : List ℕ) (left : Option (List ℕ)) (turn : Turn) → IsTurn octets left turn → IsLast turn
    → HasSequence octets → ⊥
no_sequence octets left turns.Accepted is last has = last
no_sequence octets left turns.Refused is last has = last
no_sequence octets left turns.Last is last has = is.1 has
no_sequence octets left turns.End is last has = none_of_none (subst HasSequence is.0 has)

some_octet : (octets : List ℕ) (left : Option (List ℕ)) (turn : Turn) → IsTurn octets left turn → ¬ IsLast turn
    → 0 < length octets
some_octet octets left turns.Accepted is goes = omega (arith, length-item octets is)
some_octet octets left turns.Refused is goes = omega (arith, length-item octets is)
some_octet octets left turns.Last is goes = absurd (goes tt)
some_octet octets left turns.End is goes = absurd (goes tt)

module _ {told moments : Type 0} (s : Store) (at : ℕ) (old mid : View) (left left' : Option (List ℕ)) (passed passed' : ℕ)
    (buffered : List ℕ) (whole : moments → told) (stays : told → Stays s old mid) (silent : SameTest old.sent mid.sent) where
  abbrev Start : Standing
  Start = standing_of s.module (manifest_of s) old.cells

  -- while it is read no item has begun
  reading : moments → (others : List (List ℕ)) → LeavesRun s.module at Start others old mid
  reading t others = quiet s.module at Start others old mid
      (leaves_weaker old mid (λ image sent. LooksAs old.cells image s.module s.running (manifest_of s) × old.sent sent)
      (λ image sent. Recovers image (module_board s.module Start) × old.sent sent) (stays (whole t)).moments
      (λ image sent x. ((s.running, manifest_of s, x.0.0, sym x.0.1), x.1)))

  -- the item wasn't read to its end
  pub broken : s.module.capacity ≤ length (free_numbers s.pool) → (fault : LoadFault)
      → BreaksItem moments s.pool old.erased mid left left' passed passed' fault
      → FailsItem told moments s.module at Start old mid left left' passed passed' buffered fault
  broken free fault b = record {
    octets = b.octets;
    beyond = b.beyond;
    text = b.text;
    passed_is = b.passed_is;
    excess = b.excess;
    last = b.last;
    goes_on = b.goes_on;
    items = [];
    are = inl refl;
    nothing = λ tells not. loads_nothing s.module at Start old mid silent
        (s.running, manifest_of s, (stays tells).now.0, sym (stays tells).now.1);
    partly = λ tells. part_none s.module at Start [] old mid silent;
    leaves = reading;
    later = b.most.later;
    most = omega (arith, b.most.most);
    least = λ t is place size cut kept fits. b.least is t place size cut kept (omega (arith, fits, free));
  }

  -- the item was read, and then answered
  module _ (now : List Bool) (item : Item) (r : ReadsItem told s.pool now old.erased mid left left' passed passed' item)
      (ended : IsLastItem item → buffered ≡ []) (new : View) (end : Standing) where
    -- where it has no whole SEQUENCE nothing is buffered
    behind : (HasSequence r.octets → ⊥) → buffered ≡ []
    behind none = ended (last_read told s.pool now mid left' r.octets item r.is none)

    is_item : IsItem r.octets [] left' → IsItem r.octets buffered left'
    is_item (inl is) = inl is
    is_item (inr other) = inr (other.0, other.1, behind other.1, other.3)

    since : told → (begin to : Standing) (items : List (List ℕ)) (refused : Bool) → begin ≡ Start
        → Loads s.module at begin to items refused mid new → Loads s.module at Start to items refused old new
    since tells begin to items refused is l =
        let one : Loads s.module at Start to items refused mid new =
        subst (λ (x : Standing). Loads s.module at x to items refused mid new) is l in
        record {
          verdicts = one.verdicts;
          judged = one.judged;
          all = one.all;
          refused_is = one.refused_is;
          end_is = one.end_is;
          sent = λ p h. one.sent p (silent.forth p h);
          found = one.found;
        }

    run : moments → (items : List (List ℕ)) → LeavesRun s.module at (standing_of s.module (manifest_of s) mid.cells) items mid new
        → LeavesRun s.module at Start items old new
    run t items leaves = goes_further s.module at Start items old mid new (reading t items) silent
        (subst (λ (x : Standing). LeavesRun s.module at x items mid new) (stays (whole t)).now.1 leaves)

    pub turned : (q : Result Turn LoadFault)
        → Answers told moments s.module at (standing_of s.module (manifest_of s) mid.cells) end r.octets left' mid new q
        → IfOk q (TurnsItem told moments s.module at Start end old new left left' passed passed')
    turned (Err fault) a = tt
    turned (Ok turn) a = record {
      octets = r.octets;
      text = r.text;
      passed_is = r.passed_is;
      is = a.is;
      loads = λ tells. since tells (standing_of s.module (manifest_of s) mid.cells) end (turn_items r.octets turn)
          (turn_refuses turn) (stays tells).now.1 (a.loads tells);
      leaves = λ t others. run t (turn_items r.octets turn ++ others) (a.leaves t others);
      later = omega (arith, r.erased_is.later, a.later);
      most = omega (arith, r.erased_is.most, a.few);
    }

    pub failed : (q : Result Turn LoadFault)
        → Answers told moments s.module at (standing_of s.module (manifest_of s) mid.cells) end r.octets left' mid new q
        → IfErr q (FailsItem told moments s.module at Start old new left left' passed passed' buffered)
    failed (Ok turn) a = tt
    failed (Err fault) a = record {
      octets = r.octets;
      beyond = [];
      text = subst (λ (l : List ℕ). Consumes left left' l) (sym (append-nil r.octets)) r.text;
      passed_is = r.passed_is;
      excess = inr ((λ e. subst IsAnswerFault e a.fault), refl);
      last = last_of r.octets left' a.item_is;
      goes_on = λ e has. ⊎_elim (λ is. subst IsAnswerFault is a.fault) (λ is. subst IsAnswerFault is a.fault) e;
      items = r.octets ∷ [];
      are = inr (refl, is_item a.item_is);
      nothing = λ tells not.
          let none : Loads s.module at Start Start [] false mid new =
          subst (λ (x : Standing). Loads s.module at x x [] false mid new) (stays tells).now.1 (a.nothing tells not) in
          since tells Start Start [] false refl none;
      partly = λ tells.
          let part : AnswersPart s.module at Start (r.octets ∷ []) mid new =
          subst (λ (x : Standing). AnswersPart s.module at x (r.octets ∷ []) mid new) (stays tells).now.1 (a.partly tells) in
          record {
            verdicts = part.verdicts;
            judged = part.judged;
            sent = (part.sent.0, part.sent.1, λ p h. part.sent.2 p (silent.forth p h));
          };
      leaves = λ t others. run t (r.octets ∷ others) (a.leaves t others);
      later = omega (arith, r.erased_is.later, a.later);
      most = omega (arith, r.erased_is.most, a.most);
      least = λ t e. absurd (subst IsAnswerFault e a.fault);
    }

    pub emptied : (q : Result Turn LoadFault)
        → Answers told moments s.module at (standing_of s.module (manifest_of s) mid.cells) end r.octets left' mid new q
        → IfOk q (λ turn. IsLast turn → buffered ≡ [])
    emptied (Err fault) a = tt
    emptied (Ok turn) a = λ last. behind (no_sequence r.octets left' turn a.is last)

    pub grown : (q : Result Turn LoadFault)
        → Answers told moments s.module at (standing_of s.module (manifest_of s) mid.cells) end r.octets left' mid new q
        → IfOk q (λ turn. ¬ (IsLast turn) → passed < passed')
    grown (Err fault) a = tt
    grown (Ok turn) a = λ goes. omega (arith, r.passed_is, some_octet r.octets left' turn a.is goes)

-- what the exit of a `?` returns
pub err_is : {T : Type 0} (P : LoadFault → Type 0) (q : Result T LoadFault) (fault : LoadFault)
    → IsErrAnd q (λ e. e ≡ fault) → P fault → IfErr q P
err_is P (Ok x) fault is p = absurd is
err_is P (Err e) fault is p = subst P (sym is) p

-- ---- causes

not_err : {T E : Type 0} (x : T) (e : E) → IsErrOf {T = T} {E = E} (Ok x) e → ⊥
not_err {T} {E} x e is = subst (λ (r : Result T E). OnOk r ⊥) (sym is) tt

pub device_then : {T U : Type 0} (a b c : ℕ) (x : T) (q : Result U LoadFault)
    → HasLoadCause {T = T} faults.Device a b (Ok x) → HasLoadCause faults.Device b c q → HasLoadCause faults.Device a c q
device_then {T} {U} a b c x q first second =
    subst (λ (n : ℕ). HasLoadCause faults.Device n c q) (first.calm (not_err x faults.Device)) second

pub answer_fault : (q : Result Turn LoadFault) (e : LoadFault) → IfErr q IsAnswerFault → IsErrOf q e → IsAnswerFault e
answer_fault q e f is = subst (λ (x : Result Turn LoadFault). IfErr x IsAnswerFault) is f

pub source_then : {T : Type 0} (a b : ℕ) (x : T) (q : Result Turn LoadFault)
    → HasLoadCause {T = T} faults.Source a b (Ok x) → IfErr q IsAnswerFault → HasLoadCause faults.Source a b q
source_then a b x q first f = record {
  later = first.later;
  calm = λ not. first.calm (not_err x faults.Source);
  failed = λ is. absurd (answer_fault q faults.Source f is);
}

pub counted_then : (q : Result Turn LoadFault) (P : ℕ → Type 0) → IfErr q IsAnswerFault → P 0
    → MatchResult q (λ turn. P 0) (λ fault. P (excess fault))
counted_then (Ok x) P f p = p
counted_then (Err faults.Device) P f p = p
counted_then (Err faults.Memory) P f p = p
counted_then (Err faults.Source) P f p = absurd f
counted_then (Err faults.TooLong) P f p = absurd f
