-- A whole run: the board is opened, and the items of the source are answered.
use Rattle.std.proofs.Common.{◌≡◌, ◌⊎◌, ⊎_elim, inl, inr, ℕ, ◌+◌, ◌*◌, ◌-◌, ◌<◌, ◌≤◌, ◌^◌, ◌↔◌, List, [], ◌∷◌, ◌++◌, Bool, true, false, length, take, refl, sym, ◌∙◌, ap, subst, arith, append_assoc, append-nil, length-append, Option, Some, None, IfSome, IsSomeAnd, sum_by, flat_map}
use Rattle.std.proofs.lemmas.Grind.{flat_map-append}
use Rattle.std.proofs.lemmas.List.Sums.{sum_by-append}
use Rattle.std.proofs.Math.Seq.{take-append-add}
use Rattle.std.specs.Io.KnownBytes.{Consumes, IsAtEnd, prepend_known}
use Rattle.edge_board.specs.Board.{View, IsHonest, IsSettled, SameTest}
use Rattle.edge_board.specs.Causes.{Rose}
use Rattle.edge_board.specs.Supply.{Supply}
use Rattle.der_core.specs.Items.{HasSequence, IsItems, Splits}
use Rattle.der_core.proofs.Sequences.{declares_once}
use Rattle.der_core.proofs.Streams.{items_once}
use Rattle.der_core.proofs.Splits.{all_first, item_first, first_has, front_splits}
use Rattle.package_attrs.specs.Image.{blocks_for}
use Rattle.module_record.specs.declared.module.Module.{Module}
use Rattle.bank_layout.specs.declared.bank.Bank.{Bank}
use Rattle.bank_layout.specs.Manifest.{Manifest}
use Rattle.bank_layout.specs.Recovery.{Standing, Recovers, HoldsModule, standing_of}
use Rattle.bank_layout.specs.Recovery.Holder.{module_board}
use Rattle.judge_core.specs.Conditions.{most_contents}
use Rattle.judge_core.specs.Verdicts.{Verdict}
use Rattle.load_claims.specs.Items.{Judged, after}
use Rattle.load_claims.specs.Boards.{Loads, LeavesRun, CutsKeep}
use Rattle.load_claims.proofs.Serving.{goes_further, cuts_keep}
use Rattle.load_claims.proofs.Steps.{opens as opening}
use Rattle.item_intake.specs.Causes.{excess}
use Rattle.item_intake.specs.declared.fault.LoadFault.{LoadFault}
use Rattle.item_intake.specs.declared.fault.LoadFault.TheVariants as faults
use Rattle.item_answer.specs.Answers.{AnswersPart}
use Rattle.loader_core.specs.declared.loading.Ending.{Ending}
use Rattle.loader_core.specs.declared.loading.Ending.TheVariants as endings
use Rattle.loader_core.specs.Endings.{fault_ending, full_ending}
use Rattle.loader_core.specs.Loops.{RunsItems, BreaksRun}
use Rattle.loader_core.specs.Loading.{LoadSeen, LoadRuns, AnsweredAll, AnsweredFirst, AnsweredPart, AnsweredWhole, LoadCauses, EndsAs, HasNoModule, StoresAsItComes, LoadReady, LoadUndisturbed, IsComplete, load_limit, load_seen, most_erased}
use Rattle.loader_core.proofs.Turning.{each_then}
use Rattle.loader_core.proofs.Faults.{not_none, source_of, device_of, long_of, is_long, excess_none, excess_is, excess_few}
use Rattle.loader_core.proofs.Opening.{Opened}

-- ---- lists

first_of : (xs ys : List (List ℕ)) → take (length xs) (xs ++ ys) ≡ xs
first_of [] ys = refl
first_of (x ∷ xs) ys = ap (λ (l : List (List ℕ)). x ∷ l) (first_of xs ys)

front_nil : (xs ys : List ℕ) → xs ++ ys ≡ [] → xs ≡ []
front_nil [] ys e = refl
front_nil (x ∷ xs) ys e = absurd (omega (arith, ap length e))

tail_nil : (xs ys : List ℕ) → xs ++ ys ≡ [] → ys ≡ []
tail_nil [] ys e = e
tail_nil (x ∷ xs) ys e = absurd (omega (arith, ap length e))

judged_more : (m : Module) (at : ℕ) (now : Standing) (items rest : List (List ℕ)) (verdicts : List Verdict) → Judged m at now items verdicts
    → Judged m at now (items ++ rest) verdicts
judged_more m at now items rest [] judged = tt
judged_more m at now [] rest (v ∷ verdicts) judged = absurd judged
judged_more m at now (item ∷ items) rest (v ∷ verdicts) judged = (judged.0, judged_more m at (after now v) items rest verdicts judged.1)

-- ---- what was taken

abbrev Parts : Option (List ℕ) → Option (List ℕ) → List ℕ → List ℕ → List ℕ → List ℕ → Type 0
Parts left0 left2 octets buf input rest =
    IfSome left0 (λ l. l ≡ input) × IfSome left0 (λ l. IsSomeAnd left2 (λ now. now ≡ rest)) × (input ≡ (octets ++ buf) ++ rest)
    × (IsAtEnd (prepend_known buf left2) → (rest ≡ []) × IsAtEnd left2)

parts_of : (left0 left2 : Option (List ℕ)) (octets buf : List ℕ) → Consumes (prepend_known [] left0) (prepend_known buf left2) octets
    → (input : List ℕ) × (rest : List ℕ) × Parts left0 left2 octets buf input rest
parts_of None left2 octets buf text = (octets ++ buf, [], (tt, tt, sym (append-nil (octets ++ buf)), λ e. (refl, at_end left2 e)))
  where
    at_end : (left : Option (List ℕ)) → IsAtEnd (prepend_known buf left) → IsAtEnd left
    at_end None e = tt
    at_end (Some ys) e = tail_nil buf ys e
parts_of (Some xs) None octets buf text = absurd text
parts_of (Some xs) (Some ys) octets buf text =
    (xs, ys, (refl, refl, text ∙ sym (append_assoc octets buf ys), λ e. (tail_nil buf ys e, tail_nil buf ys e)))

-- ---- runs

loads_from : (m : Module) (at : ℕ) (start end : Standing) (items : List (List ℕ)) (refused : Bool) (v0 v1 v2 : View) → SameTest v0.sent v1.sent
    → Loads m at start end items refused v1 v2 → Loads m at start end items refused v0 v2
loads_from m at start end items refused v0 v1 v2 silent l = record {
  verdicts = l.verdicts;
  judged = l.judged;
  all = l.all;
  refused_is = l.refused_is;
  end_is = l.end_is;
  sent = λ p h. l.sent p (silent.forth p h);
  found = l.found;
}

module _ {told moments : Type 0} (at : ℕ) (v0 v1 v2 : View) (s0 s2 : Supply) (passed : ℕ) (buf : List ℕ)
    (honest0 : IsHonest told moments v0) (o : Opened told v0 v1) (same_faults : v1.faults ≡ v0.faults) (size : v2.blocks ≡ v1.blocks)
    (within : passed + length buf ≤ 2 ^ 32)
    (m0 : Module) (start0 : Standing)
    (same : told → (m : Module) (start : Standing) → Recovers v0.cells (module_board m start) → (m0 ≡ m) × (start0 ≡ start))
    (held : told → HasNoModule v0.cells → ⊥) where
  leaves_from : told → IsSettled v0 → (m : Module) (start : Standing) (items : List (List ℕ)) → Recovers v0.cells (module_board m start)
      → LeavesRun m0 at start0 items v1 v2 → CutsKeep m at start items v0 v2
  leaves_from tells settled m start items found leaves =
      let is = same tells m start found in
      cuts_keep m at start items v0 v2
      (goes_further m at start items v0 v1 v2 (opening v0 v1 m at start items found (o.images tells settled)) o.silent
      (subst (λ (x : Module). LeavesRun x at start items v1 v2) is.0 (subst (λ (x : Standing). LeavesRun m0 at x items v1 v2) is.1 leaves)))

  -- the same answers, from what the board recovered to
  loads_at : told → (m : Module) (start end : Standing) (items : List (List ℕ)) (refused : Bool) → Recovers v0.cells (module_board m start)
      → Loads m0 at start0 end items refused v1 v2 → Loads m at start end items refused v0 v2
  loads_at tells m start end items refused found l =
      let is = same tells m start found in
      loads_from m at start end items refused v0 v1 v2 o.silent
      (subst (λ (x : Module). Loads x at start end items refused v1 v2) is.0 (subst (λ (x : Standing). Loads m0 at x end items refused v1 v2) is.1 l))

  -- all items were answered
  module _ (refused : Bool) (e : Ending) (r : RunsItems told moments m0 at start0 v1 v2 (prepend_known [] s0.left) (prepend_known buf s2.left) 0 passed refused)
      (empty : buf ≡ []) (counted : s2.taken < 2 ^ 64 - 1 → s2.taken ≡ s0.taken + passed)
      (source : s2.faults ≡ s0.faults) (device : v2.faults ≡ v1.faults) (settled2 : told → IsSettled v2)
      (not_none : e ≡ endings.NotAModule → ⊥) (not_source : e ≡ endings.SourceFault → ⊥) (not_device : e ≡ endings.DeviceFault → ⊥) (not_long : e ≡ endings.InputTooLong → ⊥)
      (ends : (m : Module) (start : Standing) (items : List (List ℕ)) (taken rest : List ℕ) → AnsweredAll refused m at start items rest (load_seen told moments e s0 s2 v0 v2)
      → EndsAs e m at start items taken rest (load_seen told moments e s0 s2 v0 v2)) where
    parts : (input : List ℕ) × (rest : List ℕ) × Parts s0.left s2.left r.octets buf input rest
    parts = parts_of s0.left s2.left r.octets buf r.text

    none_left : (parts.1 ≡ []) × IsAtEnd s2.left
    none_left = parts.2.3 r.at_end

    taken_is : r.octets ++ buf ≡ r.octets
    taken_is = ap (λ (l : List ℕ). r.octets ++ l) empty ∙ append-nil r.octets

    input_is : parts.0 ≡ r.octets
    input_is = parts.2.2 ∙ ap (λ (l : List ℕ). (r.octets ++ buf) ++ l) none_left.0 ∙ append-nil (r.octets ++ buf) ∙ taken_is

    items_are : (octets : List ℕ) (items : List (List ℕ)) → octets ≡ r.octets → IsItems octets items → r.items ≡ items
    items_are octets items same_octets is = items_once r.octets r.items items r.items_are (subst (λ (l : List ℕ). IsItems l items) same_octets is)

    pub ran : LoadRuns at (load_seen told moments e s0 s2 v0 v2)
    ran = record {
      causes = record {
        source_count = omega (arith, source);
        device_count = omega (arith, device, same_faults);
        source_fault = λ x. absurd (not_source x);
        device_fault = λ x. absurd (not_device x);
        source_calm = λ x. source;
        device_calm = λ x. device ∙ same_faults;
        too_long = λ small. (λ x. absurd (not_long x), λ lt. absurd (omega (arith, lt, counted small, within)));
        most = λ small. omega (arith, counted small, within);
        silent = λ x. absurd (not_none x);
      };
      blocks = size ∙ o.blocks;
      input = parts.0;
      taken = r.octets ++ buf;
      rest = parts.1;
      takes = record {
        told = parts.2.0;
        untaken = parts.2.1;
        parts = parts.2.2;
        count = λ small. omega (arith, counted small, r.passed_is, ap length taken_is);
      };
      too_much = λ x. absurd (not_long x);
      no_module = λ tells x. absurd (not_none x);
      ends = λ tells m start found items is.
          ends m start items (r.octets ++ buf) parts.1 (record {
            none_left = none_left.0;
            at_end = none_left.1;
            settled = settled2 tells;
            end = r.end;
            loads = loads_at tells m start r.end items refused found
                (subst (λ (x : List (List ℕ)). Loads m0 at start0 r.end x refused v1 v2) (items_are parts.0 items input_is is) (r.loads tells));
          });
      untouched = λ tells no. absurd (held tells no);
      moments = λ t settled m start found items is.
          leaves_from (honest0.whole t) settled m start items found
          (subst (λ (x : List (List ℕ)). LeavesRun m0 at start0 x v1 v2) (items_are parts.0 items input_is is) (r.leaves t));
      only_image = λ t settled no. absurd (held (honest0.whole t) no);
      rises = omega (arith, o.erased, r.later);
      erased = λ t items is. omega (arith, o.erased, r.most, ap (sum_by most_erased) (items_are (r.octets ++ buf) items taken_is is));
      stores = λ t x m start found. absurd (not_source x);
    }

  -- a turn failed
  module _ (f : LoadFault) (r : BreaksRun told moments m0 at start0 v1 v2 (prepend_known [] s0.left) (prepend_known buf s2.left) 0 passed buf f)
      (dry : f ≡ faults.Source → buf ≡ []) (whole : f ≡ faults.TooLong → (passed ≡ 2 ^ 32) × (buf ≡ []))
      (counted : s2.taken < 2 ^ 64 - 1 → s2.taken ≡ s0.taken + (passed + length buf) + excess f)
      (source_later : s0.faults ≤ s2.faults) (source_calm : ¬ (f ≡ faults.Source) → s2.faults ≡ s0.faults) (source_failed : f ≡ faults.Source → Rose s0.faults s2.faults)
      (device_later : v1.faults ≤ v2.faults) (device_calm : ¬ (f ≡ faults.Device) → v2.faults ≡ v1.faults) (device_failed : f ≡ faults.Device → Rose v1.faults v2.faults) where
    got : (input : List ℕ) × (rest : List ℕ) × Parts s0.left s2.left (r.octets ++ r.beyond) buf input rest
    got = parts_of s0.left s2.left (r.octets ++ r.beyond) buf r.text

    taken_parts : (r.octets ++ r.beyond) ++ buf ≡ (flat_map (λ item. item) r.ended ++ r.so_far) ++ (r.beyond ++ buf)
    taken_parts = ap (λ (l : List ℕ). (l ++ r.beyond) ++ buf) r.whole
        ∙ append_assoc (flat_map (λ item. item) r.ended ++ r.so_far) r.beyond buf

    input_parts : got.0 ≡ (flat_map (λ item. item) r.ended ++ r.so_far) ++ ((r.beyond ++ buf) ++ got.1)
    input_parts = got.2.2 ∙ ap (λ (l : List ℕ). l ++ got.1) taken_parts
        ∙ append_assoc (flat_map (λ item. item) r.ended ++ r.so_far) (r.beyond ++ buf) got.1

    -- behind the items that have ended
    others_of : (more octets : List ℕ) (items : List (List ℕ)) → octets ≡ (flat_map (λ item. item) r.ended ++ r.so_far) ++ more → IsItems octets items
        → (others : List (List ℕ)) × (items ≡ r.ended ++ others) × IsItems (r.so_far ++ more) others
    others_of more octets items parts is = all_first r.ended items (r.so_far ++ more) r.each
        (subst (λ (l : List ℕ). IsItems l items) (parts ∙ append_assoc (flat_map (λ item. item) r.ended) r.so_far more) is)

    begun_of : (more : List ℕ) (others : List (List ℕ)) → (r.beyond ++ buf ≡ [] → IsAtEnd (prepend_known buf s2.left) → more ≡ [])
        → IsItems (r.so_far ++ more) others → (rest : List (List ℕ)) × (others ≡ r.items ++ rest)
    begun_of more others ends is = ⊎_elim
        (λ none. (others, ap (λ (l : List (List ℕ)). l ++ others) (sym none)))
        (λ some.
        let first = item_first r.so_far more others (⊎_elim (λ x. inl x) (λ x. inr (x.0, x.1, ends x.2 x.3)) some.1) is in
        (first.0, first.1 ∙ ap (λ (l : List (List ℕ)). l ++ first.0) (sym some.0)))
        r.are

    at_input : r.beyond ++ buf ≡ [] → IsAtEnd (prepend_known buf s2.left) → (r.beyond ++ buf) ++ got.1 ≡ []
    at_input none ends = ap (λ (l : List ℕ). l ++ got.1) none ∙ (got.2.3 ends).0

    -- the items of the input, with those of which an answer was begun
    items_of : (items : List (List ℕ)) → IsItems got.0 items
        → (more : List (List ℕ)) × (items ≡ r.ended ++ (r.items ++ more))
    items_of items is =
        let others = others_of ((r.beyond ++ buf) ++ got.1) got.0 items input_parts is in
        let more = begun_of ((r.beyond ++ buf) ++ got.1) others.0 at_input others.2 in
        (more.0, others.1 ∙ ap (λ (l : List (List ℕ)). r.ended ++ l) more.1)

    no_tail : ¬ (f ≡ faults.TooLong) → buf ≡ [] → r.beyond ++ buf ≡ []
    no_tail not none = ⊎_elim (λ x. absurd (not x.0)) (λ x. ap (λ (l : List ℕ). l ++ buf) x.1 ∙ none) r.excess

    not_both : faults.Source ≡ faults.TooLong → ⊥
    not_both x = cc

    -- after a fault of the source, or too long an input, the whole items are those that were answered
    split_source : f ≡ faults.Source → Splits ((r.octets ++ r.beyond) ++ buf) r.ended r.so_far
    split_source is = record {
      whole = taken_parts
          ∙ ap (λ (l : List ℕ). (flat_map (λ item. item) r.ended ++ r.so_far) ++ l) (no_tail (λ x. not_both (sym is ∙ x)) (dry is))
          ∙ append-nil (flat_map (λ item. item) r.ended ++ r.so_far);
      each = r.each;
      goes_on = r.goes_on (inr is);
    }

    split_long : f ≡ faults.TooLong → Splits (take load_limit ((r.octets ++ r.beyond) ++ buf)) r.ended r.so_far
    split_long is =
        let long = whole is in
        let limit_is : 2 ^ 32 ≡ length r.octets + 0 = omega (arith, long.0, r.passed_is) in
        let limit : take (2 ^ 32) ((r.octets ++ r.beyond) ++ buf) ≡ r.octets =
        ap (λ (n : ℕ). take n ((r.octets ++ r.beyond) ++ buf)) limit_is
        ∙ ap (take (length r.octets + 0)) (append_assoc r.octets r.beyond buf)
        ∙ take-append-add r.octets (r.beyond ++ buf) 0 ∙ append-nil r.octets in
        record { whole = limit ∙ r.whole; each = r.each; goes_on = r.goes_on (inl is) }

    module _ (tells : told) (m : Module) (start : Standing) (found : Recovers v0.cells (module_board m start)) (items : List (List ℕ)) (is : IsItems got.0 items) where
      loaded : ¬ (f ≡ faults.Device) → AnsweredFirst (length r.ended) m at start items (load_seen told moments (fault_ending f) s0 s2 v0 v2)
      loaded not =
          let l = r.loads tells not in
          let all = items_of items is in
          let first : take (length r.ended) items ≡ r.ended = ap (take (length r.ended)) all.1 ∙ first_of r.ended (r.items ++ all.0) in (
            l.0,
            l.1,
            subst (λ (x : List (List ℕ)). Loads m at start l.0 x l.1 v0 v2) (sym first) (loads_at tells m start l.0 r.ended l.1 found l.2),
          )

      partly : AnsweredPart m at start items (load_seen told moments (fault_ending f) s0 s2 v0 v2)
      partly =
          let where_is = same tells m start found in
          let p0 : AnswersPart m0 at start0 (r.ended ++ r.items) v1 v2 = r.partly tells in
          let p1 : AnswersPart m at start (r.ended ++ r.items) v1 v2 =
          subst (λ (x : Module). AnswersPart x at start (r.ended ++ r.items) v1 v2) where_is.0 (subst (λ (x : Standing). AnswersPart m0 at x (r.ended ++ r.items) v1 v2) where_is.1 p0) in
          let all = items_of items is in (
            p1.verdicts,
            subst (λ (l : List (List ℕ)). Judged m at start l p1.verdicts) (append_assoc r.ended r.items all.0 ∙ sym all.1)
                (judged_more m at start (r.ended ++ r.items) all.0 p1.verdicts p1.judged),
            (p1.sent.0, p1.sent.1, λ p h. p1.sent.2 p (o.silent.forth p h)),
          )

      break_ends : (g : LoadFault) → f ≡ g → EndsAs (fault_ending g) m at start items ((r.octets ++ r.beyond) ++ buf) got.1 (load_seen told moments (fault_ending f) s0 s2 v0 v2)
      break_ends faults.Device is_g = partly
      break_ends faults.Source is_g = (r.ended, r.so_far, split_source is_g, loaded (λ x. not_either (sym is_g ∙ x)))
        where
          not_either : faults.Source ≡ faults.Device → ⊥
          not_either x = cc
      break_ends faults.TooLong is_g = (r.ended, r.so_far, split_long is_g, loaded (λ x. not_either (sym is_g ∙ x)))
        where
          not_either : faults.TooLong ≡ faults.Device → ⊥
          not_either x = cc
      break_ends faults.Memory is_g =
          let others = others_of ((r.beyond ++ buf) ++ got.1) got.0 items input_parts is in
          let s = front_splits (r.so_far ++ (r.beyond ++ buf)) got.1 others.0
          (subst (λ (l : List ℕ). IsItems l others.0) (sym (append_assoc r.so_far (r.beyond ++ buf) got.1)) others.2) in (
            r.ended ++ s.0,
            s.1,
            record {
              whole = taken_parts ∙ append_assoc (flat_map (λ item. item) r.ended) r.so_far (r.beyond ++ buf)
                  ∙ ap (λ (l : List ℕ). flat_map (λ item. item) r.ended ++ l) s.2.whole
                  ∙ sym (append_assoc (flat_map (λ item. item) r.ended) (flat_map (λ item. item) s.0) s.1)
                  ∙ ap (λ (l : List ℕ). l ++ s.1) (sym (flat_map-append (λ (item : List ℕ). item) r.ended s.0));
              each = each_then _ r.ended s.0 r.each s.2.each;
              goes_on = s.2.goes_on;
            },
            (length r.ended, omega (arith, length-append r.ended s.0), loaded (λ x. not_either (sym is_g ∙ x))),
          )
        where
          not_either : faults.Memory ≡ faults.Device → ⊥
          not_either x = cc

    -- the first of the items that are left erases as much as was erased of it
    first_erases : (others : List (List ℕ)) → IsItems (r.so_far ++ (r.beyond ++ buf)) others
        → blocks_for (length r.so_far) + 34 * length r.items ≤ sum_by most_erased others
    first_erases others is = ⊎_elim (λ none. no_answer others is none) (λ some. answer others is some.0) r.are
      where
        no_answer : (others : List (List ℕ)) → IsItems (r.so_far ++ (r.beyond ++ buf)) others → r.items ≡ []
            → blocks_for (length r.so_far) + 34 * length r.items ≤ sum_by most_erased others
        no_answer [] is none = omega (arith, ap length none, ap length (front_nil r.so_far (r.beyond ++ buf) is))
        no_answer (i ∷ is) all none =
            let sum : sum_by most_erased (i ∷ is) ≡ sum_by most_erased (i ∷ []) + sum_by most_erased is = sum_by-append most_erased (i ∷ []) is in
            let one : sum_by most_erased (i ∷ []) ≡ 34 + blocks_for (length i) = omega arith in
            omega (arith, sum, one, ap length none, (first_has r.so_far (r.beyond ++ buf) i is r.last all).2)

        answer : (others : List (List ℕ)) → IsItems (r.so_far ++ (r.beyond ++ buf)) others → r.items ≡ r.so_far ∷ []
            → blocks_for (length r.so_far) + 34 * length r.items ≤ sum_by most_erased others
        answer others is some =
            let more = begun_of (r.beyond ++ buf) others (λ none ends. none) is in
            omega (arith, ap length some, ap (sum_by most_erased) more.1, sum_by-append most_erased r.items more.0, ap (sum_by most_erased) some)

    erased_most : (items : List (List ℕ)) → IsItems ((r.octets ++ r.beyond) ++ buf) items → v2.erased ≤ v0.erased + sum_by most_erased items
    erased_most items is =
        let others = others_of (r.beyond ++ buf) ((r.octets ++ r.beyond) ++ buf) items taken_parts is in
        omega (arith, o.erased, r.most, first_erases others.0 others.2, ap (sum_by most_erased) others.1, sum_by-append most_erased r.ended others.0)

    stored : moments → f ≡ faults.Source → (m : Module) → m0 ≡ m → StoresAsItComes m ((r.octets ++ r.beyond) ++ buf) (load_seen told moments (fault_ending f) s0 s2 v0 v2)
    stored t is m is_m = (
      r.ended,
      r.so_far,
      split_source is,
      λ contents place size come begins few cut long six within blocks.
          omega (
            arith,
            o.erased,
            long,
            six,
            within,
            r.least t is place size cut
                (λ other declares. subst (λ (n : ℕ). n ≤ most_contents) (declares_once r.so_far contents other begins declares) few)
                (subst (λ (x : Module). blocks_for size ≤ x.capacity) (sym is_m) blocks),
          ),
    )

    long_exactly : s2.taken < 2 ^ 64 - 1 → (fault_ending f ≡ endings.InputTooLong) ↔ (s0.taken + load_limit < s2.taken)
    long_exactly small = (
      λ e. let is = long_of f e in omega (arith, counted small, (whole is).0, ap length (whole is).1, ap excess is),
      λ lt. ⊎_elim (λ is. ap fault_ending is) (λ not. absurd (omega (arith, lt, counted small, within, excess_none f not))) (is_long f),
    )

    taken_long : f ≡ faults.TooLong → load_limit < length ((r.octets ++ r.beyond) ++ buf)
    taken_long is =
        let one : length r.beyond ≡ 1 = ⊎_elim (λ x. x.1) (λ x. absurd (x.0 is)) r.excess in
        omega (arith, (whole is).0, r.passed_is, one, length-append (r.octets ++ r.beyond) buf, length-append r.octets r.beyond)

    pub broke : LoadRuns at (load_seen told moments (fault_ending f) s0 s2 v0 v2)
    broke = record {
      causes = record {
        source_count = source_later;
        device_count = omega (arith, device_later, same_faults);
        source_fault = λ e. source_failed (source_of f e);
        device_fault = λ e. subst (λ (n : ℕ). Rose n v2.faults) same_faults (device_failed (device_of f e));
        source_calm = λ not. source_calm (λ x. not (ap fault_ending x));
        device_calm = λ not. device_calm (λ x. not (ap fault_ending x)) ∙ same_faults;
        too_long = long_exactly;
        most = λ small. omega (arith, counted small, within, excess_few f);
        silent = λ x. absurd (not_none f x);
      };
      blocks = size ∙ o.blocks;
      input = got.0;
      taken = (r.octets ++ r.beyond) ++ buf;
      rest = got.1;
      takes = record {
        told = got.2.0;
        untaken = got.2.1;
        parts = got.2.2;
        count = λ small. omega (arith, counted small, r.passed_is, excess_is f r.beyond r.excess, length-append (r.octets ++ r.beyond) buf, length-append r.octets r.beyond);
      };
      too_much = λ e. taken_long (long_of f e);
      no_module = λ tells x. absurd (not_none f x);
      ends = λ tells m start found items is. break_ends tells m start found items is f refl;
      untouched = λ tells no. absurd (held tells no);
      moments = λ t settled m start found items is.
          let all = items_of items is in
          leaves_from (honest0.whole t) settled m start items found
          (subst (λ (x : List (List ℕ)). LeavesRun m0 at start0 x v1 v2) (sym all.1) (r.leaves t all.0));
      only_image = λ t settled no. absurd (held (honest0.whole t) no);
      rises = omega (arith, o.erased, r.later);
      erased = λ t items is. erased_most items is;
      stores = λ t e m start found. stored t (source_of f e) m (same (honest0.whole t) m start found).0;
    }

-- ---- who holds the board

abbrev pub OneHolding : Type 0
OneHolding = (image : List ℕ) (m n : Module) (first second : Option Bank) (x y : Manifest) → HoldsModule image m first x
    → HoldsModule image n second y → (m ≡ n) × (first ≡ second) × (x ≡ y)

pub same_of : OneHolding → (old new : List ℕ) (m0 : Module) (r0 : Option Bank) (x0 : Manifest) → HoldsModule old m0 r0 x0 → new ≡ old
    → (m : Module) (start : Standing) → Recovers old (module_board m start) → (m0 ≡ m) × (standing_of m0 x0 new ≡ start)
same_of law old new m0 r0 x0 holds is m start (r, x, there, start_is) =
    let e = law old m0 m r0 r x0 x holds there in (
      e.0,
      ap (standing_of m0 x0) is ∙ ap (λ (k : Module). standing_of k x0 old) e.0 ∙ ap (λ (y : Manifest). standing_of m y old) e.2 ∙ sym start_is,
    )

pub held_of : (old : List ℕ) (m0 : Module) (r0 : Option Bank) (x0 : Manifest) → HoldsModule old m0 r0 x0 → HasNoModule old → ⊥
held_of old m0 r0 x0 holds nobody = nobody m0 (standing_of m0 x0 old) (r0, x0, holds, refl)

-- ---- how it ends where all items were answered

pub record IsFull (refused : Bool) : Type 0 where
  pub none : full_ending refused ≡ endings.NotAModule → ⊥
  pub source : full_ending refused ≡ endings.SourceFault → ⊥
  pub device : full_ending refused ≡ endings.DeviceFault → ⊥
  pub long : full_ending refused ≡ endings.InputTooLong → ⊥

pub is_full : (refused : Bool) → IsFull refused
is_full true = record { none = λ x. absurd cc; source = λ x. absurd cc; device = λ x. absurd cc; long = λ x. absurd cc }
is_full false = record { none = λ x. absurd cc; source = λ x. absurd cc; device = λ x. absurd cc; long = λ x. absurd cc }

pub full_ends : (at : ℕ) (m : Module) (start : Standing) (items : List (List ℕ)) (refused : Bool) (taken rest : List ℕ) (r : LoadSeen)
    → AnsweredAll refused m at start items rest r → EndsAs (full_ending refused) m at start items taken rest r
full_ends at m start items true taken rest r all = all
full_ends at m start items false taken rest r all = all

-- ---- what brings a run to its end

input_few : (left : Option (List ℕ)) (input : List ℕ) → IfSome left (λ l. l ≡ input) → IsSomeAnd left (λ l. length l ≤ load_limit) → length input ≤ load_limit
input_few None input told few = absurd few
input_few (Some xs) input told few = omega (arith, few, ap length told)

pub complete_of : (at : ℕ) (r : LoadSeen) → LoadRuns at r → LoadReady r → LoadUndisturbed r → IsComplete r.ending
complete_of at r run ready calm = by_end r.ending refl
  where
    few : length run.input ≤ load_limit
    few = input_few r.source.left run.input run.takes.told ready.input

    by_end : (e : Ending) → r.ending ≡ e → IsComplete e
    by_end endings.Done is = tt
    by_end endings.SomeRefused is = tt
    by_end endings.NoMemory is = tt
    by_end endings.NotAModule is = run.no_module ready.tells is ready.module_is.0 ready.module_is.1 ready.module_is.2
    by_end endings.DeviceFault is = calm.device (run.causes.device_fault is)
    by_end endings.SourceFault is = calm.source (run.causes.source_fault is)
    by_end endings.InputTooLong is = omega (arith, few, run.too_much is, ap length run.takes.parts, length-append run.taken run.rest)
