-- Sets are judged one after the other.
use Rattle.std.proofs.Common.{◌≡◌, ℕ, List, [], ◌∷◌, ◌++◌, Bool, false, true, not, ◌||◌, length, Result, Ok, Err, refl}
use Rattle.std.proofs.Common.{sym, ap, subst, ◌∙◌, append_assoc, arith}
use Rattle.std.specs.Prelude.{IfOk, if◌then◌else◌, ◌==◌}
use Rattle.std.specs.declared.alloc.AllocError.{AllocError}
use Rattle.std.specs.List.{AllByRecursion, flat_map, list_any}
use Rattle.std.proofs.lemmas.List.{append-nil}
use Rattle.std.proofs.lemmas.List.Folds.{list_any-append}
use Rattle.std.proofs.lemmas.Grind.{flat_map-append}
use Rattle.config_table.specs.State.{State, empty_state}
use Rattle.config_table.specs.Stored.{Stored}
use Rattle.der_core.specs.Element.{enc, IsElement, HasTagged}
use Rattle.fwload_top.specs.declared.rehearsal.Rehearsal.{Rehearsal}
use Rattle.package_rules.specs.Module.{Module}
use Rattle.report_text.specs.Lines.{rehearsal_head, refused_line}
use Rattle.judge_core.specs.Rehearsal.{Verdict, after}
use Rattle.judge_core.specs.Rehearsal.Verdict.{refused}
use Rattle.fwload_top.specs.Verdicts.{Judges, JudgesAll, after_all, is_refused}
use Rattle.fwload_top.specs.Rehearse.{Rehearses, answer_status, rehearsal_module, rest_line, verdict_line}
use Rattle.fwload_top.specs.Rehearse.{installed_lines}
use Rattle.fwload_top.proofs.AnswersOnceLemmas.{HasLine}
use Rattle.fwload_top.specs.Rehearsal.{Follows, JudgesOne, JudgesFront}

or_assoc : (x y z : Bool) → (x || (y || z)) ≡ ((x || y) || z)
or_assoc true y z = refl
or_assoc false y z = refl

or_false : (x : Bool) → (x || false) ≡ x
or_false true = refl
or_false false = refl

-- one verdict more
after_more : (state : State Stored) (vs : List Verdict) (v : Verdict)
    → after_all state (vs ++ v ∷ []) ≡ after (after_all state vs) v
after_more state [] v = refl
after_more state (w ∷ vs) v = after_more (after state w) vs v

-- one set more, judged over what is left by those before
judges_more : (m : Module) (state : State Stored) (sets : List (List ℕ)) (vs : List Verdict) (set : List ℕ)
    (v : Verdict)
    → JudgesAll m state sets vs → Judges m (after_all state vs) set v
    → JudgesAll m state (sets ++ set ∷ []) (vs ++ v ∷ [])
judges_more m state [] [] set v all one = (one, tt)
judges_more m state [] (w ∷ vs) set v all one = absurd all
judges_more m state (first ∷ sets) [] set v all one = absurd all
judges_more m state (first ∷ sets) (w ∷ vs) set v all one =
    (all.0, judges_more m (after state w) sets vs set v all.1 one)

each_more : (P : List ℕ → Type 0) (sets : List (List ℕ)) (set : List ℕ) → AllByRecursion P sets → P set
    → AllByRecursion P (sets ++ set ∷ [])
each_more P [] set all one = (one, tt)
each_more P (first ∷ sets) set all one = (all.0, each_more P sets set all.1 one)

-- before any set
pub judged_none : (m : Module) (begun : Rehearsal) (octets : List ℕ) → JudgesFront m begun octets octets begun
judged_none m begun octets = record {
  sets = [];
  verdicts = [];
  text = refl;
  each = tt;
  judged = tt;
  state = refl;
  lines = sym (append-nil begun.lines.items);
  refuses = sym (or_false begun.refuses);
}

-- one set more stands at the front of the rest
pub judged_more : (m : Module) (begun so_far next : Rehearsal) (octets before rest contents : List ℕ)
    → JudgesFront m begun octets before so_far
    → IsElement 0x31 contents → before ≡ enc 0x31 contents ++ rest → JudgesOne m so_far contents next
    → JudgesFront m begun octets rest next
judged_more m begun so_far next octets before rest contents done element is one =
    let v = one.0 in
    record {
      sets = done.sets ++ contents ∷ [];
      verdicts = done.verdicts ++ v ∷ [];
      text = done.text ∙ ap (λ (bs : List ℕ). flat_map (enc 0x31) done.sets ++ bs) is
          ∙ sym (append_assoc (flat_map (enc 0x31) done.sets) (enc 0x31 contents) rest)
          ∙ ap (λ (bs : List ℕ). bs ++ rest)
          (sym (flat_map-append (enc 0x31) done.sets (contents ∷ [])
          ∙ ap (λ (bs : List ℕ). flat_map (enc 0x31) done.sets ++ bs) (append-nil (enc 0x31 contents))));
      each = each_more (IsElement 0x31) done.sets contents done.each element;
      judged = judges_more m begun.state done.sets done.verdicts contents v done.judged
          (subst (λ (s : State Stored). Judges m s contents v) done.state one.1);
      state = one.2.state ∙ ap (λ (s : State Stored). after s v) done.state
          ∙ sym (after_more begun.state done.verdicts v);
      lines = one.2.lines ∙ ap (λ (bs : List ℕ). bs ++ verdict_line v) done.lines
          ∙ append_assoc begun.lines.items (flat_map verdict_line done.verdicts) (verdict_line v)
          ∙ ap (λ (bs : List ℕ). begun.lines.items ++ bs)
          (sym (flat_map-append verdict_line done.verdicts (v ∷ [])
          ∙ ap (λ (bs : List ℕ). flat_map verdict_line done.verdicts ++ bs) (append-nil (verdict_line v))));
      refuses = one.2.refuses ∙ ap (λ (b : Bool). b || is_refused v) done.refuses
          ∙ sym (or_assoc begun.refuses (list_any is_refused done.verdicts) (is_refused v))
          ∙ ap (λ (b : Bool). begun.refuses || b)
          (sym (list_any-append is_refused done.verdicts (v ∷ [])
          ∙ ap (λ (b : Bool). list_any is_refused done.verdicts || b) (or_false (is_refused v))));
    }

-- a rest was refused, and what is installed was printed
pub refused_and_printed : (rest : Bool) (before next done : Rehearsal) (number : ℕ) (out : List ℕ) → rest ≡ true
    → number ≡ 1 → Follows before (refused number) next → done ≡ next
    → out ≡ done.lines.items ++ installed_lines done.state
    → out ≡ before.lines.items ++ ((if rest then refused_line 1 else []) ++ installed_lines before.state)
refused_and_printed rest before next done number out is one follows same printed =
    printed
    ∙ ap (λ (r : Rehearsal). r.lines.items ++ installed_lines r.state) same
    ∙ ap (λ (bs : List ℕ). bs ++ installed_lines next.state) follows.lines
    ∙ ap (λ (s : State Stored). (before.lines.items ++ refused_line number) ++ installed_lines s) follows.state
    ∙ ap (λ (n : ℕ). (before.lines.items ++ refused_line n) ++ installed_lines before.state) one
    ∙ append_assoc before.lines.items (refused_line 1) (installed_lines before.state)
    ∙ ap (λ (b : Bool). before.lines.items ++ ((if b then refused_line 1 else []) ++ installed_lines before.state))
    (sym is)

-- what is installed was printed
pub printed_alone : (rest : Bool) (before done : Rehearsal) (out : List ℕ) → rest ≡ false → done ≡ before
    → out ≡ done.lines.items ++ installed_lines done.state
    → out ≡ before.lines.items ++ ((if rest then refused_line 1 else []) ++ installed_lines before.state)
printed_alone rest before done out is same printed =
    printed
    ∙ ap (λ (r : Rehearsal). r.lines.items ++ installed_lines r.state) same
    ∙ ap (λ (b : Bool). before.lines.items ++ ((if b then refused_line 1 else []) ++ installed_lines before.state))
    (sym is)

rest_is : (rest : List ℕ) (left : Bool) → left ≡ not (length rest == 0)
    → (if left then refused_line 1 else []) ≡ rest_line rest
rest_is [] left is = ap (λ (b : Bool). if b then refused_line 1 else []) is
rest_is (octet ∷ octets) left is = ap (λ (b : Bool). if b then refused_line 1 else []) (is ∙ ap not some)
  where
    some : (length (octet ∷ octets) == 0) ≡ false
    some = grind arith

-- the rehearsal of the whole input
pub rehearsed : (at : ℕ) (input rest : List ℕ) (m : Module) (begun judged : Rehearsal) (left : Bool)
    (result : Result Rehearsal AllocError)
    → begun.state ≡ empty_state → begun.lines.items ≡ rehearsal_head at → begun.refuses ≡ false → m ≡ rehearsal_module
    → JudgesFront m begun input rest judged
    → (HasTagged 0x31 rest → ⊥) → left ≡ not (length rest == 0)
    → IfOk result (λ done. done.lines.items ≡ judged.lines.items
    ++ ((if left then refused_line 1 else []) ++ installed_lines judged.state))
    → IfOk result (λ done. done.refuses ≡ (judged.refuses || left))
    → IfOk result (λ done. Rehearses at done.refuses input done.lines.items)
rehearsed at input rest m begun judged left (Err e) state lines refuses is front ends last printed known = tt
rehearsed at input rest m begun judged left (Ok done) state lines refuses is front ends last printed known =
    let vs = front.verdicts in
    record {
      sets = front.sets;
      rest = rest;
      verdicts = vs;
      parts = record { text = front.text; each = front.each; ends = ends };
      judged = subst (λ (m : Module). JudgesAll m empty_state front.sets vs) is
          (subst (λ (s : State Stored). JudgesAll m s front.sets vs) state front.judged);
      known = known ∙ ap (λ (b : Bool). b || left)
          (front.refuses ∙ ap (λ (b : Bool). b || list_any is_refused vs) refuses)
          ∙ ap (λ (b : Bool). list_any is_refused vs || b) last;
      lines = printed
          ∙ ap (λ (bs : List ℕ). bs ++ ((if left then refused_line 1 else []) ++ installed_lines judged.state))
          (front.lines ∙ ap (λ (bs : List ℕ). bs ++ flat_map verdict_line vs) lines)
          ∙ append_assoc (rehearsal_head at) (flat_map verdict_line vs)
          ((if left then refused_line 1 else []) ++ installed_lines judged.state)
          ∙ ap (λ (bs : List ℕ). rehearsal_head at
          ++ (flat_map verdict_line vs ++ (bs ++ installed_lines judged.state))) (rest_is rest left last)
          ∙ ap (λ (s : State Stored). rehearsal_head at
          ++ (flat_map verdict_line vs ++ (rest_line rest ++ installed_lines s)))
          (front.state ∙ ap (λ (s : State Stored). after_all s vs) state);
    }

-- the status with which a rehearsal is answered
pub has_line : (refuses : Bool) → HasLine (answer_status refuses)
has_line false = tt
has_line true = tt
