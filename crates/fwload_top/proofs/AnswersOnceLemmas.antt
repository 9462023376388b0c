-- What a run leaves whose command answers once, from the calls that it makes.
use Rattle.std.proofs.Common.{◌≡◌, ◌⊎◌, ℕ, ◌+◌, ◌-◌, ◌^◌, ◌<◌, ◌≤◌, List, [], ◌++◌, length, take, Option, Some, None}
use Rattle.std.proofs.Common.{refl, sym, subst, ap, ◌∙◌, inl, inr, ⊎_elim, arith}
use Rattle.std.specs.Prelude.{IfSome, IsSomeAnd}
use Rattle.std.specs.Io.KnownBytes.{Consumes, IsAtEnd}
use Rattle.std.proofs.lemmas.List.{append-nil}
use Rattle.edge_board.specs.Supply.{Supply}
use Rattle.edge_board.specs.Causes.{Rose}
use Rattle.edge_board.specs.Board.{View, Keeps, Nowhere, SameTest, Sent, IsSettled, IsHonest}
use Rattle.edge_board.specs.Runs.{LeavesOnly, Touches}
use Rattle.edge_board.specs.Sends.{FrontSent, Sending}
use Rattle.edge_board.proofs.RunLemmas.{settled_image, same_test, same_then, started, touched_none}
use Rattle.edge_board.proofs.RunLemmas.{keeps_none, leaves_weaker, only_start}
use Rattle.edge_board.proofs.SendLemmas.{sent_none, sending_none, sending_touched, sending_then, sending_front}
use Rattle.fwload_top.specs.declared.input.InputFault.{InputFault}
use Rattle.fwload_top.specs.declared.input.InputFault.TheVariants as input_faults
use Rattle.fwload_top.specs.Input.{WasRead, WasNotRead, status_of}
use Rattle.fwload_top.specs.declared.status.Status.{Status}
use Rattle.fwload_top.specs.declared.status.Status.TheVariants.{Done, SomeRefused, Usage, NotAModule, DeviceFault}
use Rattle.fwload_top.specs.declared.status.Status.TheVariants.{SourceFault, InputTooLong, NoMemory, Refused, KeySpent}
use Rattle.fwload_top.specs.Status.{IsFinished, IsSilent}
use Rattle.fwload_top.specs.Reply.{Replies}
use Rattle.fwload_top.specs.Seen.{Seen, seen}
use Rattle.fwload_top.specs.HasCauses.{HasCauses, Undisturbed}
use Rattle.fwload_top.specs.Meaning.{Answer, Meaning, WritesNoFlash, any, says, input_limit}
use Rattle.fwload_top.specs.Meaning.Input.{read}
use Rattle.fwload_top.specs.AnswersOnce.{IsInput, ComesTo, IsRead, MayRead, Ended, Stopped, EndsWith}
use Rattle.fwload_top.specs.AnswersOnce.{IsLonger, CutInAnswer, CutLeaves, AnswersOnce, LeavesFlash, IsReady}

-- ---- the board so far

-- No call has changed anything.
pub record Quiet (tc tm : Type 0) (start mid : View) : Type 0 where
  pub blocks : mid.blocks ≡ start.blocks
  pub cells : tc → mid.cells ≡ start.cells
  pub silent : SameTest start.sent mid.sent
  pub settled : tc → IsSettled start → IsSettled mid
  pub calm : mid.faults ≡ start.faults
  pub moments : tm → IsSettled start → LeavesOnly start mid (λ image s. (image ≡ start.cells) × start.sent s)

-- no call was made
pub quiet_none : {tc tm : Type 0} (a : View) → IsHonest tc tm a → Quiet tc tm a a
quiet_none a honest = record {
  blocks = refl;
  cells = λ told. refl;
  silent = same_test a.sent;
  settled = λ told s. s;
  calm = refl;
  moments = λ told settled. started a (λ image s. (image ≡ a.cells) × a.sent s) honest
      (λ image s now. (settled_image a settled image now.0, now.1));
}

-- calls that touched nothing
pub quiet_touched : {tc tm : Type 0} (a b : View) → IsHonest tc tm a → Touches tc Nowhere a b → b.faults ≡ a.faults
    → Quiet tc tm a b
quiet_touched {tc} {tm} a b honest touches calm = record {
  blocks = touches.blocks;
  cells = touched_none a b touches;
  silent = touches.silent;
  settled = λ told settled i p. ⊎_elim (λ n. n) (settled i) (touches.pending told i p);
  calm = calm;
  moments = λ told settled. only_start a b (honest.whole told) settled touches;
}

-- Cells were written, and nothing was sent.
pub record Wrote (m : Meaning) (tc tm : Type 0) (left : Option (List ℕ)) (start mid : View) : Type 0 where
  pub blocks : mid.blocks ≡ start.blocks
  pub silent : SameTest start.sent mid.sent
  pub flash : WritesNoFlash m → tc → mid.cells ≡ start.cells
  pub count : start.faults ≤ mid.faults
  pub moments : tm → IsSettled start → LeavesOnly start mid (Sending start (CutLeaves m tc left start.cells start.blocks))

pub wrote_nothing : (m : Meaning) {tc tm : Type 0} (left : Option (List ℕ)) (start mid : View) → Quiet tc tm start mid
    → Wrote m tc tm left start mid
wrote_nothing m {tc} {tm} left start mid quiet = record {
  blocks = quiet.blocks;
  silent = quiet.silent;
  flash = λ none told. quiet.cells told;
  count = omega (arith, quiet.calm);
  moments = λ told settled.
      sending_none start mid (λ image s. (image ≡ start.cells) × start.sent s) (CutLeaves m tc left start.cells start.blocks)
      (quiet.moments told settled) (λ image s h. (h.1, inl (refl, h.0)));
}

-- calls that touched nothing, the last of which failed
pub wrote_unchanged : (m : Meaning) {tc tm : Type 0} (left : Option (List ℕ)) (start mid : View) → IsHonest tc tm start
    → Touches tc Nowhere start mid → start.faults ≤ mid.faults → Wrote m tc tm left start mid
wrote_unchanged m {tc} {tm} left start mid honest touches count = record {
  blocks = touches.blocks;
  silent = touches.silent;
  flash = λ none told. touched_none start mid touches told;
  count = count;
  moments = λ told settled.
      sending_touched start mid (CutLeaves m tc left start.cells start.blocks) (honest.whole told) settled touches
      (λ image keeps. inl (refl, keeps_none start.cells image keeps));
}

-- calls that touched no more than an answer allows before its line
pub wrote_before : (m : Meaning) {tc tm : Type 0} {free : ℕ → Type 0} (left : Option (List ℕ)) (start mid : View)
    (o : m.Outcome) → IsHonest tc tm start → ComesTo (m.answer o) tc left start.cells start.blocks → Touches tc free start mid
    → ((image : List ℕ) → Keeps free start.cells image → (m.answer o).before start.cells image)
    → start.faults ≤ mid.faults → Wrote m tc tm left start mid
wrote_before m {tc} {tm} {free} left start mid o honest comes touches allows count = record {
  blocks = touches.blocks;
  silent = touches.silent;
  flash = λ none told. (none o start.cells mid.cells).0 (allows mid.cells (touches.cells told));
  count = count;
  moments = λ told settled.
      sending_touched start mid (CutLeaves m tc left start.cells start.blocks) (honest.whole told) settled touches
      (λ image keeps. inr (o, comes, inl (refl, allows image keeps)));
}

-- An answer's line is to be sent.
pub record Poised (m : Meaning) (tc tm : Type 0) (source source' : Supply) (start mid : View) (o : m.Outcome) :
    Type 0 where
  pub wrote : Wrote m tc tm source.left start mid
  pub comes : ComesTo (m.answer o) tc source.left start.cells start.blocks
  pub read : IsRead (m.answer o).input → IsAtEnd source'.left
  pub cells : tc → (m.answer o).after start.cells mid.cells
  pub settled : tc → IsSettled start → IsSettled mid
  pub calm : mid.faults ≡ start.faults

-- an answer that leaves the cells
pub poised : (m : Meaning) {tc tm : Type 0} (source source' : Supply) (start mid : View) (o : m.Outcome)
    → Quiet tc tm start mid → ((c : List ℕ) → (m.answer o).after c c) → ComesTo (m.answer o) tc source.left start.cells start.blocks
    → (IsRead (m.answer o).input → IsAtEnd source'.left) → Poised m tc tm source source' start mid o
poised m {tc} {tm} source source' start mid o quiet stays comes at_end = record {
  wrote = wrote_nothing m source.left start mid quiet;
  comes = comes;
  read = at_end;
  cells = λ told. subst (λ (c : List ℕ). (m.answer o).after start.cells c) (sym (quiet.cells told)) (stays start.cells);
  settled = quiet.settled;
  calm = quiet.calm;
}

-- ---- the source so far

-- No read failed, and no more than the limit was taken.
pub record Supplied (m : Meaning) (tc : Type 0) (source source' : Supply) (start : View) : Type 0 where
  pub calm : source'.faults ≡ source.faults
  pub few : source'.taken < 2 ^ 64 - 1 → source'.taken ≤ source.taken + input_limit
  pub stays : MayRead m tc start ⊎ (source' ≡ source)

pub supplied_none : {m : Meaning} {tc : Type 0} (source : Supply) (start : View) → Supplied m tc source source start
supplied_none source start = record { calm = refl; few = λ below. omega arith; stays = inr refl }

pub supplied : {m : Meaning} {tc : Type 0} (source source' : Supply) (start : View) (input : List ℕ)
    → WasRead source source' input → MayRead m tc start → Supplied m tc source source' start
supplied source source' start input was may = record { calm = was.calm; few = was.few; stays = inl may }

-- what was read is what was left
input_left : (left left' : Option (List ℕ)) (input : List ℕ) → Consumes left left' input → IsAtEnd left'
    → IfSome left (λ told. told ≡ input)
input_left None left' input text end = tt
input_left (Some told) None input text end = absurd text
input_left (Some told) (Some rest) input text end =
    text ∙ ap (λ (x : List ℕ). input ++ x) end ∙ append-nil input

-- the input that was read has P
pub has_input : (source source' : Supply) (input : List ℕ) (P : List ℕ → Type 0)
    → WasRead source source' input → P input → IsInput (read P) source.left
has_input source source' input P was p =
    (input, (was.within, p), input_left source.left source'.left input was.text was.end)

-- ---- the flash of a command that writes none

pub cut_leaves_cells : (m : Meaning) {tc : Type 0} (left : Option (List ℕ)) (start : List ℕ) (count : ℕ)
    → WritesNoFlash m → (image s : List ℕ) → CutLeaves m tc left start count image s → image ≡ start
cut_leaves_cells m left start count none image s (inl h) = h.1
cut_leaves_cells m left start count none image s (inr x) =
    ⊎_elim (λ early. (none x.0 start image).0 early.1) (λ later. (none x.0 start image).1 later.0) x.2

leaves_flash : (m : Meaning) {tc tm : Type 0} (source source' : Supply) (start new : View) → WritesNoFlash m
    → (status : Status) → (tc → new.cells ≡ start.cells)
    → (tm → IsSettled start → LeavesOnly start new (Sending start (CutLeaves m tc source.left start.cells start.blocks)))
    → LeavesFlash (seen tc tm status source source' start new)
leaves_flash m {tc} source source' start new none status cells moments = record {
  cells = cells;
  only_image = λ told settled.
      leaves_weaker start new (Sending start (CutLeaves m tc source.left start.cells start.blocks)) (λ image s. image ≡ start.cells)
      (moments told settled) (λ image q h. cut_leaves_cells m source.left start.cells start.blocks none image h.1 h.4);
}

-- ---- causes

is_too_long : (fault : InputFault) → status_of fault ≡ InputTooLong → fault ≡ input_faults.TooLong
is_too_long input_faults.Failed is = cc
is_too_long input_faults.TooLong is = refl
is_too_long input_faults.Memory is = cc

is_failed : (fault : InputFault) → status_of fault ≡ SourceFault → fault ≡ input_faults.Failed
is_failed input_faults.Failed is = refl
is_failed input_faults.TooLong is = cc
is_failed input_faults.Memory is = cc

not_silent : (fault : InputFault) → IsSilent (status_of fault) → ⊥
not_silent input_faults.Failed silent = silent
not_silent input_faults.TooLong silent = silent
not_silent input_faults.Memory silent = silent

no_device : (fault : InputFault) → ¬ (status_of fault ≡ DeviceFault)
no_device input_faults.Failed is = cc
no_device input_faults.TooLong is = cc
no_device input_faults.Memory is = cc

module _ (m : Meaning) {tc tm : Type 0} (source source' : Supply) (start new : View) where
  -- the source has no part in it
  pub caused : Supplied m tc source source' start → (status : Status) → ¬ (status ≡ SourceFault)
      → ¬ (status ≡ InputTooLong) → start.faults ≤ new.faults
      → (status ≡ DeviceFault → Rose start.faults new.faults)
      → (¬ (status ≡ DeviceFault) → new.faults ≡ start.faults)
      → (IsSilent status → SameTest start.sent new.sent)
      → HasCauses input_limit (seen tc tm status source source' start new)
  caused supply status no_fault not_long count rose calm silent = record {
    silent = silent;
    device_calm = calm;
    source_count = omega (arith, supply.calm);
    source_calm = λ no. supply.calm;
    device_count = count;
    source_fault = λ is. absurd (no_fault is);
    device_fault = rose;
    too_long = λ below. (λ is. absurd (not_long is), λ more. absurd (omega (arith, supply.few below, more)));
    most = λ below. omega (arith, supply.few below);
  }

  -- the input was not read
  caused_by_source : (fault : InputFault) → WasNotRead source source' fault → new.faults ≡ start.faults
      → HasCauses input_limit (seen tc tm (status_of fault) source source' start new)
  caused_by_source fault was calm = record {
    silent = λ silent. absurd (not_silent fault silent);
    device_calm = λ no. calm;
    source_count = was.count;
    source_calm = λ no. was.calm (λ is. no (ap status_of is));
    device_count = omega (arith, calm);
    source_fault = λ is. was.failed (is_failed fault is);
    device_fault = λ is. absurd (no_device fault is);
    too_long = λ below. (
      λ is. (was.too_long below).0 (is_too_long fault is),
      λ more. ap status_of ((was.too_long below).1 more),
    );
    most = was.most;
  }

-- ---- a run's end

module _ (m : Meaning) {tc tm : Type 0} (source source' : Supply) (start mid : View) where
  -- before any answer, with nothing sent
  ended_early : (status : Status) → HasCauses input_limit (seen tc tm status source source' start mid)
      → EndsWith status m (seen tc tm status source source' start mid)
      → (MayRead m tc start ⊎ (source' ≡ source)) → Quiet tc tm start mid
      → AnswersOnce m (seen tc tm status source source' start mid)
  ended_early status causes ends stays quiet =
      let wrote = wrote_nothing m source.left start mid quiet in record {
        causes = causes;
        ends = ends;
        source = stays;
        blocks = quiet.blocks;
        flash = λ none. leaves_flash m source source' start mid none status (wrote.flash none) wrote.moments;
        settled = λ told s no. quiet.settled told s;
        moments = wrote.moments;
      }

  stopped : (status : Status) → Quiet tc tm start mid → Stopped (seen tc tm status source source' start mid)
  stopped status quiet = record { silent = quiet.silent; cells = quiet.cells }

  -- the input was not read
  pub unread_run : Quiet tc tm start mid → MayRead m tc start → (fault : InputFault)
      → WasNotRead source source' fault
      → AnswersOnce m (seen tc tm (status_of fault) source source' start mid)
  unread_run quiet may fault was = ended_early (status_of fault) (caused_by_source m source source' start mid fault was
      quiet.calm) (ends fault was) (inl may) quiet
    where
      ends : (fault : InputFault) → WasNotRead source source' fault
          → EndsWith (status_of fault) m (seen tc tm (status_of fault) source source' start mid)
      ends input_faults.Failed was = (stopped SourceFault quiet, may)
      ends input_faults.TooLong was = (stopped InputTooLong quiet, may, was.longer refl)
      ends input_faults.Memory was = stopped NoMemory quiet

  -- memory was wanting
  pub no_memory_run : Quiet tc tm start mid → Supplied m tc source source' start
      → AnswersOnce m (seen tc tm NoMemory source source' start mid)
  no_memory_run quiet supply = ended_early NoMemory
      (caused m source source' start mid supply NoMemory (λ is. cc) (λ is. cc) (omega (arith, quiet.calm)) (λ is. cc)
      (λ no. quiet.calm) (λ silent. absurd silent))
      (stopped NoMemory quiet) supply.stays quiet

  -- a call on the board failed, with nothing sent
  pub failed_run : Wrote m tc tm source.left start mid → Supplied m tc source source' start
      → Rose start.faults mid.faults → AnswersOnce m (seen tc tm DeviceFault source source' start mid)
  failed_run wrote supply rose = record {
    causes = caused m source source' start mid supply DeviceFault (λ is. cc) (λ is. cc) wrote.count (λ is. rose)
        (λ no. absurd (no refl)) (λ silent. absurd silent);
    ends = inl wrote.silent;
    source = supply.stays;
    blocks = wrote.blocks;
    flash = λ none. leaves_flash m source source' start mid none DeviceFault (wrote.flash none) wrote.moments;
    settled = λ told s no. absurd (no refl);
    moments = wrote.moments;
  }

-- an answer with this status has a line
abbrev pub HasLine : Status → Type 0
HasLine Done = Unit {0}
HasLine SomeRefused = Unit {0}
HasLine Refused = Unit {0}
HasLine NotAModule = ⊥
HasLine KeySpent = ⊥
HasLine Usage = ⊥
HasLine DeviceFault = ⊥
HasLine SourceFault = ⊥
HasLine InputTooLong = ⊥
HasLine NoMemory = ⊥

lined_is_not_silent : (status : Status) → HasLine status → IsSilent status → ⊥
lined_is_not_silent Done has silent = silent
lined_is_not_silent SomeRefused has silent = silent
lined_is_not_silent Refused has silent = silent
lined_is_not_silent NotAModule has silent = has
lined_is_not_silent KeySpent has silent = has
lined_is_not_silent Usage has silent = has
lined_is_not_silent DeviceFault has silent = has
lined_is_not_silent SourceFault has silent = has
lined_is_not_silent InputTooLong has silent = has
lined_is_not_silent NoMemory has silent = has

-- an answer may have this status
abbrev pub IsAnswered : Status → Type 0
IsAnswered Done = Unit {0}
IsAnswered SomeRefused = Unit {0}
IsAnswered Refused = Unit {0}
IsAnswered NotAModule = Unit {0}
IsAnswered KeySpent = Unit {0}
IsAnswered Usage = ⊥
IsAnswered DeviceFault = ⊥
IsAnswered SourceFault = ⊥
IsAnswered InputTooLong = ⊥
IsAnswered NoMemory = ⊥

lined_is_answered : (status : Status) → HasLine status → IsAnswered status
lined_is_answered Done has = tt
lined_is_answered SomeRefused has = tt
lined_is_answered Refused has = tt
lined_is_answered NotAModule has = absurd has
lined_is_answered KeySpent has = absurd has
lined_is_answered Usage has = absurd has
lined_is_answered DeviceFault has = absurd has
lined_is_answered SourceFault has = absurd has
lined_is_answered InputTooLong has = absurd has
lined_is_answered NoMemory has = absurd has

-- it came to an answer
ended_by : {m : Meaning} (status : Status) (r : Seen) → IsAnswered status → Ended m r → EndsWith status m r
ended_by Done r is ended = ended
ended_by SomeRefused r is ended = ended
ended_by Refused r is ended = ended
ended_by NotAModule r is ended = ended
ended_by KeySpent r is ended = ended
ended_by Usage r is ended = absurd is
ended_by DeviceFault r is ended = absurd is
ended_by SourceFault r is ended = absurd is
ended_by InputTooLong r is ended = absurd is
ended_by NoMemory r is ended = absurd is

module _ (m : Meaning) {tc tm : Type 0} (source source' : Supply) (start mid new : View) (o : m.Outcome)
    (poised : Poised m tc tm source source' start mid o) (supply : Supplied m tc source source' start) where
  -- its line is empty
  pub silent_run : (status : Status) → IsAnswered status → (m.answer o).status ≡ status → (m.answer o).line ≡ []
      → AnswersOnce m (seen tc tm status source source' start mid)
  silent_run status answered is empty = record {
    causes = caused m source source' start mid supply status (λ s. subst IsAnswered s answered)
        (λ s. subst IsAnswered s answered) poised.wrote.count (λ s. absurd (subst IsAnswered s answered))
        (λ no. poised.calm) (λ silent. poised.wrote.silent);
    ends = ended_by status (seen tc tm status source source' start mid) answered (record {
      outcome = o;
      status = is;
      comes = poised.comes;
      read = poised.read;
      sent = λ p h. subst (λ (l : List ℕ). mid.sent (p ++ l)) (sym empty)
          (subst (λ (l : List ℕ). mid.sent l) (sym (append-nil p)) (poised.wrote.silent.forth p h));
      cells = poised.cells;
    });
    source = supply.stays;
    blocks = poised.wrote.blocks;
    flash = λ none. leaves_flash m source source' start mid none status (poised.wrote.flash none) poised.wrote.moments;
    settled = λ told s no. poised.settled told s;
    moments = poised.wrote.moments;
  }

  -- a cut while the line is sent
  cut_in_line : tc → (k : ℕ) → k ≤ length (m.answer o).line
      → CutLeaves m tc source.left start.cells start.blocks mid.cells (take k (m.answer o).line)
  cut_in_line told k le = inr (o, poised.comes, inr (poised.cells told, (k, le, refl)))

  module _ (honest : IsHonest tc tm mid) (status result : Status)
      (replies : Replies tc tm status result (m.answer o).line mid new) where
    moments_then : tm → IsSettled start → LeavesOnly start new (Sending start (CutLeaves m tc source.left start.cells start.blocks))
    moments_then told settled =
        sending_front start mid new (CutLeaves m tc source.left start.cells start.blocks) [] (m.answer o).line
        (sent_none start mid poised.wrote.silent) (poised.settled (honest.whole told) settled)
        (poised.wrote.moments told settled) (replies.moments told) (cut_in_line (honest.whole told))

    sent_at : (status : Status) → HasCauses input_limit (seen tc tm status source source' start new)
        → EndsWith status m (seen tc tm status source source' start new)
        → AnswersOnce m (seen tc tm status source source' start new)
    sent_at status causes ends = record {
      causes = causes;
      ends = ends;
      source = supply.stays;
      blocks = replies.blocks ∙ poised.wrote.blocks;
      flash = λ none.
          leaves_flash m source source' start new none status
          (λ told. (replies.flash told).cells ∙ poised.wrote.flash none told) moments_then;
      settled = λ told s no i p. poised.settled told s i ((replies.flash told).back i p);
      moments = moments_then;
    }

    rose_then : Rose mid.faults new.faults → Rose start.faults new.faults
    rose_then rose = let c = poised.wrote.count in omega (arith, rose, c)

    count_then : start.faults ≤ new.faults
    count_then = omega (arith, poised.wrote.count, replies.count)

    -- its line was sent, or a front of it
    pub line_run : HasLine status → (m.answer o).status ≡ status
        → AnswersOnce m (seen tc tm result source source' start new)
    line_run has is = ⊎_elim whole partly replies.ends
      where
        answered : IsAnswered status
        answered = lined_is_answered status has

        whole : (result ≡ status) × Sent mid new (m.answer o).line × (new.faults ≡ mid.faults)
            → AnswersOnce m (seen tc tm result source source' start new)
        whole h = subst (λ (s : Status). AnswersOnce m (seen tc tm s source source' start new)) (sym h.0)
            (sent_at status
            (caused m source source' start new supply status (λ s. subst IsAnswered s answered)
            (λ s. subst IsAnswered s answered) count_then (λ s. absurd (subst IsAnswered s answered))
            (λ no. h.2 ∙ poised.calm) (λ silent. absurd (lined_is_not_silent status has silent)))
            (ended_by status (seen tc tm status source source' start new) answered (record {
              outcome = o;
              status = is;
              comes = poised.comes;
              read = poised.read;
              sent = λ p t. h.1 p (poised.wrote.silent.forth p t);
              cells = λ told. subst (λ (c : List ℕ). (m.answer o).after start.cells c)
                  (sym (replies.flash told).cells) (poised.cells told);
            })))

        partly : (result ≡ DeviceFault) × FrontSent (m.answer o).line mid new × Rose mid.faults new.faults
            → AnswersOnce m (seen tc tm result source source' start new)
        partly h = subst (λ (s : Status). AnswersOnce m (seen tc tm s source source' start new)) (sym h.0)
            (sent_at DeviceFault
            (caused m source source' start new supply DeviceFault (λ s. cc) (λ s. cc) count_then
            (λ s. rose_then h.2) (λ no. absurd (no refl)) (λ silent. absurd silent))
            (inr (o, poised.comes, (h.1.0, h.1.1, λ p t. h.1.2 p (poised.wrote.silent.forth p t)))))

-- ---- calls before that changed nothing

module _ (m : Meaning) {tc tm : Type 0} (source source' : Supply) (start mid new : View)
    (quiet : Quiet tc tm start mid) where
  comes_back : (a : Answer) → ComesTo a tc source.left mid.cells mid.blocks → ComesTo a tc source.left start.cells start.blocks
  comes_back a comes = record {
    cells = λ told. subst a.cells (quiet.cells told) (comes.cells told);
    blocks = subst a.blocks quiet.blocks comes.blocks;
    input = comes.input;
  }

  may_back : MayRead m tc mid → MayRead m tc start
  may_back may = (may.0, may.1, λ told. subst (m.answer may.0).cells (quiet.cells told) (may.2 told))

  sent_back : (line : List ℕ) → Sent mid new line → Sent start new line
  sent_back line sent p h = sent p (quiet.silent.forth p h)

  ended_back : (status : Status) → Ended m (seen tc tm status source source' mid new)
      → Ended m (seen tc tm status source source' start new)
  ended_back status ended = record {
    outcome = ended.outcome;
    status = ended.status;
    comes = comes_back (m.answer ended.outcome) ended.comes;
    read = ended.read;
    sent = sent_back (m.answer ended.outcome).line ended.sent;
    cells = λ told. subst (λ (c : List ℕ). (m.answer ended.outcome).after c new.cells) (quiet.cells told)
        (ended.cells told);
  }

  stopped_back : (status : Status) → Stopped (seen tc tm status source source' mid new)
      → Stopped (seen tc tm status source source' start new)
  stopped_back status stop = record {
    silent = same_then quiet.silent stop.silent;
    cells = λ told. stop.cells told ∙ quiet.cells told;
  }

  ends_back : (status : Status) → EndsWith status m (seen tc tm status source source' mid new)
      → EndsWith status m (seen tc tm status source source' start new)
  ends_back Done ends = ended_back Done ends
  ends_back SomeRefused ends = ended_back SomeRefused ends
  ends_back Refused ends = ended_back Refused ends
  ends_back NotAModule ends = ended_back NotAModule ends
  ends_back KeySpent ends = ended_back KeySpent ends
  ends_back Usage ends = ends
  ends_back DeviceFault (inl silent) = inl (same_then quiet.silent silent)
  ends_back DeviceFault (inr x) = inr (
    x.0,
    comes_back (m.answer x.0) x.1,
    (x.2.0, x.2.1, sent_back (take x.2.0 (m.answer x.0).line) x.2.2),
  )
  ends_back SourceFault ends = (stopped_back SourceFault ends.0, may_back ends.1)
  ends_back InputTooLong ends = (stopped_back InputTooLong ends.0, may_back ends.1, ends.2)
  ends_back NoMemory ends = stopped_back NoMemory ends

  causes_back : (status : Status) → HasCauses input_limit (seen tc tm status source source' mid new)
      → HasCauses input_limit (seen tc tm status source source' start new)
  causes_back status causes = record {
    source_count = causes.source_count;
    source_calm = causes.source_calm;
    device_count = omega (arith, causes.device_count, quiet.calm);
    device_calm = λ no. causes.device_calm no ∙ quiet.calm;
    source_fault = causes.source_fault;
    device_fault = λ is. let rose = causes.device_fault is in let c = quiet.calm in omega (arith, rose, c);
    too_long = causes.too_long;
    most = causes.most;
    silent = λ is. same_then quiet.silent (causes.silent is);
  }

  cut_back : tc → (image s : List ℕ) → CutLeaves m tc source.left mid.cells mid.blocks image s
      → CutLeaves m tc source.left start.cells start.blocks image s
  cut_back told image s (inl h) = inl (h.0, h.1 ∙ quiet.cells told)
  cut_back told image s (inr x) = inr (
    x.0,
    comes_back (m.answer x.0) x.1,
    subst (λ (c : List ℕ). CutInAnswer (m.answer x.0) c image s) (quiet.cells told) x.2,
  )

  -- the run went on from there
  pub run_after : IsHonest tc tm start → (status : Status)
      → AnswersOnce m (seen tc tm status source source' mid new)
      → AnswersOnce m (seen tc tm status source source' start new)
  run_after honest status run = record {
    causes = causes_back status run.causes;
    ends = ends_back status run.ends;
    source = ⊎_elim (λ may. inl (may_back may)) (λ same. inr same) run.source;
    blocks = run.blocks ∙ quiet.blocks;
    flash = λ none.
        leaves_flash m source source' start new none status
        (λ told. (run.flash none).cells told ∙ quiet.cells told) moments;
    settled = λ told s no. run.settled told (quiet.settled told s) no;
    moments = moments;
  }
    where
      moments : tm → IsSettled start → LeavesOnly start new (Sending start (CutLeaves m tc source.left start.cells start.blocks))
      moments told settled =
          let tells = honest.whole told in
          sending_then start mid new (CutLeaves m tc source.left start.cells start.blocks) (CutLeaves m tc source.left mid.cells mid.blocks) []
          (sent_none start mid quiet.silent) ((wrote_nothing m source.left start mid quiet).moments told settled)
          (run.moments told (quiet.settled tells settled)) (cut_back tells)

-- ---- the input was read first, or not

module _ (m : Meaning) {tc tm : Type 0} (source source' : Supply) (start : View) (honest : IsHonest tc tm start)
    (may : MayRead m tc start) where
  -- it was not read
  pub not_read : (status : Status) (fault : InputFault) → status ≡ status_of fault → WasNotRead source source' fault
      → AnswersOnce m (seen tc tm status source source' start start)
  not_read status fault is was =
      subst (λ (s : Status). AnswersOnce m (seen tc tm s source source' start start)) (sym is)
      (unread_run m source source' start start (quiet_none start honest) may fault was)

  module _ (input : List ℕ) (was : WasRead source source' input) where
    -- it was read, and then memory was wanting
    pub read_then_no_memory : AnswersOnce m (seen tc tm NoMemory source source' start start)
    read_then_no_memory =
        no_memory_run m source source' start start (quiet_none start honest) (supplied source source' start input was
        may)

    -- it was read, and then an answer that leaves the cells was sent
    pub read_then_sent : (new : View) (o : m.Outcome) → ComesTo (m.answer o) tc source.left start.cells start.blocks
        → ((c : List ℕ) → (m.answer o).after c c) → (status result : Status)
        → Replies tc tm status result (m.answer o).line start new → HasLine status → (m.answer o).status ≡ status
        → AnswersOnce m (seen tc tm result source source' start new)
    read_then_sent new o comes stays status result replies has is =
        line_run m source source' start start new o
        (poised m source source' start start o (quiet_none start honest) stays comes (λ r. was.end))
        (supplied source source' start input was may) honest status result replies has is

-- it was read, and then an answer that leaves the cells was sent, or memory for its line was wanting
module _ (m : Meaning) {tc tm T : Type 0} (source source' : Supply) (view : T → View) (old new : T)
    (honest : IsHonest tc tm (view old)) (may : MayRead m tc (view old)) (input : List ℕ)
    (was : WasRead source source' input) where
  pub read_then_lacked : (result : Status) → (result ≡ NoMemory) × (new ≡ old)
      → AnswersOnce m (seen tc tm result source source' (view old) (view new))
  read_then_lacked result lacks =
      subst (λ (s : Status). AnswersOnce m (seen tc tm s source source' (view old) (view new))) (sym lacks.0)
      (subst (λ (b : T). AnswersOnce m (seen tc tm NoMemory source source' (view old) (view b))) (sym lacks.1)
      (read_then_no_memory m source source' (view old) honest may input was))

  pub read_then_said : (o : m.Outcome) → ComesTo (m.answer o) tc source.left (view old).cells (view old).blocks
      → ((c : List ℕ) → (m.answer o).after c c) → (m.answer o).status ≡ Refused → (result : Status)
      → ((result ≡ NoMemory) × (new ≡ old)) ⊎ Replies tc tm Refused result (m.answer o).line (view old) (view new)
      → AnswersOnce m (seen tc tm result source source' (view old) (view new))
  read_then_said o comes stays is result (inl lacks) = read_then_lacked result lacks
  read_then_said o comes stays is result (inr replies) =
      read_then_sent m source source' (view old) honest may input was (view new) o comes stays Refused result replies tt is

-- a run comes to what an answer for any board says of the input that was read
pub on_any_board : {tc : Type 0} (source source' : Supply) (start : View) (status : Status) (line input : List ℕ)
    (P : List ℕ → Type 0) → WasRead source source' input → P input
    → ComesTo (says status line any (read P)) tc source.left start.cells start.blocks
on_any_board source source' start status line input P was p = record {
  cells = λ told. tt;
  blocks = tt;
  input = has_input source source' input P was p;
}

-- ---- completeness

-- what is known of the input that was told
pub of_input : (left : Option (List ℕ)) (input : List ℕ) (P : List ℕ → Type 0) → IfSome left (λ told. told ≡ input)
    → IsSomeAnd left P → P input
of_input None input P is some = absurd some
of_input (Some told) input P is some = subst P is some

-- what comes over a board and an input that are ready isn't a refusal
abbrev pub NeverRefuses : Meaning → Seen → Type 0
NeverRefuses m r = (o : m.Outcome) → ComesTo (m.answer o) r.tells_cells r.source.left r.old.cells r.old.blocks → IsReady m r
    → IsFinished (m.answer o).status

-- a run that is ready comes to its end
pub completes : (m : Meaning) (r : Seen) → NeverRefuses m r → AnswersOnce m r → IsReady m r → Undisturbed r
    → IsFinished r.status
completes m r never run ready calm = subst IsFinished refl (by_status r.status refl run.ends)
  where
    finished : (status : Status) → r.status ≡ status → Ended m r → IsFinished status
    finished status is ended = subst IsFinished (ended.status ∙ is) (never ended.outcome ended.comes ready)

    long : IfSome r.source.left IsLonger
        → IsSomeAnd r.source.left (λ input. (length input ≤ input_limit) × m.form r.old input) → ⊥
    long = not_both r.source.left (λ input. m.form r.old input)
      where
        not_both : (left : Option (List ℕ)) (form : List ℕ → Type 0) → IfSome left IsLonger
            → IsSomeAnd left (λ input. (length input ≤ input_limit) × form input) → ⊥
        not_both None form longer some = some
        not_both (Some told) form longer some = omega (arith, longer, some.0)

    by_status : (status : Status) → r.status ≡ status → EndsWith status m r → IsFinished status
    by_status Done is ends = tt
    by_status SomeRefused is ends = tt
    by_status NoMemory is ends = tt
    by_status Refused is ends = finished Refused is ends
    by_status NotAModule is ends = finished NotAModule is ends
    by_status KeySpent is ends = finished KeySpent is ends
    by_status Usage is ends = ends
    by_status DeviceFault is ends = calm.device (run.causes.device_fault is)
    by_status SourceFault is ends = calm.source (run.causes.source_fault is)
    by_status InputTooLong is ends = long ends.2 (ready.input ends.1)
