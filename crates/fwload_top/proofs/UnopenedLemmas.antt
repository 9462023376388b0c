-- What a run leaves that needs a module and opens no store.
use Rattle.std.proofs.Common.{◌≡◌, ℕ, ◌≤◌, List, [], Option, Result, Err, refl, subst, sym}
use Rattle.edge_board.specs.Supply.{Supply}
use Rattle.edge_board.specs.Causes.{Rose}
use Rattle.edge_board.specs.Board.{View, Nowhere, IsHonest}
use Rattle.edge_board.specs.Runs.{Touches}
use Rattle.module_store.specs.declared.fault.OpenFault.{OpenFault}
use Rattle.module_store.specs.declared.fault.OpenFault.TheVariants as faults
use Rattle.module_store.specs.declared.store.Store.{Store}
use Rattle.module_store.specs.Store.{HoldsNoModule}
use Rattle.fwload_top.specs.declared.status.Status.{Status}
use Rattle.fwload_top.specs.declared.status.Status.TheVariants.{NotAModule}
use Rattle.fwload_top.specs.Seen.{seen}
use Rattle.fwload_top.specs.Meaning.{Answer, Meaning, says}
use Rattle.fwload_top.specs.Meaning.Input.{unread}
use Rattle.fwload_top.specs.AnswersOnce.{IsInput, IsRead, AnswersOnce}
use Rattle.fwload_top.specs.Standing.{HasNoModule, unopened}
use Rattle.fwload_top.proofs.AnswersOnceLemmas.{Quiet, quiet_touched, wrote_unchanged, poised, supplied_none}
use Rattle.fwload_top.proofs.AnswersOnceLemmas.{failed_run, no_memory_run, silent_run}
use Rattle.fwload_top.proofs.MakingLemmas.{other_err}

-- ---- the answer

-- It says of any board that no module holds that none does, and the source has no part in it.
pub record SaysNoModule (a : Answer) : Type 0 where
  pub status : a.status ≡ NotAModule
  pub line : a.line ≡ []
  pub cells : (cells : List ℕ) → HasNoModule cells → a.cells cells
  pub blocks : (n : ℕ) → a.blocks n
  pub input : (left : Option (List ℕ)) → IsInput a.input left
  pub not_read : IsRead a.input → ⊥
  pub stays : (cells : List ℕ) → a.after cells cells

pub says_no_module : SaysNoModule (says NotAModule [] HasNoModule unread)
says_no_module = record {
  status = refl;
  line = refl;
  cells = λ cells none. none;
  blocks = λ n. tt;
  input = λ left. tt;
  not_read = λ is. is;
  stays = λ cells. refl;
}

-- ---- the run

-- the call answered this fault
abbrev pub Answered : OpenFault → OpenFault → Type 0
Answered fault is = ◌≡◌ {A = Result Store OpenFault} (Err fault) (Err is)

-- What the call that opens a store leaves where it answers a fault.
pub record OpensNone (tc : Type 0) (start mid : View) (fault : OpenFault) : Type 0 where
  pub touches : Touches tc Nowhere start mid
  pub later : start.faults ≤ mid.faults
  pub calm : ¬ Answered fault faults.Fault → mid.faults ≡ start.faults
  pub failed : Answered fault faults.Fault → Rose start.faults mid.faults
  pub none : tc → Answered fault faults.NotAModule → HoldsNoModule start.cells

module _ (m : Meaning) {tc tm : Type 0} (o : m.Outcome) (told_none : SaysNoModule (m.answer o)) (source : Supply)
    (start mid : View) (honest : IsHonest tc tm start) where
  no_module_is_no_fault : ¬ Answered faults.NotAModule faults.Fault
  no_module_is_no_fault = other_err faults.NotAModule faults.Fault (λ same. cc)

  memory_is_no_fault : ¬ Answered faults.Memory faults.Fault
  memory_is_no_fault = other_err faults.Memory faults.Fault (λ same. cc)

  quiet_unless_failed : (fault : OpenFault) → OpensNone tc start mid fault → ¬ Answered fault faults.Fault
      → Quiet tc tm start mid
  quiet_unless_failed fault opened calm = quiet_touched start mid honest opened.touches (opened.calm calm)

  by_fault : (fault : OpenFault) → OpensNone tc start mid fault
      → AnswersOnce m (seen tc tm (unopened fault) source source start mid)
  by_fault faults.NotAModule opened =
      silent_run m source source start mid mid o
      (poised m source source start mid o (quiet_unless_failed faults.NotAModule opened no_module_is_no_fault) told_none.stays (record {
        cells = λ told. told_none.cells start.cells (λ owner standing held.
            opened.none told refl owner held.0 held.1 held.2);
        blocks = told_none.blocks start.blocks;
        input = told_none.input source.left;
      }) (λ is. absurd (told_none.not_read is))) (supplied_none source start) NotAModule tt told_none.status told_none.line
  by_fault faults.Fault opened =
      failed_run m source source start mid
      (wrote_unchanged m source.left start mid honest opened.touches opened.later) (supplied_none source start)
      (opened.failed refl)
  by_fault faults.Memory opened =
      no_memory_run m source source start mid (quiet_unless_failed faults.Memory opened memory_is_no_fault)
      (supplied_none source start)

  pub unopened_run : (fault : OpenFault) → OpensNone tc start mid fault → (status : Status) → status ≡ unopened fault
      → AnswersOnce m (seen tc tm status source source start mid)
  unopened_run fault opened status is =
      subst (λ (s : Status). AnswersOnce m (seen tc tm s source source start mid)) (sym is) (by_fault fault opened)
