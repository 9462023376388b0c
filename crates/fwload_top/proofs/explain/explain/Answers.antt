use Rattle.std.proofs.Common.{List, ℕ, subst, sym}
use Rattle.module_store.specs.Store.{IsStoreOf}
use Rattle.module_store.specs.declared.fault.OpenFault.TheVariants as faults
use Rattle.fwload_top.specs.Explain.{explain}
use Rattle.fwload_top.specs.Explain.Outcome.{no_module}
use Rattle.fwload_top.proofs.MakingLemmas.{ok_no_err}
use Rattle.fwload_top.proofs.AnswersOnceLemmas.{quiet_touched, run_after}
use Rattle.fwload_top.proofs.UnopenedLemmas.{says_no_module, unopened_run}
use Rattle.fwload_top.proofs.explain.explain.Goals as goal

pub explain_by-requires : goal.explain_by-requires
explain_by-requires g c =
    let opened = c.in-Ok.ensures in record {
      holds = λ told. subst (λ (cells : List ℕ). IsStoreOf c.in-Ok.store cells) (sym (opened.unchanged told))
          (opened.store told);
      valid = opened.valid;
      blocks = opened.blocks;
    }

pub returns-in-Ok : goal.returns-in-Ok
returns-in-Ok g c =
    let source = g.S.Source.supply c.args.source.now in
    let start = g.B.Board.view c.args.board.now in
    let mid = g.B.Board.view c.open.new.board in
    let opened = c.in-Ok.ensures in
    let honest = g.met.B.Board.honest c.args.board.now in
    let quiet = quiet_touched start mid honest opened.touches (opened.calm (ok_no_err c.in-Ok.store faults.Fault)) in record {
      runs = run_after (explain c.args.at) source (g.S.Source.supply c.explain_by.new.source) start mid
          (g.B.Board.view c.explain_by.new.board) quiet honest c.explain_by.result c.explain_by.ensures.runs;
    }

pub returns-in-Err : goal.returns-in-Err
returns-in-Err g c =
    let opened = c.in-Err.ensures in record {
      runs = unopened_run (explain c.args.at) no_module says_no_module (g.S.Source.supply c.args.source.now)
          (g.B.Board.view c.args.board.now) (g.B.Board.view c.open.new.board)
          (g.met.B.Board.honest c.args.board.now) c.in-Err.fault (record {
            touches = opened.touches;
            later = opened.later;
            calm = opened.calm;
            failed = opened.fault;
            none = opened.not_a_module;
          }) c.from.result c.from.ensures;
    }
