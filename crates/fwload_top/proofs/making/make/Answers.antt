use Rattle.std.proofs.Common.{arith, Err, refl, sym, subst, ap}
use Rattle.bank_store.specs.declared.fault.HolderFault.{HolderFault}
use Rattle.bank_store.specs.declared.fault.HolderFault.TheVariants as faults
use Rattle.fwload_top.specs.declared.status.Status.TheVariants.{Refused}
use Rattle.fwload_top.specs.Making.{making, IsFree}
use Rattle.fwload_top.specs.Making.Outcome.{held}
use Rattle.fwload_top.proofs.MakingLemmas.{ok_no_err, other_err, no_memory_is_no_fault}
use Rattle.fwload_top.proofs.AnswersOnceLemmas.{quiet_touched, wrote_unchanged, poised, supplied_none, failed_run}
use Rattle.fwload_top.proofs.AnswersOnceLemmas.{line_run, no_memory_run, run_after}
use Rattle.fwload_top.proofs.making.make.Goals as goal

pub make_free-requires : goal.make_free-requires
make_free-requires g c =
    let start = g.B.Board.view c.args.board.now in
    let mid = g.B.Board.view c.is_held.new.board in
    let asked = c.in-Ok-false.ensures in
    let quiet = quiet_touched start mid (g.met.B.Board.honest c.args.board.now) asked.touches
    (asked.calm (ok_no_err c.in-Ok-false.field-0 faults.Fault)) in record {
      free = λ told. subst IsFree (sym (quiet.cells told)) ((asked.nobody told).0 c.in-Ok-false.field-0-test);
    }

pub returns-in-Ok-true : goal.returns-in-Ok-true
returns-in-Ok-true g c =
    let source = g.S.Source.supply c.args.source.now in
    let start = g.B.Board.view c.args.board.now in
    let mid = g.B.Board.view c.is_held.new.board in
    let asked = c.in-Ok-true.ensures in
    let quiet = quiet_touched start mid (g.met.B.Board.honest c.args.board.now) asked.touches
    (asked.calm (ok_no_err c.in-Ok-true.field-0 faults.Fault)) in record {
      runs = line_run (making c.args.kind) source source start mid (g.B.Board.view c.send_answer.new.board) held
          (poised (making c.args.kind) source source start mid held quiet (λ cells. refl)
          (record {
            cells = λ told. (asked.held told).0 c.in-Ok-true.field-0-test;
            blocks = omega (arith, asked.blocks c.in-Ok-true.field-0-test, asked.touches.blocks);
            input = tt;
          })
          (λ is. absurd is)) (supplied_none source start) (g.met.B.Board.honest c.is_held.new.board) Refused
          c.send_answer.result c.send_answer.ensures tt refl;
    }

pub returns-in-Ok-false : goal.returns-in-Ok-false
returns-in-Ok-false g c =
    let start = g.B.Board.view c.args.board.now in
    let mid = g.B.Board.view c.is_held.new.board in
    let asked = c.in-Ok-false.ensures in
    let honest = g.met.B.Board.honest c.args.board.now in
    let quiet = quiet_touched start mid honest asked.touches
    (asked.calm (ok_no_err c.in-Ok-false.field-0 faults.Fault)) in record {
      runs = run_after (making c.args.kind) (g.S.Source.supply c.args.source.now) (g.S.Source.supply c.make_free.new.source) start mid
          (g.B.Board.view c.make_free.new.board) quiet honest c.make_free.result c.make_free.ensures.runs;
    }

pub returns-in-Err-Fault : goal.returns-in-Err-Fault
returns-in-Err-Fault g c =
    let source = g.S.Source.supply c.args.source.now in
    let start = g.B.Board.view c.args.board.now in
    let mid = g.B.Board.view c.is_held.new.board in
    let asked = c.in-Err-Fault.ensures in record {
      runs = failed_run (making c.args.kind) source source start mid
          (wrote_unchanged (making c.args.kind) source.left start mid (g.met.B.Board.honest c.args.board.now) asked.touches
          asked.later) (supplied_none source start)
          (asked.fault (ap (λ (f : HolderFault). Err f) c.in-Err-Fault.field-0-is));
    }

pub returns-in-Err-Memory : goal.returns-in-Err-Memory
returns-in-Err-Memory g c =
    let source = g.S.Source.supply c.args.source.now in
    let start = g.B.Board.view c.args.board.now in
    let mid = g.B.Board.view c.is_held.new.board in
    let asked = c.in-Err-Memory.ensures in
    let no_fault = no_memory_is_no_fault c.in-Err-Memory.field-0 c.in-Err-Memory.field-0-is in record {
      runs = no_memory_run (making c.args.kind) source source start mid
          (quiet_touched start mid (g.met.B.Board.honest c.args.board.now) asked.touches
          (asked.calm (other_err c.in-Err-Memory.field-0 faults.Fault no_fault))) (supplied_none source start);
    }
