use Rattle.std.proofs.Common.{◌≡◌, List, ℕ, Err, refl, ap, subst, sym}
use Rattle.bank_store.specs.declared.fault.KeyFault.{KeyFault}
use Rattle.bank_store.specs.declared.fault.KeyFault.TheVariants as faults
use Rattle.bank_layout.specs.Recovery.{HoldsKey}
use Rattle.fwload_top.specs.declared.status.Status.TheVariants.{NotAModule}
use Rattle.fwload_top.specs.Signing.{signing}
use Rattle.fwload_top.specs.Signing.Outcome.{no_key}
use Rattle.fwload_top.proofs.MakingLemmas.{ok_no_err, other_err}
use Rattle.fwload_top.proofs.AnswersOnceLemmas.{quiet_touched, wrote_unchanged, poised, supplied_none, failed_run}
use Rattle.fwload_top.proofs.AnswersOnceLemmas.{silent_run, run_after}
use Rattle.fwload_top.proofs.signing.sign.Goals as goal

no_key_is_no_fault : (f : KeyFault) → f ≡ faults.NotAKey → f ≡ faults.Fault → ⊥
no_key_is_no_fault f is fault = cc

pub sign_by-requires : goal.sign_by-requires
sign_by-requires g c =
    let opened = c.in-Ok.ensures in record {
      key = λ told. subst (λ (cells : List ℕ). HoldsKey cells c.in-Ok.key) (sym (opened.unchanged told)) (opened.key told);
      blocks = opened.blocks;
    }

pub returns-in-Ok : goal.returns-in-Ok
returns-in-Ok g c =
    let start = g.B.Board.view c.args.board.now in
    let mid = g.B.Board.view c.open_key.new.board in
    let opened = c.in-Ok.ensures in
    let honest = g.met.B.Board.honest c.args.board.now in
    let quiet = quiet_touched start mid honest opened.touches (opened.calm (ok_no_err c.in-Ok.key faults.Fault)) in record {
      runs = run_after (signing c.args.product) (g.S.Source.supply c.args.source.now)
          (g.S.Source.supply c.sign_by.new.source) start mid (g.B.Board.view c.sign_by.new.board) quiet honest
          c.sign_by.result c.sign_by.ensures.runs;
    }

pub returns-in-Err-NotAKey : goal.returns-in-Err-NotAKey
returns-in-Err-NotAKey g c =
    let source = g.S.Source.supply c.args.source.now in
    let start = g.B.Board.view c.args.board.now in
    let mid = g.B.Board.view c.open_key.new.board in
    let opened = c.in-Err-NotAKey.ensures in
    let no_fault = no_key_is_no_fault c.in-Err-NotAKey.field-0 c.in-Err-NotAKey.field-0-is in
    let quiet = quiet_touched start mid (g.met.B.Board.honest c.args.board.now) opened.touches
    (opened.calm (other_err c.in-Err-NotAKey.field-0 faults.Fault no_fault)) in record {
      runs = silent_run (signing c.args.product) source source start mid mid no_key
          (poised (signing c.args.product) source source start mid no_key quiet (λ cells. refl)
          (record {
            cells = λ told. opened.not_a_key told (ap (λ (f : KeyFault). Err f) c.in-Err-NotAKey.field-0-is);
            blocks = tt;
            input = tt;
          })
          (λ is. absurd is)) (supplied_none source start) NotAModule tt refl refl;
    }

pub returns-in-Err-Fault : goal.returns-in-Err-Fault
returns-in-Err-Fault g c =
    let source = g.S.Source.supply c.args.source.now in
    let start = g.B.Board.view c.args.board.now in
    let mid = g.B.Board.view c.open_key.new.board in
    let opened = c.in-Err-Fault.ensures in record {
      runs = failed_run (signing c.args.product) source source start mid
          (wrote_unchanged (signing c.args.product) source.left start mid (g.met.B.Board.honest c.args.board.now)
          opened.touches opened.later) (supplied_none source start)
          (opened.fault (ap (λ (f : KeyFault). Err f) c.in-Err-Fault.field-0-is));
    }
