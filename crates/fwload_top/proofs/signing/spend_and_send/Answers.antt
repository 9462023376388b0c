use Rattle.std.proofs.Common.{◌≡◌, ◌<◌, arith, List, ℕ, Err, refl, subst, ap, ◌∙◌}
use Rattle.key_state.specs.declared.spending.SpendFault.{SpendFault}
use Rattle.key_state.specs.declared.spending.SpendFault.TheVariants as faults
use Rattle.lms_sign.specs.PublicKeys.{leaf_count}
use Rattle.fwload_top.specs.declared.status.Status.TheVariants.{Done}
use Rattle.fwload_top.specs.Reply.{Replies}
use Rattle.fwload_top.specs.Signing.{signing}
use Rattle.fwload_top.specs.Signing.Outcome.{signed}
use Rattle.fwload_top.proofs.MakingLemmas.{ok_no_err, other_err}
use Rattle.fwload_top.proofs.SigningLemmas.{one_key, may_read, spend_wrote, spend_done, none_was_left}
use Rattle.fwload_top.proofs.AnswersOnceLemmas.{supplied, failed_run, line_run}
use Rattle.fwload_top.proofs.signing.spend_and_send.Goals as goal

all_spent_is_no_fault : (f : SpendFault) → f ≡ faults.AllSpent → f ≡ faults.Fault → ⊥
all_spent_is_no_fault f is fault = cc

pub returns-in-Ok : goal.returns-in-Ok
returns-in-Ok g c =
    let p = c.args.product in
    let key = c.args.key.now in
    let leaf = c.in-Ok.leaf in
    let start = g.B.Board.view c.args.board.now in
    let mid = g.B.Board.view c.spend.new.board in
    let new = g.B.Board.view c.send_answer.new.board in
    let honest = g.met.B.Board.honest c.args.board.now in
    let spends = c.in-Ok.ensures in
    let below : leaf < leaf_count key = omega (arith, spends.below, c.leaf_count.ensures.value) in record {
      runs = λ source source' input output was to_sign.
          line_run (signing p) source source' start mid new (signed output key leaf)
          (spend_done p start key c.requires.key source source' mid input honest c.requires.blocks was c.leaf_count.result c.leaf_count.ensures.value spends.touches
          output to_sign.recipe leaf spends.leaf spends.below spends.blank spends.settled
          (spends.calm (ok_no_err c.in-Ok.leaf faults.Fault)))
          (supplied source source' start input was (may_read p start key c.requires.key))
          (g.met.B.Board.honest c.spend.new.board) Done c.send_answer.result
          (subst (λ (l : List ℕ). Replies g.B.Board.tells_cells g.B.Board.tells_moments Done c.send_answer.result l mid
          new) (c.deref.ensures.value ∙ c.finish.ensures.octets ∙ to_sign.text leaf below) c.send_answer.ensures) tt refl;
    }

pub returns-in-Err-AllSpent : goal.returns-in-Err-AllSpent
returns-in-Err-AllSpent g c =
    let p = c.args.product in
    let key = c.args.key.now in
    let start = g.B.Board.view c.args.board.now in
    let mid = g.B.Board.view c.spend.new.board in
    let spends = c.in-Err-AllSpent.ensures in
    let is = ap (λ (f : SpendFault). Err f) c.in-Err-AllSpent.field-0-is in record {
      runs = λ source source' input output was to_sign.
          none_was_left p start key c.requires.key source source' mid input (g.met.B.Board.honest c.args.board.now)
          c.requires.blocks was c.leaf_count.result c.leaf_count.ensures.value spends.touches (one_key c.each_image_has_one_holder.ensures.one) c.leaf_count.ensures.row (λ told. spends.all_spent told is)
          (output, to_sign.recipe)
          (spends.calm (other_err c.in-Err-AllSpent.field-0 faults.Fault
          (all_spent_is_no_fault c.in-Err-AllSpent.field-0 c.in-Err-AllSpent.field-0-is)));
    }

pub returns : goal.returns
returns g c =
    let p = c.args.product in
    let key = c.args.key.now in
    let start = g.B.Board.view c.args.board.now in
    let mid = g.B.Board.view c.spend.new.board in
    let spends = c.in-Err-Fault.ensures in record {
      runs = λ source source' input output was to_sign.
          failed_run (signing p) source source' start mid
          (spend_wrote p start key c.requires.key source source' mid input (g.met.B.Board.honest c.args.board.now)
          c.requires.blocks was c.leaf_count.result c.leaf_count.ensures.value spends.touches output to_sign.recipe spends.later)
          (supplied source source' start input was (may_read p start key c.requires.key))
          (spends.fault (ap (λ (f : SpendFault). Err f) c.in-Err-Fault.field-0-is));
    }
