use Rattle.std.proofs.Common.{◌≡◌, ℕ, List, [], ◌∷◌, sym, ◌∙◌, ap, subst}
use Rattle.std.specs.Prelude.{OnErr}
use Rattle.std.proofs.lemmas.Result.{on_ok_weaker, on_err_weaker}
use Rattle.edge_board.specs.Board.{Sent}
use Rattle.edge_board.specs.Runs.{LeavesOnly}
use Rattle.edge_board.specs.Sends.{FrontSent, SendsFront}
use Rattle.key_state.specs.KeyBlock.{row_of}
use Rattle.lms_sign.specs.PublicKeys.{leaf_count}
use Rattle.bank_layout.specs.Recovery.{Standing, Recovers}
use Rattle.bank_layout.specs.Recovery.Holder.{module_board}
use Rattle.load_claims.specs.Items.{answer as said_by, after}
use Rattle.edge_board.proofs.RunLemmas.{changes_of, change_then, change_wider}
use Rattle.item_answer.proofs.Steps.{part_none, part_of, same_test}
use Rattle.item_answer.proofs.replying.reply.Goals as goal

pub returns-in-Err-clause-item : goal.returns-in-Err-clause-item
returns-in-Err-clause-item g c = λ tells at start item verdict uses answers installed.
    let m = c.args.owner.now in
    let old = g.B.Board.view c.args.board.now in
    let mid = g.B.Board.view c.finish_answer.new.board in
    record {
      loads = tt;
      partly = part_none m at start (item ∷ []) old mid c.finish_answer.ensures.touches.silent;
      moments = λ told.
          c.spending_is_inside.ensures.moments tells c.args.board.now c.args.board.now c.finish_answer.new.board m at start item verdict uses c.finish_answer.ensures.count
          (c.steps_follow_each_other.ensures.installed c.args.board.now m at start item verdict installed)
          (same_test old.sent) installed c.finish_answer.ensures.touches;
    }

pub returns-in-Ok-clause-item : goal.returns-in-Ok-clause-item
returns-in-Ok-clause-item g c = λ tells at start item verdict uses answers installed.
    let m = c.args.owner.now in
    let old = g.B.Board.view c.args.board.now in
    let mid = g.B.Board.view c.finish_answer.new.board in
    let new = g.B.Board.view c.send_all.new.board in
    let silent = c.finish_answer.ensures.touches.silent in
    let row : start.row ≡ row_of (leaf_count m.key) old.cells = sym installed.row ∙ ap (λ (s : Standing). s.row) installed.found.3 in
    let said : c.deref.result.now ≡ said_by m start verdict = c.deref.ensures.value ∙ c.in-Ok.ensures.octets tells start verdict row uses answers in
    let found = c.in-Ok.ensures.found tells at start item verdict uses installed in
    let spent =
    c.spending_is_inside.ensures.moments tells c.args.board.now c.args.board.now c.finish_answer.new.board m at start item verdict uses c.finish_answer.ensures.count
    (c.steps_follow_each_other.ensures.installed c.args.board.now m at start item verdict installed)
    (same_test old.sent) installed c.finish_answer.ensures.touches in
    record {
      loads = on_ok_weaker c.send_all.result (λ sent.
          c.sending_is_inside.ensures.answered c.args.board.now c.finish_answer.new.board c.send_all.new.board m at start item verdict installed.given silent
          (subst (λ (l : List ℕ). Sent mid new l) said sent)
          (subst (λ (l : List ℕ). Recovers l (module_board m (after start verdict))) (sym (c.send_all.ensures.flash tells).cells) found)) c.send_all.ensures.sent;
      partly = on_err_weaker c.send_all.result (λ front. part_of m at start item verdict old new installed.given
          (front.0, front.1, λ p h. front.2 p (silent.forth p h))) (subst (λ (l : List ℕ). OnErr c.send_all.result (FrontSent l mid new)) said c.send_all.ensures.partly);
      moments = λ told.
          c.sending_is_inside.ensures.moments tells c.args.board.now c.finish_answer.new.board c.send_all.new.board m at start item verdict installed.given
          spent silent (c.in-Ok.ensures.settled tells) found
          (subst (λ (l : List ℕ). LeavesOnly mid new (SendsFront mid l)) said (c.send_all.ensures.moments told));
    }

pub returns-in-Err-clause-changes : goal.returns-in-Err-clause-changes
returns-in-Err-clause-changes g c = changes_of (g.B.Board.view c.args.board.now) (g.B.Board.view c.finish_answer.new.board) c.finish_answer.ensures.touches

pub returns-in-Ok-clause-changes : goal.returns-in-Ok-clause-changes
returns-in-Ok-clause-changes g c =
    let old = g.B.Board.view c.args.board.now in
    let mid = g.B.Board.view c.finish_answer.new.board in
    let new = g.B.Board.view c.send_all.new.board in
    change_then old mid new (changes_of old mid c.finish_answer.ensures.touches)
    (change_wider mid new (λ told i none. absurd none) c.send_all.ensures.changes)
