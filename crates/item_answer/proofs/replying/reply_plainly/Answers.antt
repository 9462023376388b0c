use Rattle.std.proofs.Common.{ℕ, List, [], ◌∷◌, sym, subst}
use Rattle.std.specs.Prelude.{OnErr}
use Rattle.std.proofs.lemmas.Result.{on_ok_weaker, on_err_weaker}
use Rattle.edge_board.specs.Board.{Sent}
use Rattle.edge_board.specs.Runs.{LeavesOnly}
use Rattle.edge_board.specs.Sends.{FrontSent, SendsFront}
use Rattle.bank_layout.specs.Recovery.{Standing, Recovers}
use Rattle.bank_layout.specs.Recovery.Holder.{module_board}
use Rattle.load_claims.specs.Items.{after}
use Rattle.load_claims.proofs.ItemLemmas.{after_unused}
use Rattle.item_answer.proofs.Steps.{part_of, same_test}
use Rattle.item_answer.proofs.replying.reply_plainly.Goals as goal

pub returns-clause-item : goal.returns-clause-item
returns-clause-item g c = λ tells m at start item verdict unused is given found.
    let old = g.B.Board.view c.args.board.now in
    let new = g.B.Board.view c.send_all.new.board in
    let settled = c.requires.settled tells in
    let there : Recovers old.cells (module_board m (after start verdict)) =
    subst (λ (s : Standing). Recovers old.cells (module_board m s)) (sym (after_unused start verdict unused)) found in
    record {
      loads = on_ok_weaker c.send_all.result (λ sent.
          c.sending_is_inside.ensures.answered c.args.board.now c.args.board.now c.send_all.new.board m at start item verdict given (same_test old.sent)
          (subst (λ (l : List ℕ). Sent old new l) is sent)
          (subst (λ (l : List ℕ). Recovers l (module_board m (after start verdict))) (sym (c.send_all.ensures.flash tells).cells) there)) c.send_all.ensures.sent;
      partly = on_err_weaker c.send_all.result (λ front. part_of m at start item verdict old new given front)
          (subst (λ (l : List ℕ). OnErr c.send_all.result (FrontSent l old new)) is c.send_all.ensures.partly);
      moments = λ told.
          c.sending_is_inside.ensures.moments tells c.args.board.now c.args.board.now c.send_all.new.board m at start item verdict given
          (c.items_follow_each_other.ensures.begun c.args.board.now m at start (item ∷ []) settled found)
          (same_test old.sent) settled there
          (subst (λ (l : List ℕ). LeavesOnly old new (SendsFront old l)) is (c.send_all.ensures.moments told));
    }
