use Rattle.std.proofs.Common.{◌≡◌, [], ◌∷◌, refl, subst}
use Rattle.lms_sign.specs.PublicKeys.{leaf_count}
use Rattle.edge_board.proofs.RunLemmas.{keeps_wider}
use Rattle.module_record.specs.declared.module.Module.{Module}
use Rattle.bank_layout.specs.Manifest.{Manifest}
use Rattle.bank_layout.specs.Recovery.{Standing, HoldsModule, standing_of}
use Rattle.judge_core.specs.Verdicts.{Verdict, accepts}
use Rattle.module_store.specs.Store.{manifest_of, next_of}
use Rattle.load_claims.specs.Boards.{IsInstalled}
use Rattle.item_answer.specs.Answers.{AnswersItem, IsAnswerTo}
use Rattle.item_answer.proofs.Ends.{at_ok}
use Rattle.item_answer.proofs.Steps.{answers_since, part_none}
use Rattle.item_answer.proofs.accepting.install_and_reply.Goals as goal

pub returns-in-Err-clause-item : goal.returns-in-Err-clause-item
returns-in-Err-clause-item g c = λ tells at item described content image key_id stored given holds is answers.
    let m : Module = c.args.store.now.module in
    let old = g.B.Board.view c.args.board.now in
    let manifest : Manifest = manifest_of c.args.store.now in
    record {
      loads = tt;
      partly = part_none m at (standing_of m manifest old.cells) (item ∷ []) old (g.B.Board.view c.install.new.board) c.install.ensures.touches.silent;
      moments = λ told.
          c.installing_is_inside.ensures.moments tells c.args.board.now c.install.new.board m at item described content image key_id
          manifest (next_of c.args.ready) stored given holds is (c.install.ensures.moments tells);
    }

pub returns-in-Ok-clause-item : goal.returns-in-Ok-clause-item
returns-in-Ok-clause-item g c = λ tells at item described content image key_id stored given holds is answers.
    let m : Module = c.args.store.now.module in
    let own : c.install.new.store.module ≡ m = c.install.ensures.owner in
    let old = g.B.Board.view c.args.board.now in
    let mid = g.B.Board.view c.install.new.board in
    let new = g.B.Board.view c.reply.new.board in
    let manifest : Manifest = manifest_of c.args.store.now in
    let next : Manifest = next_of c.args.ready in
    let start : Standing = standing_of m manifest old.cells in
    let verdict : Verdict = accepts described content image key_id in
    let silent = c.install.ensures.touches.silent in
    let installed : IsInstalled m at start item verdict mid =
    c.installing_is_inside.ensures.installed tells c.args.board.now c.install.new.board m at item described content image key_id manifest next stored c.install.new.store.running given holds is
    (subst (λ (mm : Module). HoldsModule mid.cells mm c.install.new.store.running next) own
    (subst (λ (n : Manifest). HoldsModule mid.cells c.install.new.store.module c.install.new.store.running n) c.in-Ok.ensures.installed (c.in-Ok.ensures.holds tells)))
    (c.in-Ok.ensures.standing tells) (c.in-Ok.ensures.settled tells) in
    let replied : AnswersItem g.B.Board.tells_moments m at start item verdict mid new c.reply.result =
    subst (λ (mm : Module). IsAnswerTo mm start verdict c.args.answer → IsInstalled mm at start item verdict mid → AnswersItem g.B.Board.tells_moments mm at start item verdict mid new c.reply.result) own
    (λ a i. c.reply.ensures.item tells at start item verdict refl a i) answers installed in
    answers_since g.B.Board.tells_moments m at start item verdict old mid new c.reply.result silent
    (λ told leaves. c.steps_follow_each_other.ensures.moments c.args.board.now c.install.new.board c.reply.new.board m at start (item ∷ [])
    (c.installing_is_inside.ensures.moments tells c.args.board.now c.install.new.board m at item described content image key_id manifest next stored given holds is (c.install.ensures.moments tells))
    silent leaves) replied

pub returns-in-Ok-clause-holds : goal.returns-in-Ok-clause-holds
returns-in-Ok-clause-holds g c = λ tells.
    let mid = g.B.Board.view c.install.new.board in
    let new = g.B.Board.view c.reply.new.board in
    at_ok c.reply.result
    (c.rows_stand_apart.ensures.row mid.cells new.cells c.install.new.store.module c.install.new.store.running (manifest_of c.install.new.store) (c.in-Ok.ensures.holds tells)
    (keeps_wider mid.cells new.cells (λ i first. c.first_unspent_is_in_the_row.ensures.block (leaf_count c.install.new.store.module.key) mid.cells i c.reply.ensures.count first)
    (c.reply.ensures.changes.cells tells))).0
