use Rattle.std.proofs.Common.{ℕ, List, [], ◌∷◌, Result, refl, sym, ◌∙◌, subst, arith}
use Rattle.std.specs.Prelude.{Option}
use Rattle.std.specs.Option.{option_copied}
use Rattle.edge_board.proofs.RunLemmas.{keeps_wider}
use Rattle.lms_sign.specs.PublicKeys.{leaf_count}
use Rattle.package_attrs.specs.declared.name.PackageName.{PackageName}
use Rattle.module_record.specs.declared.module.Module.{Module}
use Rattle.bank_layout.specs.Recovery.{Standing, standing_of, image_octets}
use Rattle.judge_core.specs.Verdicts.{Verdict, refuses}
use Rattle.module_store.specs.Store.{manifest_of}
use Rattle.answer_write.specs.Answers.{load_error}
use Rattle.answer_write.specs.Reserved.{IsReserved}
use Rattle.item_answer.specs.Answers.{AnswersItem, EndsAnswer}
use Rattle.item_answer.specs.declared.fault.ItemFault.{ItemFault}
use Rattle.item_answer.proofs.Ends.{answers_ended, at_ok, ends_answer, ends_begun, never_memory}
use Rattle.item_answer.proofs.Steps.{late_uses, part_none, refused_installed, same_test}
use Rattle.item_answer.proofs.refusing.refuse_with_leaf.Goals as goal

pub returns-in-Err-clause-item : goal.returns-in-Err-clause-item
returns-in-Err-clause-item g c = λ tells at item given.
    let m : Module = c.args.store.now.module in
    let v = g.B.Board.view c.args.board.now in
    record {
      loads = tt;
      partly = part_none m at (standing_of m (manifest_of c.args.store.now) v.cells) (item ∷ []) v v (same_test v.sent);
      moments = λ told. c.items_follow_each_other.ensures.begun c.args.board.now m at _ (item ∷ []) (c.requires.settled tells)
          (c.args.store.now.running, manifest_of c.args.store.now, c.requires.holds tells, refl);
    }

pub returns-in-Err-clause-ends : goal.returns-in-Err-clause-ends
returns-in-Err-clause-ends g c = ends_begun g.B.Board.tells_cells 0 (g.B.Board.view c.args.board.now)

pub returns-in-Ok-clause-item : goal.returns-in-Ok-clause-item
returns-in-Ok-clause-item g c = λ tells at item given.
    let m : Module = c.args.store.now.module in
    let old = g.B.Board.view c.args.board.now in
    let new = g.B.Board.view c.reply.new.board in
    let start : Standing = standing_of m (manifest_of c.args.store.now) old.cells in
    let name : Option PackageName = option_copied c.args.name in
    let verdict : Verdict = refuses c.args.failing name in
    let answers = subst (λ (t : List ℕ). IsReserved m load_error t c.in-Ok.error)
    (sym (c.errors_see_no_image.ensures.octets (image_octets old.cells) m c.args.store.now.state c.args.failing name)) c.in-Ok.ensures.answer in
    let installed = refused_installed m at start item c.args.failing name old given (c.args.store.now.running, manifest_of c.args.store.now, c.requires.holds tells, refl) (c.requires.settled tells) in
    subst (λ (r : Result Unit ItemFault). AnswersItem g.B.Board.tells_moments m at start item verdict old new r) (sym c.end_of.ensures.end)
    (answers_ended g.B.Board.tells_moments m at start item verdict old new c.reply.result
    (c.reply.ensures.item tells at start item verdict (late_uses c.args.failing c.requires.late) answers installed))

pub returns-in-Ok-clause-holds : goal.returns-in-Ok-clause-holds
returns-in-Ok-clause-holds g c = λ tells.
    let m : Module = c.args.store.now.module in
    let old = g.B.Board.view c.args.board.now in
    let new = g.B.Board.view c.reply.new.board in
    at_ok c.end_of.result
    (c.rows_stand_apart.ensures.row old.cells new.cells m c.args.store.now.running (manifest_of c.args.store.now) (c.requires.holds tells)
    (keeps_wider old.cells new.cells (λ i first. c.first_unspent_is_in_the_row.ensures.block (leaf_count m.key) old.cells i c.reply.ensures.count first)
    (c.reply.ensures.changes.cells tells))).0

pub returns-in-Ok-clause-memory : goal.returns-in-Ok-clause-memory
returns-in-Ok-clause-memory g c = λ is. absurd (never_memory c.reply.result (sym c.end_of.ensures.end ∙ is))

pub returns-in-Ok-clause-ends : goal.returns-in-Ok-clause-ends
returns-in-Ok-clause-ends g c =
    let old = g.B.Board.view c.args.board.now in
    let new = g.B.Board.view c.reply.new.board in
    let answered = c.reply.ensures in
    subst (λ (r : Result Unit ItemFault). EndsAnswer g.B.Board.tells_cells 0 old new r) (sym c.end_of.ensures.end)
    (ends_answer g.B.Board.tells_cells 0 old new c.reply.result answered.settled answered.changes.blocks
    (omega (arith, answered.erased), omega (arith, answered.erased)) answered.cause)
