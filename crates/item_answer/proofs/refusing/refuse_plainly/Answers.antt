use Rattle.std.proofs.Common.{◌≡◌, ℕ, List, [], ◌∷◌, Result, refl, sym, ◌∙◌, subst, arith, inl}
use Rattle.std.specs.Prelude.{Option}
use Rattle.std.specs.Option.{option_copied}
use Rattle.edge_board.proofs.RunLemmas.{keeps_none}
use Rattle.package_attrs.specs.declared.name.PackageName.{PackageName}
use Rattle.module_record.specs.declared.module.Module.{Module}
use Rattle.bank_layout.specs.Recovery.{Standing, HoldsModule, standing_of, image_octets}
use Rattle.judge_core.specs.Verdicts.{Verdict, refuses}
use Rattle.module_store.specs.Store.{manifest_of}
use Rattle.receipt_writer.specs.Answers.{error_text}
use Rattle.answer_write.specs.Answers.{load_error, plain_answer}
use Rattle.load_claims.specs.Items.{answer as said_by}
use Rattle.load_claims.proofs.ItemLemmas.{answer_plain}
use Rattle.item_answer.specs.Answers.{AnswersItem, EndsAnswer}
use Rattle.item_answer.specs.declared.fault.ItemFault.{ItemFault}
use Rattle.item_answer.proofs.Ends.{answers_ended, at_ok, ends_answer, ends_begun, never_memory}
use Rattle.item_answer.proofs.Steps.{early_uses, part_none, same_test}
use Rattle.item_answer.proofs.refusing.refuse_plainly.Goals as goal

pub returns-in-Err-clause-item : goal.returns-in-Err-clause-item
returns-in-Err-clause-item g c = λ tells at item given.
    let m : Module = c.args.store.now.module in
    let v = g.B.Board.view c.args.board.now in
    record {
      loads = tt;
      partly = part_none m at (standing_of m (manifest_of c.args.store.now) v.cells) (item ∷ []) v v (same_test v.sent);
      moments = λ told. c.items_follow_each_other.ensures.begun c.args.board.now m at _ (item ∷ []) (c.requires.settled tells)
          (c.args.store.now.running, manifest_of c.args.store.now, c.requires.holds tells, refl);
    }

pub returns-in-Err-clause-ends : goal.returns-in-Err-clause-ends
returns-in-Err-clause-ends g c = ends_begun g.B.Board.tells_cells 0 (g.B.Board.view c.args.board.now)

pub returns-in-Ok-clause-item : goal.returns-in-Ok-clause-item
returns-in-Ok-clause-item g c = λ tells at item given.
    let m : Module = c.args.store.now.module in
    let old = g.B.Board.view c.args.board.now in
    let new = g.B.Board.view c.reply_plainly.new.board in
    let start : Standing = standing_of m (manifest_of c.args.store.now) old.cells in
    let name : Option PackageName = option_copied c.args.name in
    let verdict : Verdict = refuses c.args.failing name in
    let unused = early_uses c.args.failing c.requires.early in
    let plain : said_by m start verdict ≡ plain_answer load_error (error_text m c.args.store.now.state c.args.failing name) =
    subst (λ (t : List ℕ). said_by m start verdict ≡ plain_answer load_error t)
    (c.errors_see_no_image.ensures.octets (image_octets old.cells) m c.args.store.now.state c.args.failing name) (answer_plain m start verdict (inl unused)) in
    let said : c.deref.result.now ≡ said_by m start verdict = c.deref.ensures.value ∙ subst (λ (l : List ℕ). c.in-Ok.octets.items ≡ l) (sym plain) c.in-Ok.ensures.octets in
    subst (λ (r : Result Unit ItemFault). AnswersItem g.B.Board.tells_moments m at start item verdict old new r) (sym c.end_of.ensures.end)
    (answers_ended g.B.Board.tells_moments m at start item verdict old new c.reply_plainly.result
    (c.reply_plainly.ensures.item tells m at start item verdict unused said given (c.args.store.now.running, manifest_of c.args.store.now, c.requires.holds tells, refl)))

pub returns-in-Ok-clause-holds : goal.returns-in-Ok-clause-holds
returns-in-Ok-clause-holds g c = λ tells.
    let old = g.B.Board.view c.args.board.now in
    let new = g.B.Board.view c.reply_plainly.new.board in
    at_ok c.end_of.result
    (subst (λ (l : List ℕ). HoldsModule l c.args.store.now.module c.args.store.now.running (manifest_of c.args.store.now))
    (sym (keeps_none old.cells new.cells (c.reply_plainly.ensures.changes.cells tells))) (c.requires.holds tells))

pub returns-in-Ok-clause-memory : goal.returns-in-Ok-clause-memory
returns-in-Ok-clause-memory g c = λ is. absurd (never_memory c.reply_plainly.result (sym c.end_of.ensures.end ∙ is))

pub returns-in-Ok-clause-ends : goal.returns-in-Ok-clause-ends
returns-in-Ok-clause-ends g c =
    let old = g.B.Board.view c.args.board.now in
    let new = g.B.Board.view c.reply_plainly.new.board in
    let answered = c.reply_plainly.ensures in
    subst (λ (r : Result Unit ItemFault). EndsAnswer g.B.Board.tells_cells 0 old new r) (sym c.end_of.ensures.end)
    (ends_answer g.B.Board.tells_cells 0 old new c.reply_plainly.result answered.settled answered.changes.blocks
    (omega (arith, answered.erased), omega (arith, answered.erased)) answered.cause)
