use Rattle.std.proofs.Common.{ℕ, List, [], ◌∷◌, Result, refl, sym, ◌∙◌, ap, subst, unwrap_or}
use Rattle.std.specs.Prelude.{OnOk}
use Rattle.config_table.specs.State.{offer_of}
use Rattle.config_table.specs.Stored.{Stored}
use Rattle.package_attrs.specs.Description.{description}
use Rattle.module_record.specs.declared.module.Module.{Module}
use Rattle.bank_layout.specs.Manifest.{Manifest}
use Rattle.bank_layout.specs.Recovery.{Standing, standing_of}
use Rattle.judge_core.specs.Verdicts.{Verdict, accepts}
use Rattle.module_store.specs.Store.{IsQuiet, IsStore, IsStoreOf, manifest_of}
use Rattle.item_answer.specs.Answers.{AnswersItem, EndsAnswer}
use Rattle.item_answer.specs.declared.fault.ItemFault.{ItemFault}
use Rattle.item_answer.proofs.Ends.{answers_ended, ends_answer, ends_begun, never_memory, on_ended}
use Rattle.item_answer.proofs.Steps.{part_none, same_test, with_digest}
use Rattle.item_answer.proofs.accepting.accept_item.Goals as goal

pub returns-in-Err-clause-item : goal.returns-in-Err-clause-item
returns-in-Err-clause-item g c = λ tells at item content image given digest there.
    let m : Module = c.args.store.now.module in
    let v = g.B.Board.view c.args.board.now in
    let manifest : Manifest = manifest_of c.args.store.now in
    record {
      loads = tt;
      partly = part_none m at (standing_of m manifest v.cells) (item ∷ []) v v (same_test v.sent);
      moments = λ told. c.items_follow_each_other.ensures.begun c.args.board.now m at _ (item ∷ []) (c.requires.settled tells)
          (c.args.store.now.running, manifest, c.requires.holds tells, refl);
    }

pub returns-in-Err-clause-ends : goal.returns-in-Err-clause-ends
returns-in-Err-clause-ends g c = ends_begun g.B.Board.tells_cells 34 (g.B.Board.view c.args.board.now)

pub returns-in-Ok-clause-item : goal.returns-in-Ok-clause-item
returns-in-Ok-clause-item g c = λ tells at item content image given digest there.
    let m : Module = c.args.store.now.module in
    let manifest : Manifest = manifest_of c.args.store.now in
    let old = g.B.Board.view c.args.board.now in
    let new = g.B.Board.view c.install_and_reply.new.board in
    let start : Standing = standing_of m manifest old.cells in
    let verdict : Verdict = accepts (description c.args.offered.now) content image c.args.anchor_key.now in
    let stored : Stored = record { length = c.args.streamed.length; blocks = unwrap_or c.args.streamed.blocks [] } in
    let made = c.in-Ok.ensures.made ∙ ap (λ (d : List ℕ). with_digest manifest (offer_of (description c.args.offered.now)) stored d) digest in
    subst (λ (r : Result Unit ItemFault). AnswersItem g.B.Board.tells_moments m at start item verdict old new r) (sym c.end_of.ensures.end)
    (answers_ended g.B.Board.tells_moments m at start item verdict old new c.install_and_reply.result
    (c.install_and_reply.ensures.item tells at item (description c.args.offered.now) content image c.args.anchor_key.now stored given there made c.in-Ok.ensures.answer))

pub returns-in-Ok-clause-holds : goal.returns-in-Ok-clause-holds
returns-in-Ok-clause-holds g c = λ tells.
    subst (λ (r : Result Unit ItemFault). OnOk r (IsStoreOf c.install_and_reply.new.store (g.B.Board.view c.install_and_reply.new.board).cells)) (sym c.end_of.ensures.end)
    (on_ended _ c.install_and_reply.result (c.install_and_reply.ensures.holds tells))

pub returns-in-Ok-clause-valid : goal.returns-in-Ok-clause-valid
returns-in-Ok-clause-valid g c =
    subst (λ (r : Result Unit ItemFault). OnOk r (IsStore c.install_and_reply.new.store)) (sym c.end_of.ensures.end)
    (on_ended _ c.install_and_reply.result c.install_and_reply.ensures.valid)

pub returns-in-Ok-clause-quiet : goal.returns-in-Ok-clause-quiet
returns-in-Ok-clause-quiet g c =
    subst (λ (r : Result Unit ItemFault). OnOk r (IsQuiet c.install_and_reply.new.store)) (sym c.end_of.ensures.end)
    (on_ended _ c.install_and_reply.result c.install_and_reply.ensures.quiet)

pub returns-in-Ok-clause-memory : goal.returns-in-Ok-clause-memory
returns-in-Ok-clause-memory g c = λ is. absurd (never_memory c.install_and_reply.result (sym c.end_of.ensures.end ∙ is))

pub returns-in-Ok-clause-ends : goal.returns-in-Ok-clause-ends
returns-in-Ok-clause-ends g c =
    let old = g.B.Board.view c.args.board.now in
    let new = g.B.Board.view c.install_and_reply.new.board in
    let answered = c.install_and_reply.ensures in
    subst (λ (r : Result Unit ItemFault). EndsAnswer g.B.Board.tells_cells 34 old new r) (sym c.end_of.ensures.end)
    (ends_answer g.B.Board.tells_cells 34 old new c.install_and_reply.result answered.settled answered.blocks answered.erased answered.cause)
