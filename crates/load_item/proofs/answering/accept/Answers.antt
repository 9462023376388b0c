use Rattle.std.proofs.Common.{◌≡◌, [], false, Result, sym, subst, refl, arith, unwrap_or}
use Rattle.std.specs.Prelude.{OnOk}
use Rattle.sha2.specs.Sha256.{sha256}
use Rattle.package_attrs.specs.Description.{description}
use Rattle.content_stream.specs.declared.content_stream.Streamed.{Streamed}
use Rattle.module_record.specs.declared.module.Module.{Module}
use Rattle.bank_layout.specs.Recovery.{HoldsModule, Recovers, Standing, image_octets, standing_of}
use Rattle.bank_layout.specs.Recovery.Holder.{module_board}
use Rattle.judge_core.specs.Verdicts.{Verdict, accepts}
use Rattle.module_store.specs.declared.store.Store.{Store}
use Rattle.module_store.specs.Store.{manifest_of}
use Rattle.item_intake.specs.declared.fault.LoadFault.{LoadFault}
use Rattle.load_claims.specs.Boards.{Loads}
use Rattle.load_claims.specs.Items.{JudgesAt}
use Rattle.load_item.specs.declared.turn.Turn.{Turn}
use Rattle.load_item.specs.declared.turn.Turn.TheVariants as turns
use Rattle.load_item.specs.Answers.{Answers}
use Rattle.load_item.proofs.AnswerLemmas.{answers_of, cause_of, keeps_of, of_what_stands, same_some}
use Rattle.load_item.proofs.answering.accept.Goals as goal

pub returns-clause-answers : goal.returns-clause-answers
returns-clause-answers g c = λ at item content image left streamed judges is digest there turn.
    let s : Store = c.args.store.now in
    let next : Store = c.accept_item.new.store in
    let old = g.B.Board.view c.args.board.now in
    let new = g.B.Board.view c.accept_item.new.board in
    let start : Standing = standing_of s.module (manifest_of s) old.cells in
    let come : Streamed = c.in-Some.streamed in
    let same : streamed ≡ come = same_some c.args.streamed streamed come is c.in-Some.is in
    let verdict : Verdict = accepts (description c.args.offered.now) content image c.args.key_id in
    let begin : g.B.Board.tells_cells → Recovers old.cells (module_board s.module start) = λ tells.
    (s.running, manifest_of s, c.requires.holds tells, refl) in
    let given : g.B.Board.tells_cells → JudgesAt s.module at start item verdict = λ tells.
    of_what_stands c.images_have_their_lengths.ensures.lengths s old.cells at item verdict (c.requires.holds tells) judges in
    subst (λ (r : Result Turn LoadFault). Answers g.B.Board.tells_cells g.B.Board.tells_moments s.module at start
    (standing_of s.module (manifest_of next) new.cells) item left old new r) (sym c.turn_of.ensures.turn)
    (answers_of c.each_image_has_one_holder.ensures.one s.module at start item left old new next.running (manifest_of next) turns.Accepted
    verdict 34 (g.met.B.Board.honest c.args.board.now).whole turn refl refl (omega arith) c.accept_item.result
    (λ tells. c.accept_item.ensures.item tells at item content image (given tells)
    (subst (λ (x : Streamed). x.image_digest ≡ sha256 image) same digest)
    (subst (λ (x : Streamed). image_octets old.cells (record { length = x.length; blocks = unwrap_or x.blocks [] }) ≡ image) same (there tells)))
    (λ tells want. subst (λ b. Loads s.module at start start [] false old (g.B.Board.view b)) (sym (c.accept_item.ensures.memory want))
    (c.items_follow_each_other.ensures.begins c.args.board.now s.module at start (begin tells)))
    (λ tells. subst (λ (m : Module). OnOk c.accept_item.result (HoldsModule new.cells m next.running (manifest_of next)))
    c.accept_item.ensures.owner (c.accept_item.ensures.holds tells)) c.accept_item.ensures.ends)

pub returns-clause-keeps : goal.returns-clause-keeps
returns-clause-keeps g c =
    keeps_of (g.B.Board.view c.args.board.now) (g.B.Board.view c.accept_item.new.board) turns.Accepted c.args.store.now
    c.accept_item.new.store c.accept_item.result c.turn_of.result c.turn_of.ensures.turn c.accept_item.ensures.owner
    c.accept_item.ensures.valid c.accept_item.ensures.quiet c.accept_item.ensures.holds c.accept_item.ensures.ends

pub returns-clause-device : goal.returns-clause-device
returns-clause-device g c =
    cause_of (g.B.Board.view c.args.board.now) (g.B.Board.view c.accept_item.new.board) turns.Accepted
    c.accept_item.result c.turn_of.result c.turn_of.ensures.turn c.accept_item.ensures.ends
