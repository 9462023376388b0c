use Rattle.std.proofs.Common.{[], false, Result, sym, subst, refl, arith}
use Rattle.std.specs.Option.{option_copied}
use Rattle.edge_board.specs.Board.{IsSettled}
use Rattle.bank_layout.specs.Recovery.{Recovers, Standing, standing_of}
use Rattle.bank_layout.specs.Recovery.Holder.{module_board}
use Rattle.judge_core.specs.Verdicts.{Verdict, refuses}
use Rattle.module_store.specs.declared.store.Store.{Store}
use Rattle.module_store.specs.Store.{IsStoreOf, manifest_of}
use Rattle.item_intake.specs.declared.fault.LoadFault.{LoadFault}
use Rattle.load_claims.specs.Boards.{Loads}
use Rattle.load_claims.specs.Items.{JudgesAt}
use Rattle.load_item.specs.declared.turn.Turn.{Turn}
use Rattle.load_item.specs.Answers.{Answers}
use Rattle.load_item.proofs.AnswerLemmas.{answers_of, cause_of, of_what_stands, ok_of}
use Rattle.load_item.proofs.answering.refuse.Goals as goal

pub refuse_plainly-requires-clause-few : goal.refuse_plainly-requires-clause-few
refuse_plainly-requires-clause-few g c =
    (c.packages_with_room_can_be_prepared.ensures.kept c.args.store.now c.requires.valid).packages

pub refuse_with_leaf-requires-clause-few : goal.refuse_with_leaf-requires-clause-few
refuse_with_leaf-requires-clause-few g c =
    (c.packages_with_room_can_be_prepared.ensures.kept c.args.store.now c.requires.valid).packages

pub returns-then-number-lt-FIRST_SIGNED-clause-answers : goal.returns-then-number-lt-FIRST_SIGNED-clause-answers
returns-then-number-lt-FIRST_SIGNED-clause-answers g c = λ at item left judges is some refused.
    let s : Store = c.args.store.now in
    let old = g.B.Board.view c.args.board.now in
    let new = g.B.Board.view c.refuse_plainly.new.board in
    let start : Standing = standing_of s.module (manifest_of s) old.cells in
    let verdict : Verdict = refuses c.args.failing (option_copied c.args.name) in
    let begin : g.B.Board.tells_cells → Recovers old.cells (module_board s.module start) = λ tells.
    (s.running, manifest_of s, c.requires.holds tells, refl) in
    let given : g.B.Board.tells_cells → JudgesAt s.module at start item verdict = λ tells.
    of_what_stands c.images_have_their_lengths.ensures.lengths s old.cells at item verdict (c.requires.holds tells) judges in
    subst (λ (r : Result Turn LoadFault). Answers g.B.Board.tells_cells g.B.Board.tells_moments s.module at start
    (standing_of s.module (manifest_of s) new.cells) item left old new r) (sym c.turn_of.ensures.turn)
    (answers_of c.each_image_has_one_holder.ensures.one s.module at start item left old new s.running (manifest_of s) c.args.turn
    verdict 0 (g.met.B.Board.honest c.args.board.now).whole is some (sym refused) (omega arith) c.refuse_plainly.result
    (λ tells. c.refuse_plainly.ensures.item tells at item (given tells))
    (λ tells want. subst (λ b. Loads s.module at start start [] false old (g.B.Board.view b)) (sym (c.refuse_plainly.ensures.memory want))
    (c.items_follow_each_other.ensures.begins c.args.board.now s.module at start (begin tells)))
    c.refuse_plainly.ensures.holds c.refuse_plainly.ensures.ends)

pub returns-then-number-lt-FIRST_SIGNED-clause-holds : goal.returns-then-number-lt-FIRST_SIGNED-clause-holds
returns-then-number-lt-FIRST_SIGNED-clause-holds g c = λ tells.
    ok_of c.args.turn (IsStoreOf c.args.store.now (g.B.Board.view c.refuse_plainly.new.board).cells) c.refuse_plainly.result
    c.turn_of.result c.turn_of.ensures.turn (c.refuse_plainly.ensures.holds tells)

pub returns-then-number-lt-FIRST_SIGNED-clause-settled : goal.returns-then-number-lt-FIRST_SIGNED-clause-settled
returns-then-number-lt-FIRST_SIGNED-clause-settled g c = λ tells.
    ok_of c.args.turn (IsSettled (g.B.Board.view c.refuse_plainly.new.board)) c.refuse_plainly.result
    c.turn_of.result c.turn_of.ensures.turn (c.refuse_plainly.ensures.ends.settled tells)

pub returns-then-number-lt-FIRST_SIGNED-clause-device : goal.returns-then-number-lt-FIRST_SIGNED-clause-device
returns-then-number-lt-FIRST_SIGNED-clause-device g c =
    cause_of (g.B.Board.view c.args.board.now) (g.B.Board.view c.refuse_plainly.new.board) c.args.turn c.refuse_plainly.result
    c.turn_of.result c.turn_of.ensures.turn c.refuse_plainly.ensures.ends

pub returns-else-number-lt-FIRST_SIGNED-clause-answers : goal.returns-else-number-lt-FIRST_SIGNED-clause-answers
returns-else-number-lt-FIRST_SIGNED-clause-answers g c = λ at item left judges is some refused.
    let s : Store = c.args.store.now in
    let old = g.B.Board.view c.args.board.now in
    let new = g.B.Board.view c.refuse_with_leaf.new.board in
    let start : Standing = standing_of s.module (manifest_of s) old.cells in
    let verdict : Verdict = refuses c.args.failing (option_copied c.args.name) in
    let begin : g.B.Board.tells_cells → Recovers old.cells (module_board s.module start) = λ tells.
    (s.running, manifest_of s, c.requires.holds tells, refl) in
    let given : g.B.Board.tells_cells → JudgesAt s.module at start item verdict = λ tells.
    of_what_stands c.images_have_their_lengths.ensures.lengths s old.cells at item verdict (c.requires.holds tells) judges in
    subst (λ (r : Result Turn LoadFault). Answers g.B.Board.tells_cells g.B.Board.tells_moments s.module at start
    (standing_of s.module (manifest_of s) new.cells) item left old new r) (sym c.turn_of-else-number-lt-FIRST_SIGNED.ensures.turn)
    (answers_of c.each_image_has_one_holder.ensures.one s.module at start item left old new s.running (manifest_of s) c.args.turn
    verdict 0 (g.met.B.Board.honest c.args.board.now).whole is some (sym refused) (omega arith) c.refuse_with_leaf.result
    (λ tells. c.refuse_with_leaf.ensures.item tells at item (given tells))
    (λ tells want. subst (λ b. Loads s.module at start start [] false old (g.B.Board.view b)) (sym (c.refuse_with_leaf.ensures.memory want))
    (c.items_follow_each_other.ensures.begins c.args.board.now s.module at start (begin tells)))
    c.refuse_with_leaf.ensures.holds c.refuse_with_leaf.ensures.ends)

pub returns-else-number-lt-FIRST_SIGNED-clause-holds : goal.returns-else-number-lt-FIRST_SIGNED-clause-holds
returns-else-number-lt-FIRST_SIGNED-clause-holds g c = λ tells.
    ok_of c.args.turn (IsStoreOf c.args.store.now (g.B.Board.view c.refuse_with_leaf.new.board).cells) c.refuse_with_leaf.result
    c.turn_of-else-number-lt-FIRST_SIGNED.result c.turn_of-else-number-lt-FIRST_SIGNED.ensures.turn (c.refuse_with_leaf.ensures.holds tells)

pub returns-else-number-lt-FIRST_SIGNED-clause-settled : goal.returns-else-number-lt-FIRST_SIGNED-clause-settled
returns-else-number-lt-FIRST_SIGNED-clause-settled g c = λ tells.
    ok_of c.args.turn (IsSettled (g.B.Board.view c.refuse_with_leaf.new.board)) c.refuse_with_leaf.result
    c.turn_of-else-number-lt-FIRST_SIGNED.result c.turn_of-else-number-lt-FIRST_SIGNED.ensures.turn (c.refuse_with_leaf.ensures.ends.settled tells)

pub returns-else-number-lt-FIRST_SIGNED-clause-device : goal.returns-else-number-lt-FIRST_SIGNED-clause-device
returns-else-number-lt-FIRST_SIGNED-clause-device g c =
    cause_of (g.B.Board.view c.args.board.now) (g.B.Board.view c.refuse_with_leaf.new.board) c.args.turn c.refuse_with_leaf.result
    c.turn_of-else-number-lt-FIRST_SIGNED.result c.turn_of-else-number-lt-FIRST_SIGNED.ensures.turn c.refuse_with_leaf.ensures.ends
