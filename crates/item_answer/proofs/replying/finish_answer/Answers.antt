use Rattle.std.proofs.Common.{◌≡◌, ℕ, ◌<◌, List, length, Err, sym, ◌∙◌, ap, subst, arith}
use Rattle.edge_board.specs.Runs.{Touches}
use Rattle.key_state.specs.Row.{spent_in, use_in, IsUsedUp}
use Rattle.key_state.specs.KeyBlock.{FirstUnspent, row_of, IsLeafCount}
use Rattle.lms_sign.specs.PublicKeys.{leaf_count}
use Rattle.bank_layout.specs.Recovery.{Recovers}
use Rattle.bank_layout.specs.Recovery.Holder.{module_board}
use Rattle.answer_write.specs.Answers.{signed_answer}
use Rattle.load_claims.specs.Items.{after, answer_type, answer_text}
use Rattle.load_claims.proofs.ItemLemmas.{answer_signed}
use Rattle.item_answer.proofs.replying.finish_answer.Goals as goal

pub returns-in-Ok-clause-found : goal.returns-in-Ok-clause-found
returns-in-Ok-clause-found g c = λ told at start item verdict uses installed.
    let is = c.leaf_count.ensures.value in
    let old = g.B.Board.view c.args.board.now in
    let new = g.B.Board.view c.spend.new.board in
    c.spending_is_inside.ensures.spent told c.args.board.now c.spend.new.board c.args.owner.now at start item verdict uses
    (subst IsLeafCount is c.leaf_count.ensures.row) installed
    (subst (λ (n : ℕ). Touches g.B.Board.tells_cells (FirstUnspent n old.cells) old new) is c.spend.ensures.touches)
    (subst (λ (n : ℕ). row_of n new.cells ≡ use_in (row_of n old.cells)) is (c.in-Ok.ensures.row told))

pub returns-in-Ok-clause-octets : goal.returns-in-Ok-clause-octets
returns-in-Ok-clause-octets g c = λ told start verdict row uses answers.
    let m = c.args.owner.now in
    let is = c.leaf_count.ensures.value in
    let cells = (g.B.Board.view c.args.board.now).cells in
    let count : IsLeafCount (leaf_count m.key) = subst IsLeafCount is c.leaf_count.ensures.row in
    let size : length (row_of (leaf_count m.key) cells) ≡ leaf_count m.key = c.row_has_a_place_a_leaf.ensures.length told c.args.board.now (leaf_count m.key) count c.requires.blocks in
    let leaf : c.in-Ok.leaf ≡ spent_in start.row = c.in-Ok.ensures.leaf told ∙ ap (λ (n : ℕ). spent_in (row_of n cells)) is ∙ ap spent_in (sym row) in
    let below : c.in-Ok.leaf < leaf_count m.key = omega (arith, c.in-Ok.ensures.below, is) in
    let lt : spent_in start.row < length start.row = omega (arith, leaf, below, size, ap length row) in
    c.finish_signed.ensures.octets m (answer_type verdict) (answer_text m start verdict) (sym c.requires.tree) answers
    ∙ ap (λ (n : ℕ). signed_answer m n (answer_type verdict) (answer_text m start verdict)) leaf
    ∙ sym (answer_signed m start verdict uses lt)

pub returns-in-Err-AllSpent-clause-found : goal.returns-in-Err-AllSpent-clause-found
returns-in-Err-AllSpent-clause-found g c = λ told at start item verdict uses installed.
    let m = c.args.owner.now in
    let is = c.leaf_count.ensures.value in
    let cells = (g.B.Board.view c.args.board.now).cells in
    let full : IsUsedUp (row_of (leaf_count m.key) cells) = subst (λ (n : ℕ). IsUsedUp (row_of n cells)) is (c.in-Err-AllSpent.ensures.all_spent told (ap Err c.in-Err-AllSpent.field-0-is)) in
    let same = c.in-Err-AllSpent.ensures.unchanged told (ap Err c.in-Err-AllSpent.field-0-is) in
    subst (λ (l : List ℕ). Recovers l (module_board m (after start verdict))) (sym same.cells)
    (c.spending_is_inside.ensures.all_spent told c.args.board.now m at start item verdict uses installed full)
