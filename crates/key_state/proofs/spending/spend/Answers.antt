use Rattle.std.proofs.Common.{List, ap, sym, ◌∙◌, ◌≡◌, ◌+◌, ◌<◌, ℕ, arith}
use Rattle.edge_board.specs.Board.{View, Nowhere, Within, Effect, IsHonest, cell}
use Rattle.edge_board.specs.Runs.{Touches}
use Rattle.edge_board.proofs.RunLemmas.{touch_wider, touch_next}
use Rattle.key_state.specs.Row.{spent_in}
use Rattle.key_state.specs.KeyBlock.{row_of, row_start, FirstUnspent}
use Rattle.key_state.proofs.Rows.{row_used, row_fits, row_length}
use Rattle.key_state.proofs.spending.spend.Goals as goal

-- a look at the row, then a blank, then a sync
module _ {tc : Type 0} (leaves : ℕ) (start read : View) (looked : Touches tc Nowhere start read) where
  at_first : Touches tc (FirstUnspent leaves start.cells) start read
  at_first = touch_wider start read (λ told i none. absurd none) looked

  module _ {tm : Type 0} (number : ℕ) (count : tc → number ≡ spent_in (row_of leaves start.cells))
      (below : number < leaves) (blanked : View) (honest : IsHonest tc tm read)
      (blank : Effect tc tm (Within (69632 + number) 1) read blanked) where
    at_blank : Touches tc (FirstUnspent leaves start.cells) start blanked
    at_blank = touch_next start read blanked at_first honest blank
        (λ told i within. let is = count told in (omega (arith, is, below), omega (arith, is, within.0, within.1)))

    at_sync : (synced : View) → IsHonest tc tm blanked → Effect tc tm Nowhere blanked synced
        → Touches tc (FirstUnspent leaves start.cells) start synced
    at_sync synced honest_then sync =
        touch_next start blanked synced at_blank honest_then sync (λ told i none. absurd none)

pub returns-then-number-leaves-clause-touches : goal.returns-then-number-leaves-clause-touches
returns-then-number-leaves-clause-touches g c = touch_wider _ _ (λ told i none. absurd none) c.spent.ensures.touches

pub returns-in_err-blank-clause-touches : goal.returns-in_err-blank-clause-touches
returns-in_err-blank-clause-touches g c =
    at_blank c.args.leaves _ _ c.spent.ensures.touches c.in_ok-number.number
    (λ told. c.in_ok-number.ensures.count told) (omega (arith, c.in_ok-number.ensures.below)) _
    (g.met.B.Board.honest c.spent.new.board) c.blank.ensures.blanks.effect

pub returns-in_err-sync-clause-touches : goal.returns-in_err-sync-clause-touches
returns-in_err-sync-clause-touches g c =
    at_sync c.args.leaves _ _ c.spent.ensures.touches c.in_ok-number.number
    (λ told. c.in_ok-number.ensures.count told) (omega (arith, c.in_ok-number.ensures.below)) _
    (g.met.B.Board.honest c.spent.new.board) c.blank.ensures.blanks.effect _
    (g.met.B.Board.honest c.blank.new.self) c.sync.ensures.syncs.effect

pub returns-clause-touches : goal.returns-clause-touches
returns-clause-touches g c =
    at_sync c.args.leaves _ _ c.spent.ensures.touches c.in_ok-number.number
    (λ told. c.in_ok-number.ensures.count told) (omega (arith, c.in_ok-number.ensures.below)) _
    (g.met.B.Board.honest c.spent.new.board) c.blank.ensures.blanks.effect _
    (g.met.B.Board.honest c.blank.new.self) c.sync.ensures.syncs.effect

pub returns-clause-row : goal.returns-clause-row
returns-clause-row g c = λ told.
    let is = c.in_ok-number.ensures.count told in
    let first = spent_in (row_of c.args.leaves (g.B.Board.view c.args.board.now).cells) in
    row_used c.args.leaves _ _
    (row_fits told c.args.leaves _ (g.met.B.Board.honest c.args.board.now) c.requires.leaves c.requires.blocks)
    (omega (arith, is, c.in_ok-number.ensures.below)) ((returns-clause-touches g c).cells told)
    (ap (λ (l : List ℕ). cell l (row_start + first)) (c.sync.ensures.syncs.cells told)
    ∙ ap (λ (k : ℕ). cell (g.B.Board.view c.blank.new.self).cells (row_start + k)) (sym is)
    ∙ c.in_ok-blank.ensures.blanks.reads told)

pub returns-then-number-leaves-clause-all_spent : goal.returns-then-number-leaves-clause-all_spent
returns-then-number-leaves-clause-all_spent g c = λ told is.
    omega (
      arith,
      c.in_ok-number.ensures.count told,
      c.if-number-leaves.true,
      row_length c.args.leaves (g.B.Board.view c.args.board.now).cells
          (row_fits told c.args.leaves _ (g.met.B.Board.honest c.args.board.now) c.requires.leaves c.requires.blocks),
    )

pub returns-clause-none_left : goal.returns-clause-none_left
returns-clause-none_left g c = λ told is.
    absurd (omega (
      arith,
      is,
      c.in_ok-number.ensures.count told,
      c.in_ok-number.ensures.below,
      c.if-number-leaves.false,
      row_length c.args.leaves (g.B.Board.view c.args.board.now).cells
          (row_fits told c.args.leaves _ (g.met.B.Board.honest c.args.board.now) c.requires.leaves c.requires.blocks),
    ))
