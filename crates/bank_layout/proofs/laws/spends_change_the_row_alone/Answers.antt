use Rattle.edge_board.proofs.RunLemmas.{keeps_settled, keeps_wider, leaves_weaker}
use Rattle.bank_layout.specs.Changes.{LooksAsButRow}
use Rattle.bank_layout.proofs.Recovering.{row_alone}
use Rattle.bank_layout.proofs.laws.spends_change_the_row_alone.Goals as goal

pub returns-clause-now : goal.returns-clause-now
returns-clause-now g c = λ told old new leaves m running manifest count holds touches.
    let a = (g.B.Board.view old).cells in
    let b = (g.B.Board.view new).cells in
    row_alone a b m running manifest holds
    (keeps_wider a b (λ i. c.first_unspent_is_in_the_row.ensures.block leaves a i count) (touches.cells told))

pub returns-clause-moments : goal.returns-clause-moments
returns-clause-moments g c = λ told old new leaves m running manifest count holds settled touches.
    let v = g.B.Board.view old in
    leaves_weaker v (g.B.Board.view new) _ (λ image s. LooksAsButRow v.cells image m running manifest × v.sent s)
    (touches.images told)
    (λ image s spares. (
      row_alone v.cells image m running manifest holds
          (keeps_wider v.cells image (λ i. c.first_unspent_is_in_the_row.ensures.block leaves v.cells i count)
          (keeps_settled v image settled spares.0)),
      spares.1,
    ))
