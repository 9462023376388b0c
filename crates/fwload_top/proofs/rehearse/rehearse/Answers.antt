use Rattle.std.proofs.Common.{ℕ, List, [], true, refl, sym, subst}
use Rattle.fwload_top.specs.Reply.{Replies}
use Rattle.fwload_top.specs.Rehearse.{rehearse, Rehearses, answer_status}
use Rattle.fwload_top.specs.Rehearse.Outcome.{rehearsed}
use Rattle.fwload_top.proofs.RehearsalLemmas.{has_line}
use Rattle.fwload_top.proofs.AnswersOnceLemmas.{HasLine, not_read, read_then_no_memory, read_then_sent, on_any_board}
use Rattle.fwload_top.proofs.rehearse.rehearse.Goals as goal

pub returns-in-Err : goal.returns-in-Err
returns-in-Err g c = record {
  runs = not_read (rehearse c.args.at) (g.S.Source.supply c.args.source.now)
      (g.S.Source.supply c.read_input.new.source) (g.B.Board.view c.args.board.now)
      (g.met.B.Board.honest c.args.board.now) (rehearsed true [], tt, λ told. tt) c.from.result c.in-Err.fault
      c.from.ensures c.in-Err.ensures.not_read;
}

pub returns-in-Ok-rehearse_input : goal.returns-in-Ok-rehearse_input
returns-in-Ok-rehearse_input g c =
    let source = g.S.Source.supply c.args.source.now in
    let source' = g.S.Source.supply c.read_input.new.source in
    let board = g.B.Board.view c.args.board.now in
    let new = g.B.Board.view c.send_answer.new.board in
    let input = c.in-Ok.input.items in
    let was = c.in-Ok.ensures.read in
    let done = c.in-Ok-rehearse_input.done in
    let sent = c.send_answer in record {
      runs = read_then_sent (rehearse c.args.at) source source' board (g.met.B.Board.honest c.args.board.now)
          (rehearsed done.refuses done.lines.items, tt, λ told. tt) input was new
          (rehearsed done.refuses done.lines.items)
          (on_any_board source source' board (answer_status done.refuses) done.lines.items input
          (λ input. Rehearses c.args.at done.refuses input done.lines.items) was
          (subst (λ (input : List ℕ). Rehearses c.args.at done.refuses input done.lines.items) c.deref.ensures.value
          c.in-Ok-rehearse_input.ensures))
          (λ cells. refl) c.status.result sent.result
          (subst (λ (l : List ℕ). Replies g.B.Board.tells_cells g.B.Board.tells_moments c.status.result sent.result l
          board new) c.deref-in-Ok-rehearse_input.ensures.value sent.ensures)
          (subst HasLine (sym c.status.ensures) (has_line done.refuses)) (sym c.status.ensures);
    }

pub returns : goal.returns
returns g c = record {
  runs = read_then_no_memory (rehearse c.args.at) (g.S.Source.supply c.args.source.now)
      (g.S.Source.supply c.read_input.new.source) (g.B.Board.view c.args.board.now)
      (g.met.B.Board.honest c.args.board.now) (rehearsed true [], tt, λ told. tt) c.in-Ok.input.items
      c.in-Ok.ensures.read;
}
