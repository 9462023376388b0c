use Rattle.std.proofs.Common.{List, ℕ, refl, sym, ap, subst, ◌∙◌, ◌++◌}
use Rattle.der_core.proofs.Shapes.{Reads-some, Reads-none}
use Rattle.package_attrs.specs.Identifier.{view}
use Rattle.report_text.specs.Names.{identifier_line}
use Rattle.fwload_top.specs.declared.status.Status.TheVariants.{Done, Refused}
use Rattle.fwload_top.specs.Reply.{Replies}
use Rattle.fwload_top.specs.Ident.{ident, Spells, SpellsNone, refused_input}
use Rattle.fwload_top.specs.Ident.Outcome.{spelled, no_identifier}
use Rattle.fwload_top.proofs.AnswersOnceLemmas.{not_read, read_then_no_memory, read_then_sent, on_any_board}
use Rattle.fwload_top.proofs.ident.ident.Goals as goal

pub returns-in-Err : goal.returns-in-Err
returns-in-Err g c = record {
  runs = not_read ident (g.S.Source.supply c.args.source.now) (g.S.Source.supply c.read_input.new.source)
      (g.B.Board.view c.args.board.now) (g.met.B.Board.honest c.args.board.now) (no_identifier, tt, λ told. tt)
      c.from.result c.in-Err.fault c.from.ensures c.in-Err.ensures.not_read;
}

pub returns-in_default : goal.returns-in_default
returns-in_default g c =
    let source = g.S.Source.supply c.args.source.now in
    let source' = g.S.Source.supply c.read_input.new.source in
    let board = g.B.Board.view c.args.board.now in
    let input = c.in-Ok.input.items in
    let was = c.in-Ok.ensures.read in record {
      runs = read_then_sent ident source source' board (g.met.B.Board.honest c.args.board.now)
          (no_identifier, tt, λ told. tt) input was (g.B.Board.view c.send_answer.new.board) no_identifier
          (on_any_board source source' board Refused refused_input input SpellsNone was
          (λ i spells. Reads-none c.deref.result.now c.in_default.ensures.spelled i spells.0
          (c.deref.ensures.value ∙ spells.1)))
          (λ cells. refl) Refused c.send_answer.result c.send_answer.ensures tt refl;
    }

pub returns-in-Ok-put_identifier_line : goal.returns-in-Ok-put_identifier_line
returns-in-Ok-put_identifier_line g c =
    let source = g.S.Source.supply c.args.source.now in
    let source' = g.S.Source.supply c.read_input.new.source in
    let board = g.B.Board.view c.args.board.now in
    let sent = c.send_answer-in-Ok-put_identifier_line in
    let new = g.B.Board.view sent.new.board in
    let input = c.in-Ok.input.items in
    let was = c.in-Ok.ensures.read in
    let i = view c.in-Some.identifier in
    let found = Reads-some c.deref.result.now i c.in-Some.ensures.spelled in record {
      runs = read_then_sent ident source source' board (g.met.B.Board.honest c.args.board.now)
          (no_identifier, tt, λ told. tt) input was new (spelled i)
          (on_any_board source source' board Done (identifier_line i) input (Spells i) was
          (found.0, sym c.deref.ensures.value ∙ found.1))
          (λ cells. refl) Done sent.result
          (subst (λ (l : List ℕ). Replies g.B.Board.tells_cells g.B.Board.tells_moments Done sent.result l board new)
          (c.deref-in-Ok-put_identifier_line.ensures.value ∙ c.in-Ok-put_identifier_line.ensures.ok
          ∙ ap (λ (l : List ℕ). l ++ identifier_line i) c.new-line.ensures.items) sent.ensures) tt refl;
    }

pub returns : goal.returns
returns g c = record {
  runs = read_then_no_memory ident (g.S.Source.supply c.args.source.now) (g.S.Source.supply c.read_input.new.source)
      (g.B.Board.view c.args.board.now) (g.met.B.Board.honest c.args.board.now) (no_identifier, tt, λ told. tt)
      c.in-Ok.input.items c.in-Ok.ensures.read;
}
