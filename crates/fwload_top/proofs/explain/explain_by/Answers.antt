use Rattle.std.proofs.Common.{List, ℕ, [], None, refl, sym, subst}
use Rattle.module_store.specs.Store.{manifest_of}
use Rattle.config_table.specs.Stored.{lengths}
use Rattle.judge_core.specs.Verdicts.{bench}
use Rattle.fwload_top.specs.Reply.{Replies}
use Rattle.fwload_top.specs.Explain.{explain, Explains}
use Rattle.fwload_top.specs.Explain.Outcome.{explained}
use Rattle.fwload_top.proofs.ExplainLemmas.{has_line}
use Rattle.fwload_top.proofs.StandingLemmas.{stands_at}
use Rattle.fwload_top.proofs.AnswersOnceLemmas.{HasLine, not_read, read_then_no_memory, read_then_sent, has_input}
use Rattle.fwload_top.proofs.explain.explain_by.Goals as goal

pub returns-in-Err : goal.returns-in-Err
returns-in-Err g c =
    let start = g.B.Board.view c.args.board.now in
    let store = c.args.store.now in record {
      runs = not_read (explain c.args.at) (g.S.Source.supply c.args.source.now)
          (g.S.Source.supply c.read_input.new.source) start (g.met.B.Board.honest c.args.board.now) (
            explained store.module store.sequence (lengths store.state) None [],
            tt,
            λ told.
                stands_at store start.cells (c.requires.holds told)
                (c.images_have_their_lengths.ensures.lengths start.cells store.module store.running (manifest_of store)
                (c.requires.holds told)),
          ) c.from.result c.in-Err.fault c.from.ensures c.in-Err.ensures.not_read;
    }

pub returns-in-Ok-explain_item : goal.returns-in-Ok-explain_item
returns-in-Ok-explain_item g c =
    let at = c.args.at in
    let source = g.S.Source.supply c.args.source.now in
    let source' = g.S.Source.supply c.read_input.new.source in
    let start = g.B.Board.view c.args.board.now in
    let new = g.B.Board.view c.send_answer.new.board in
    let store = c.args.store.now in
    let input = c.in-Ok.input.items in
    let was = c.in-Ok.ensures.read in
    let done = c.in-Ok-explain_item.done in
    let outcome = explained store.module store.sequence (lengths store.state) done.refused done.lines.items in
    let by = bench store.module store.state store.sequence at in
    let stands = λ (told : g.B.Board.tells_cells). stands_at store start.cells (c.requires.holds told)
    (c.images_have_their_lengths.ensures.lengths start.cells store.module store.running (manifest_of store)
    (c.requires.holds told)) in
    let sent = c.send_answer in record {
      runs = read_then_sent (explain at) source source' start (g.met.B.Board.honest c.args.board.now)
          (outcome, tt, stands) input was new outcome
          (record {
            cells = stands;
            blocks = c.requires.blocks;
            input = has_input source source' input (λ input. Explains by input done.refused done.lines.items) was
                (subst (λ (input : List ℕ). Explains by input done.refused done.lines.items) c.deref.ensures.value
                c.in-Ok-explain_item.ensures.explains);
          })
          (λ cells. refl) c.status.result sent.result
          (subst (λ (l : List ℕ). Replies g.B.Board.tells_cells g.B.Board.tells_moments c.status.result sent.result l
          start new) c.deref-in-Ok-explain_item.ensures.value sent.ensures)
          (subst HasLine (sym c.status.ensures) (has_line done.refused)) (sym c.status.ensures);
    }

pub returns : goal.returns
returns g c =
    let start = g.B.Board.view c.args.board.now in
    let store = c.args.store.now in record {
      runs = read_then_no_memory (explain c.args.at) (g.S.Source.supply c.args.source.now)
          (g.S.Source.supply c.read_input.new.source) start (g.met.B.Board.honest c.args.board.now) (
            explained store.module store.sequence (lengths store.state) None [],
            tt,
            λ told.
                stands_at store start.cells (c.requires.holds told)
                (c.images_have_their_lengths.ensures.lengths start.cells store.module store.running (manifest_of store)
                (c.requires.holds told)),
          ) c.in-Ok.input.items c.in-Ok.ensures.read;
    }
