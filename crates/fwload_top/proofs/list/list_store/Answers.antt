use Rattle.std.proofs.Common.{List, ℕ, ◌++◌, refl, subst, ap, ◌∙◌}
use Rattle.key_state.specs.KeyBlock.{row_of}
use Rattle.key_state.specs.Row.{spent_in}
use Rattle.module_store.specs.Store.{manifest_of}
use Rattle.config_table.specs.Stored.{lengths}
use Rattle.report_text.specs.ListLines.{list_lines}
use Rattle.fwload_top.specs.declared.status.Status.TheVariants.{Done}
use Rattle.fwload_top.specs.Reply.{Replies}
use Rattle.fwload_top.specs.List.{list}
use Rattle.fwload_top.specs.List.Outcome.{listed}
use Rattle.fwload_top.proofs.AnswersOnceLemmas.{quiet_touched, wrote_unchanged, poised, supplied_none, failed_run}
use Rattle.fwload_top.proofs.AnswersOnceLemmas.{no_memory_run, line_run}
use Rattle.fwload_top.proofs.StandingLemmas.{stands_at}
use Rattle.fwload_top.proofs.list.list_store.Goals as goal

pub returns-in_default : goal.returns-in_default
returns-in_default g c =
    let start = g.B.Board.view c.args.board.now in
    let mid = g.B.Board.view c.spent.new.board in
    let counts = c.in_default.ensures in record {
      runs = λ source. failed_run list source source start mid
          (wrote_unchanged list source.left start mid (g.met.B.Board.honest c.args.board.now) counts.touches
          counts.cause.later) (supplied_none source start) counts.cause.failed;
    }

pub returns-in-Ok-put_list : goal.returns-in-Ok-put_list
returns-in-Ok-put_list g c =
    let start = g.B.Board.view c.args.board.now in
    let mid = g.B.Board.view c.spent.new.board in
    let new = g.B.Board.view c.send_answer.new.board in
    let store = c.args.store.now in
    let counts = c.in-Ok.ensures in
    let quiet = quiet_touched start mid (g.met.B.Board.honest c.args.board.now) counts.touches counts.cause.calm in
    let outcome = listed store.module store.sequence c.in-Ok.count (lengths store.state) in
    let lines = list_lines store.module store.sequence c.in-Ok.count (lengths store.state) in record {
      runs = λ source. line_run list source source start mid new outcome
          (poised list source source start mid outcome quiet (λ cells. refl)
          (record {
            cells = λ told.
                let holds = c.requires.holds told in record {
                  stands = stands_at store start.cells holds
                      (c.images_have_their_lengths.ensures.lengths start.cells store.module store.running
                      (manifest_of store) holds);
                  spent_is = counts.count told
                      ∙ ap (λ (n : ℕ). spent_in (row_of n start.cells)) c.leaf_count.ensures.value;
                };
            blocks = c.requires.blocks;
            input = tt;
          })
          (λ is. absurd is)) (supplied_none source start) (g.met.B.Board.honest c.spent.new.board) Done
          c.send_answer.result
          (subst (λ (l : List ℕ). Replies g.B.Board.tells_cells g.B.Board.tells_moments Done c.send_answer.result l mid
          new) (c.deref.ensures.value ∙ c.in-Ok-put_list.ensures.ok
          ∙ ap (λ (l : List ℕ). l ++ lines) c.new-lines.ensures.items) c.send_answer.ensures) tt refl;
    }

pub returns : goal.returns
returns g c =
    let start = g.B.Board.view c.args.board.now in
    let mid = g.B.Board.view c.spent.new.board in
    let counts = c.in-Ok.ensures in
    let quiet = quiet_touched start mid (g.met.B.Board.honest c.args.board.now) counts.touches counts.cause.calm in record {
      runs = λ source. no_memory_run list source source start mid quiet (supplied_none source start);
    }
