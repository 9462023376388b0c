use Rattle.std.proofs.Common.{List, ℕ, Err, ◌≤◌, refl, subst, ◌∙◌, ap, ⊎_elim}
use Rattle.bank_store.specs.declared.fault.FormatFault.{FormatFault}
use Rattle.bank_store.specs.declared.fault.FormatFault.TheVariants as faults
use Rattle.fwload_top.specs.declared.status.Status.TheVariants.{Done, Refused}
use Rattle.fwload_top.specs.Reply.{Replies}
use Rattle.fwload_top.specs.Making.{making, IsRecipeOf, board_blocks}
use Rattle.fwload_top.specs.Making.Outcome.{held, small, made}
use Rattle.fwload_top.proofs.MakingLemmas.{may_read, format_wrote, format_done, few_or_enough, other_err, ok_no_err}
use Rattle.fwload_top.proofs.MakingLemmas.{held_is_no_fault, small_is_no_fault, memory_is_no_fault}
use Rattle.fwload_top.proofs.AnswersOnceLemmas.{quiet_touched, wrote_unchanged, poised, supplied, has_input}
use Rattle.fwload_top.proofs.AnswersOnceLemmas.{read_then_no_memory, no_memory_run, failed_run, line_run}
use Rattle.fwload_top.proofs.making.make_for.Goals as goal

pub returns-in_default : goal.returns-in_default
returns-in_default g c =
    let start = g.B.Board.view c.args.board.now in record {
      runs = λ kind source source' input was recipe.
          read_then_no_memory (making kind) source source' start (g.met.B.Board.honest c.args.board.now)
          (may_read kind start c.requires.free) input was;
    }

pub returns-in-Ok-format : goal.returns-in-Ok-format
returns-in-Ok-format g c =
    let start = g.B.Board.view c.args.board.now in
    let mid = g.B.Board.view c.format.new.board in
    let new = g.B.Board.view c.send_answer.new.board in
    let honest = g.met.B.Board.honest c.args.board.now in
    let formats = c.in-Ok-format.ensures in
    let no_fault = ok_no_err c.in-Ok-format.field-0 faults.Fault in
    let holder = c.args.holder.now in
    let room : board_blocks holder ≤ start.blocks = subst (λ (n : ℕ). board_blocks holder ≤ n) formats.touches.blocks formats.blocks in record {
      runs = λ kind source source' input was recipe.
          line_run (making kind) source source' start mid new (made holder)
          (format_done kind source source' start mid holder input honest c.requires.free room was recipe
          (format_wrote kind source source' start mid holder input honest c.requires.free room was recipe formats.touches
          formats.moments formats.later) formats.touches formats.formatted
          (λ told. formats.settled told no_fault) (formats.calm no_fault))
          (supplied source source' start input was (may_read kind start c.requires.free))
          (g.met.B.Board.honest c.format.new.board) Done c.send_answer.result
          (subst (λ (l : List ℕ). Replies g.B.Board.tells_cells g.B.Board.tells_moments Done c.send_answer.result l mid
          new) (c.as_bytes.ensures.value ∙ c.in-Ok.ensures.line) c.send_answer.ensures) tt refl;
    }

pub returns-in-Err-AlreadyHeld : goal.returns-in-Err-AlreadyHeld
returns-in-Err-AlreadyHeld g c =
    let start = g.B.Board.view c.args.board.now in
    let mid = g.B.Board.view c.format.new.board in
    let sent = c.send_answer-in-Err-AlreadyHeld in
    let formats = c.in-Err-AlreadyHeld.ensures in
    let no_fault = held_is_no_fault c.in-Err-AlreadyHeld.field-0 c.in-Err-AlreadyHeld.field-0-is in
    let is = ap (λ (f : FormatFault). Err f) c.in-Err-AlreadyHeld.field-0-is in
    let quiet = quiet_touched start mid (g.met.B.Board.honest c.args.board.now) (formats.refused no_fault)
    (formats.calm (other_err c.in-Err-AlreadyHeld.field-0 faults.Fault no_fault)) in record {
      runs = λ kind source source' input was recipe.
          line_run (making kind) source source' start mid (g.B.Board.view sent.new.board) held
          (poised (making kind) source source' start mid held quiet (λ cells. refl)
          (record {
            cells = λ told. formats.already_held told is;
            blocks = formats.held_blocks is;
            input = tt;
          })
          (λ is. absurd is)) (supplied source source' start input was (may_read kind start c.requires.free))
          (g.met.B.Board.honest c.format.new.board) Refused sent.result sent.ensures tt refl;
    }

pub returns-in-Err-TooSmall : goal.returns-in-Err-TooSmall
returns-in-Err-TooSmall g c =
    let start = g.B.Board.view c.args.board.now in
    let mid = g.B.Board.view c.format.new.board in
    let sent = c.send_answer-in-Err-TooSmall in
    let formats = c.in-Err-TooSmall.ensures in
    let no_fault = small_is_no_fault c.in-Err-TooSmall.field-0 c.in-Err-TooSmall.field-0-is in
    let quiet = quiet_touched start mid (g.met.B.Board.honest c.args.board.now) (formats.refused no_fault)
    (formats.calm (other_err c.in-Err-TooSmall.field-0 faults.Fault no_fault)) in record {
      runs = λ kind source source' input was recipe.
          line_run (making kind) source source' start mid (g.B.Board.view sent.new.board) (small c.args.holder.now)
          (poised (making kind) source source' start mid (small c.args.holder.now) quiet (λ cells. refl)
          (record {
            cells = c.requires.free;
            blocks = formats.too_small (ap (λ (f : FormatFault). Err f) c.in-Err-TooSmall.field-0-is);
            input = has_input source source' input (λ input. IsRecipeOf kind input c.args.holder.now) was recipe;
          })
          (λ is. was.end)) (supplied source source' start input was (may_read kind start c.requires.free))
          (g.met.B.Board.honest c.format.new.board) Refused sent.result sent.ensures tt refl;
    }

pub returns-in-Err-Fault : goal.returns-in-Err-Fault
returns-in-Err-Fault g c =
    let start = g.B.Board.view c.args.board.now in
    let mid = g.B.Board.view c.format.new.board in
    let honest = g.met.B.Board.honest c.args.board.now in
    let formats = c.in-Err-Fault.ensures in
    let rose = formats.fault (ap (λ (f : FormatFault). Err f) c.in-Err-Fault.field-0-is) in record {
      runs = λ kind source source' input was recipe.
          failed_run (making kind) source source' start mid
          (⊎_elim
          (λ few. wrote_unchanged (making kind) source.left start mid honest (formats.small_stays few) formats.later)
          (λ room. format_wrote kind source source' start mid c.args.holder.now input honest c.requires.free room was recipe
          formats.touches formats.moments formats.later)
          (few_or_enough start.blocks (board_blocks c.args.holder.now)))
          (supplied source source' start input was (may_read kind start c.requires.free)) rose;
    }

pub returns : goal.returns
returns g c =
    let start = g.B.Board.view c.args.board.now in
    let mid = g.B.Board.view c.format.new.board in
    let formats = c.in-Err-Memory.ensures in
    let no_fault = memory_is_no_fault c.in-Err-Memory.field-0 c.in-Err-Memory.field-0-is in
    let quiet = quiet_touched start mid (g.met.B.Board.honest c.args.board.now) (formats.refused no_fault)
    (formats.calm (other_err c.in-Err-Memory.field-0 faults.Fault no_fault)) in record {
      runs = λ kind source source' input was recipe.
          no_memory_run (making kind) source source' start mid quiet
          (supplied source source' start input was (may_read kind start c.requires.free));
    }
