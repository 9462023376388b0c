use Rattle.std.proofs.Common.{ℕ, ◌-◌, List, length, drop, min, sym, ap, ◌∙◌, subst, arith, length-append, length-drop}
use Rattle.sha2.specs.Hashers.{Holds256}
use Rattle.content_stream.specs.ImageBlocks.{IsStored}
use Rattle.content_stream.specs.Plans.{numbers_of}
use Rattle.content_stream.specs.Streams.{plan_of}
use Rattle.content_stream.proofs.StoreLemmas.{fed_image}
use Rattle.content_stream.proofs.feeding.feed.Goals as goal

pub returns-clause-fed : goal.returns-clause-fed
returns-clause-fed g c = λ fed is.
    let skipped = c.min-skipped.ensures ∙ ap (λ n. min n (length c.args.piece.now)) (c.saturating_sub.ensures ∙ ap (λ n. c.args.stream.now.wrap_size - n) (sym is.count)) in
    let more = fed_image c.args.stream.now.wrap_size c.min-skipped.result fed c.args.piece.now skipped in
    record {
      count = omega (arith, is.count, length-append fed c.args.piece.now);
      content = c.take_in.ensures.more fed is.content;
      image = subst (λ (l : List ℕ). Holds256 c.update.new.self l) more (c.update.ensures _ is.image);
      stored = λ told some. subst
          (λ (l : List ℕ). IsStored c.args.stream.now.base (numbers_of (plan_of c.args.stream.now)) l (g.B.Board.view c.store.new.board).cells)
          more (c.in_ok-store.ensures.stored told some (drop c.args.stream.now.wrap_size fed)
          (omega (arith, length-drop c.args.stream.now.wrap_size fed, is.count, c.saturating_sub-stored.ensures)) (is.stored told some));
    }
