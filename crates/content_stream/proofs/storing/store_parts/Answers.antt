use Rattle.std.proofs.Common.{◌≡◌, ℕ, ◌+◌, ◌/◌, ◌%◌, List, ◌++◌, length, take, get_or, sym, ap, ◌∙◌, subst, arith, append_assoc, length-append, length-take}
use Rattle.std.proofs.lemmas.List.{take_all}
use Rattle.edge_board.proofs.RunLemmas.{touch_then, touch_wider}
use Rattle.content_stream.specs.ImageBlocks.{IsStored}
use Rattle.content_stream.proofs.StoreLemmas.{stored_more, in_blocks, still_blank, take_part, length-part}
use Rattle.content_stream.proofs.storing.store_parts.Goals as goal

pub returns-in_err-store_part-clause-touches : goal.returns-in_err-store_part-clause-touches
returns-in_err-store_part-clause-touches g c =
    touch_then _ _ _ c.loop-done.invariant.touches
    (touch_wider _ _ (λ told i inside. in_blocks c.args.base c.args.numbers.now ((c.args.stored + c.loop-done.done) / 4096) _ i
    (omega (arith, c.requires.fits)) (ap (λ n. c.args.base + n) c.from.ensures) inside)
    c.store_part.ensures.touches)

pub loop-done-preserved : goal.loop-done-preserved
loop-done-preserved g c = record {
  within = omega arith;
  touches = touch_then _ _ _ c.loop-done.invariant.touches
      (touch_wider _ _ (λ told i inside. in_blocks c.args.base c.args.numbers.now ((c.args.stored + c.loop-done.done) / 4096) _ i
      (omega (arith, c.requires.fits)) (ap (λ n. c.args.base + n) c.from.ensures) inside)
      c.store_part.ensures.touches);
  stored = λ told before is was.
      let now = before ++ take c.loop-done.done c.args.image.now in
      let here : length now ≡ c.args.stored + c.loop-done.done =
      omega (arith, is, length-append before (take c.loop-done.done c.args.image.now), length-take c.loop-done.done c.args.image.now, c.loop-done.invariant.within) in
      let block = ap (λ n. c.args.base + n) (c.from.ensures ∙ ap (λ n. get_or c.args.numbers.now (n / 4096) 0) (sym here)) in
      let place = ap (λ n. n % 4096) (sym here) in
      let stands = c.loop-done.invariant.stored told before is was in
      subst (λ (l : List ℕ). IsStored c.args.base c.args.numbers.now l (g.B.Board.view c.store_part.new.board).cells)
      (append_assoc before (take c.loop-done.done c.args.image.now) _
      ∙ ap (λ l. before ++ l) (sym (take_part c.args.image.now c.loop-done.done c.min-size.result)))
      (stored_more c.args.base c.args.numbers.now now _ (g.B.Board.view c.loop-done.board).cells (g.B.Board.view c.store_part.new.board).cells _ _
      block place c.requires.apart (omega (arith, here, c.requires.fits, c.loop-done-test.true)) (omega (arith, length-part c.args.image.now c.loop-done.done c.min-size.result, c.min-size.ensures))
      (c.store_part.ensures.touches.cells told) (c.in_ok-store_part.ensures.front told)
      (c.in_ok-store_part.ensures.holds told (still_blank c.args.base c.args.numbers.now now (g.B.Board.view c.loop-done.board).cells _ _ block place stands)) stands);
  erased = record {
    later = omega (arith, c.loop-done.invariant.erased.later, c.store_part.ensures.erased);
    most = omega (arith, c.loop-done.invariant.erased.most, c.store_part.ensures.most, c.min-size.ensures, c.loop-done-test.true);
  };
  least = λ told. omega (arith, c.loop-done.invariant.least told, c.in_ok-store_part.ensures.least told, c.min-size.ensures, c.loop-done-test.true);
  faults = c.in_ok-store_part.ensures.cause.calm ∙ c.loop-done.invariant.faults;
}

pub returns-clause-stored : goal.returns-clause-stored
returns-clause-stored g c = λ told before is was.
    subst (λ (l : List ℕ). IsStored c.args.base c.args.numbers.now (before ++ l) (g.B.Board.view c.loop-done.board).cells)
    (take_all c.loop-done.done c.args.image.now c.loop-done-test.false)
    (c.loop-done.invariant.stored told before is was)
