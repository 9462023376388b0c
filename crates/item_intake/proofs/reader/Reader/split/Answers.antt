use Rattle.std.proofs.Common.{ℕ, List, ◌++◌, length, take, sym, inl}
use Rattle.std.proofs.lemmas.Bool.{false≢true}
use Rattle.item_intake.proofs.ReadingLemmas.{step_splits, part_some, longer, past_more}
use Rattle.item_intake.proofs.reader.Reader.split.Goals as goal

pub returns-clause-split : goal.returns-clause-split
returns-clause-split c item h goes =
    let piece : List ℕ = c.args.piece.now in
    let n : ℕ = c.part_of.result.n in
    let part = c.part_of.ensures in
    let step = c.split_step-step.result in
    let x = step_splits item piece c.split_step-step.new.splitter step n c.part_of.result.ends
    (c.split_step-step.ensures.step c.requires.some item (inl (h.sees, goes))) part.ends part.more part.rest in
    let some = part_some step (length piece) n c.part_of.result.ends part.ends part.more part.rest
    c.split_step-step.ensures.within c.requires.some in (
      record {
        sees = x.0;
        none = λ e. absurd (false≢true (sym e));
        some = λ e. longer item piece n some.0 some.1;
        past = λ is. c.is_past-self.ensures.past (item ++ take n piece) (λ was. past_more item (take n piece) (h.past was)) x.0 x.2 is;
        kept = λ is. c.is_past-self.ensures.kept (item ++ take n piece) x.0 is;
      },
      x.1,
    )
