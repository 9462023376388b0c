use Rattle.std.proofs.Common.{List, ℕ, refl, subst, ⊎_elim}
use Rattle.fwload_top.specs.declared.status.Status.TheVariants.{Refused}
use Rattle.fwload_top.specs.BadLine.{IsFoundBad}
use Rattle.fwload_top.specs.Making.{making, IsRecipeOf, IsBadAt}
use Rattle.fwload_top.specs.Making.Outcome.{bad_line}
use Rattle.fwload_top.proofs.MakingLemmas.{may_read}
use Rattle.fwload_top.proofs.BadLineLemmas.{found_at}
use Rattle.fwload_top.proofs.AnswersOnceLemmas.{not_read, has_input, read_then_lacked, read_then_sent}
use Rattle.fwload_top.proofs.making.make_free.Goals as goal

pub returns-in-Err : goal.returns-in-Err
returns-in-Err g c =
    let start = g.B.Board.view c.args.board.now in record {
      runs = not_read (making c.args.kind) (g.S.Source.supply c.args.source.now)
          (g.S.Source.supply c.read_input.new.source) start (g.met.B.Board.honest c.args.board.now)
          (may_read c.args.kind start c.requires.free) c.from.result c.in-Err.fault c.from.ensures
          c.in-Err.ensures.not_read;
    }

pub returns-in-Ok-read_holder : goal.returns-in-Ok-read_holder
returns-in-Ok-read_holder g c = record {
  runs = c.make_for.ensures.runs c.args.kind (g.S.Source.supply c.args.source.now)
      (g.S.Source.supply c.read_input.new.source) c.in-Ok.input.items c.in-Ok.ensures.read
      (subst (λ (l : List ℕ). IsRecipeOf c.args.kind l c.in-Ok-read_holder.holder) c.deref.ensures.value
      c.in-Ok-read_holder.ensures.good);
}

pub returns : goal.returns
returns g c =
    let kind = c.args.kind in
    let start = g.B.Board.view c.args.board.now in
    let source = g.S.Source.supply c.args.source.now in
    let source' = g.S.Source.supply c.read_input.new.source in
    let honest = g.met.B.Board.honest c.args.board.now in
    let may = may_read kind start c.requires.free in
    let input = c.in-Ok.input.items in
    let was = c.in-Ok.ensures.read in
    let found = subst (λ (l : List ℕ). IsFoundBad (IsBadAt kind l) c.in-Err-read_holder.fault) c.deref.ensures.value
    c.in-Err-read_holder.ensures.bad in record {
      runs = ⊎_elim
          (λ lacks. read_then_lacked (making kind) source source' g.B.Board.view c.args.board.now
          c.refuse.new.board honest may input was c.refuse.result lacks)
          (λ said. read_then_sent (making kind) source source' start honest may input was
          (g.B.Board.view c.refuse.new.board) (bad_line said.0) (record {
            cells = c.requires.free;
            blocks = tt;
            input = has_input source source' input (λ input. IsBadAt kind input said.0) was
                (found_at (IsBadAt kind input) c.in-Err-read_holder.fault said.0 found said.1);
          }) (λ cells. refl) Refused c.refuse.result said.2 tt refl)
          c.refuse.ensures.said;
    }
