use Rattle.std.proofs.Common.{List, ℕ, refl, subst, ⊎_elim}
use Rattle.fwload_top.specs.declared.status.Status.TheVariants.{Refused}
use Rattle.fwload_top.specs.BadLine.{IsFoundBad}
use Rattle.fwload_top.specs.Signing.{signing, IsToSign, IsBadAt}
use Rattle.fwload_top.specs.Signing.Outcome.{bad_line}
use Rattle.fwload_top.proofs.SigningLemmas.{may_read}
use Rattle.fwload_top.proofs.BadLineLemmas.{found_at}
use Rattle.fwload_top.proofs.AnswersOnceLemmas.{not_read, has_input, read_then_lacked, read_then_sent}
use Rattle.fwload_top.proofs.signing.sign_by.Goals as goal

pub returns-in-Err : goal.returns-in-Err
returns-in-Err g c =
    let start = g.B.Board.view c.args.board.now in record {
      runs = not_read (signing c.args.product) (g.S.Source.supply c.args.source.now)
          (g.S.Source.supply c.read_input.new.source) start (g.met.B.Board.honest c.args.board.now)
          (may_read c.args.product start c.args.key.now c.requires.key) c.from.result c.in-Err.fault c.from.ensures
          c.in-Err.ensures.not_read;
    }

pub returns-in-Ok-unsigned : goal.returns-in-Ok-unsigned
returns-in-Ok-unsigned g c = record {
  runs = c.spend_and_send.ensures.runs (g.S.Source.supply c.args.source.now) (g.S.Source.supply c.read_input.new.source)
      c.in-Ok.input.items c.in-Ok-unsigned.ensures.to_sign.0 c.in-Ok.ensures.read
      (subst (λ (l : List ℕ). IsToSign c.args.product l c.args.key.now c.in-Ok-unsigned.unsigned
      c.in-Ok-unsigned.ensures.to_sign.0) c.deref.ensures.value c.in-Ok-unsigned.ensures.to_sign.1);
}

pub returns : goal.returns
returns g c =
    let start = g.B.Board.view c.args.board.now in
    let source = g.S.Source.supply c.args.source.now in
    let source' = g.S.Source.supply c.read_input.new.source in
    let honest = g.met.B.Board.honest c.args.board.now in
    let may = may_read c.args.product start c.args.key.now c.requires.key in
    let input = c.in-Ok.input.items in
    let was = c.in-Ok.ensures.read in
    let found = subst (λ (l : List ℕ). IsFoundBad (IsBadAt c.args.product l) c.in-Err-unsigned.fault) c.deref.ensures.value
    c.in-Err-unsigned.ensures.bad in record {
      runs = ⊎_elim
          (λ lacks. read_then_lacked (signing c.args.product) source source' g.B.Board.view c.args.board.now
          c.refuse.new.board honest may input was c.refuse.result lacks)
          (λ said. read_then_sent (signing c.args.product) source source' start honest may input was
          (g.B.Board.view c.refuse.new.board) (bad_line said.0) (record {
            cells = λ told. (c.args.key.now, c.requires.key told);
            blocks = c.requires.blocks;
            input = has_input source source' input (λ input. IsBadAt c.args.product input said.0) was
                (found_at (IsBadAt c.args.product input) c.in-Err-unsigned.fault said.0 found said.1);
          }) (λ cells. refl) Refused c.refuse.result said.2 tt refl)
          c.refuse.ensures.said;
    }
