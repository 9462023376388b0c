use Rattle.std.proofs.Common.{List, ℕ, refl, subst, ◌∙◌, inl, inr}
use Rattle.fwload_top.specs.declared.status.Status.TheVariants.{Refused}
use Rattle.fwload_top.specs.Reply.{Replies}
use Rattle.fwload_top.proofs.bad_line.refuse_line.Goals as goal

pub returns-in-Ok : goal.returns-in-Ok
returns-in-Ok g c = record {
  said = inr (subst (λ (l : List ℕ). Replies g.B.Board.tells_cells g.B.Board.tells_moments Refused c.send_answer.result l
      (g.B.Board.view c.args.board.now) (g.B.Board.view c.send_answer.new.board))
      (c.as_bytes.ensures.value ∙ c.in-Ok.ensures.line) c.send_answer.ensures);
}

pub returns-in-Err : goal.returns-in-Err
returns-in-Err g c = record { said = inl (refl, refl) }
