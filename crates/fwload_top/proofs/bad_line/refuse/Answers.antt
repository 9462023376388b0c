use Rattle.std.proofs.Common.{refl, inl, inr, ⊎_elim}
use Rattle.fwload_top.proofs.bad_line.refuse.Goals as goal

pub returns-in-Bad : goal.returns-in-Bad
returns-in-Bad g c = record {
  said = ⊎_elim (λ lacks. inl lacks) (λ replies. inr (c.in-Bad.bad.0, rw c.in-Bad.is refl, replies))
      c.refuse_line.ensures.said;
}

pub returns-in-Memory : goal.returns-in-Memory
returns-in-Memory g c = record { said = inl (refl, refl) }
