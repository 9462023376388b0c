use Rattle.std.proofs.Common.{Some, List, ℕ, sym, subst}
use Rattle.recipe_text.specs.Lines.{IsHex}
use Rattle.recipe_text.specs.Words.{Exactly}
use Rattle.recipe_text.proofs.WordLemmas.{hex64_read, hex64_unread}
use Rattle.recipe_text.proofs.words.hex64_in.Goals as goal

pub returns-in-Some : goal.returns-in-Some
returns-in-Some c =
    let word = c.args.word.now in
    let hex = rw c.in-Some.is at c.in_ok-octets.ensures.exact in
    record {
      exact = hex64_read word c.deref.result.now c.some.result
          (subst (λ (o : List ℕ). Exactly (IsHex word) (Some o)) (sym c.deref.ensures.value) hex) c.some.ensures.kept;
    }

pub returns-in-None : goal.returns-in-None
returns-in-None c = record {
  exact = hex64_unread c.args.word.now (rw c.in-None.is at c.in_ok-octets.ensures.exact);
}
