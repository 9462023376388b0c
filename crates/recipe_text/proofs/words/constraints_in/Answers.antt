use Rattle.std.proofs.Common.{sym, ◌∙◌, subst}
use Rattle.std.proofs.lemmas.Bool.{false≢true}
use Rattle.recipe_text.specs.Words.{AreConstraintsText}
use Rattle.recipe_text.proofs.WordLemmas.{constraints_some, constraints_none, constraints_unread}
use Rattle.recipe_text.proofs.words.constraints_in.Goals as goal

pub returns-in_default : goal.returns-in_default
returns-in_default c = record {
  exact = constraints_unread c.args.word.now (rw c.in_default.is at c.in_ok-octets.ensures.exact);
}

pub returns-then-not-are : goal.returns-then-not-are
returns-then-not-are c = record {
  exact = constraints_none c.args.word.now c.in-Some.octets.items (rw c.in-Some.is at c.in_ok-octets.ensures.exact)
      (λ text. false≢true (sym c.if-not-are.true
      ∙ c.in_ok-are.ensures.1 (subst AreConstraintsText (sym c.deref.ensures.value) text)));
}

pub returns : goal.returns
returns c = record {
  exact = constraints_some c.args.word.now c.in-Some.octets.items (rw c.in-Some.is at c.in_ok-octets.ensures.exact)
      (subst AreConstraintsText c.deref.ensures.value (c.in_ok-are.ensures.0 c.if-not-are.false));
}
