use Rattle.std.proofs.Common.{◌≤◌, length, List, ℕ, sym, ◌∙◌, subst}
use Rattle.std.proofs.lemmas.Bool.{false≢true}
use Rattle.der_core.specs.Integer.{IsInteger}
use Rattle.recipe_text.proofs.WordLemmas.{serial_some, serial_none, serial_unread}
use Rattle.recipe_text.proofs.words.serial_in.Goals as goal

pub returns-in_default : goal.returns-in_default
returns-in_default c = record {
  exact = serial_unread c.args.word.now (rw c.in_default.is at c.in_ok-octets.ensures.exact);
}

pub returns-then-not-is_serial : goal.returns-then-not-is_serial
returns-then-not-is_serial c = record {
  exact = serial_none c.args.word.now c.in-Some.octets.items (rw c.in-Some.is at c.in_ok-octets.ensures.exact)
      (λ is. false≢true (sym c.if-not-is_serial.true
      ∙ c.is_serial.ensures.1 (subst (λ (o : List ℕ). IsInteger o × (length o ≤ 20)) (sym c.deref.ensures.value) is)));
}

pub returns : goal.returns
returns c = record {
  exact = serial_some c.args.word.now c.in-Some.octets.items (rw c.in-Some.is at c.in_ok-octets.ensures.exact)
      (subst (λ (o : List ℕ). IsInteger o × (length o ≤ 20)) c.deref.ensures.value
      (c.is_serial.ensures.0 c.if-not-is_serial.false));
}
