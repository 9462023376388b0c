use Rattle.std.proofs.Common.{◌≡◌, None, sym, ◌∙◌, subst, rules}
use Rattle.std.proofs.lemmas.Bool.{false≢true}
use Rattle.recipe_text.specs.ModuleRecipe.{IsAnchorKey}
use Rattle.recipe_text.specs.Words.{Exactly}
use Rattle.recipe_text.proofs.Anchors.{anchor_key_none, anchor_key_bad, anchor_key_some}
use Rattle.recipe_text.proofs.anchor_line.key_octets_in.Goals as goal

pub returns-in_err-octets : goal.returns-in_err-octets
returns-in_err-octets c =
    let is : c.from_residual.result ≡ None = search rules in
    record {
      exact = subst (Exactly (IsAnchorKey c.args.word.now)) (sym is)
          (anchor_key_none c.args.word.now c.in_err-octets.ensures.exact);
    }

pub returns-then-not-is_key : goal.returns-then-not-is_key
returns-then-not-is_key c = record {
  exact = anchor_key_bad c.args.word.now c.in_ok-octets.octets c.in_ok-octets.ensures.exact
      (λ key. false≢true (sym c.if-not-is_key.true ∙ c.is_key.ensures.1 key));
}

pub returns : goal.returns
returns c = record {
  exact = anchor_key_some c.args.word.now c.in_ok-octets.octets c.in_ok-octets.ensures.exact
      (c.is_key.ensures.0 c.if-not-is_key.false);
}
