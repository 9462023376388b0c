use Rattle.std.proofs.Common.{◌≡◌, None, sym, subst, rules}
use Rattle.recipe_text.specs.Words.{Exactly, IsKeyWord}
use Rattle.recipe_text.proofs.WordLemmas.{key_none, key_some}
use Rattle.recipe_text.proofs.words.hss_key_in.Goals as goal

pub returns-in_err-octets : goal.returns-in_err-octets
returns-in_err-octets c =
    let is : c.from_residual.result ≡ None = search rules in
    record {
      exact = subst (Exactly (IsKeyWord c.args.word.now)) (sym is)
          (key_none c.args.word.now c.in_err-octets.ensures.exact);
    }

pub returns : goal.returns
returns c = record {
  exact = key_some c.args.word.now c.in_ok-octets.octets c.hss_key.result c.in_ok-octets.ensures.exact
      c.hss_key.ensures.read c.hss_key.ensures.valid c.hss_key.ensures.found;
}
