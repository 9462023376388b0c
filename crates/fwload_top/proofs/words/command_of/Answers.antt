use Rattle.std.proofs.Common.{subst, string_bytes, ◌∷◌, [], List, ℕ}
use Rattle.fwload_top.proofs.WordsLemmas.{IsNamed, asks_second, asks_third}
use Rattle.fwload_top.proofs.words.command_of.Goals as goal

pub returns-in-len2 : goal.returns-in-len2
returns-in-len2 c = record {
  asked = asks_second c.without_argument.result c.args.words.now c.word-item.result c.in-len2.len_at_least
      c.in-len2.len_below c.word-item.is
      (subst (λ (w : List ℕ). IsNamed c.without_argument.result (w ∷ [])) c.deref.ensures c.without_argument.ensures);
}

pub returns-in-len3 : goal.returns-in-len3
returns-in-len3 c =
    let found = c.with_moment.result in
    let word = c.word-item-then-words-lt4.result in record {
      asked = asks_third found c.args.words.now word c.argument-item.result c.in-len3.len_at_least c.in-len3.len_below
          c.word-item-then-words-lt4.is c.argument-item.is
          (subst (λ (ds : List ℕ). IsNamed found (string_bytes word ∷ ds ∷ [])) c.deref-in-len3-2.ensures
          (subst (λ (w : List ℕ). IsNamed found (w ∷ c.deref-in-len3-2.result.now ∷ [])) c.deref-in-len3.ensures
          c.with_moment.ensures));
    }
