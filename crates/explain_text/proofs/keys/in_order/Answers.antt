use Rattle.std.proofs.Common.{◌≡◌, rules}
use Rattle.std.specs.Ordering.{is_lt}
use Rattle.std.proofs.lemmas.Fn.{always_returns_same}
use Rattle.std.proofs.lemmas.List.MinMax.{ranks_by}
use Rattle.constraint_meet.specs.Places.{Key, key_cmp}
use Rattle.constraint_meet.proofs.Searches.{key_total}
use Rattle.explain_text.proofs.keys.in_order.Goals as goal

pub returns-clause-ordered : goal.returns-clause-ordered
returns-clause-ordered c =
    c.sort_unstable_by.ensures.sorted (λ x y. is_lt (key_cmp x y)) (ranks_by key_total (λ (key : Key). key))
    (always_returns_same _ (λ a r. is_lt r ≡ is_lt (key_cmp a.0.now a.1.0.now)) _ (λ a r q k. search rules))
