use Rattle.std.proofs.Common.{◌≡◌, rules}
use Rattle.std.specs.Ordering.{is_lt}
use Rattle.std.proofs.lemmas.Fn.{always_returns_same}
use Rattle.std.proofs.lemmas.List.MinMax.{ranks_by}
use Rattle.constraint_meet.specs.Places.{key_at, key_cmp}
use Rattle.constraint_meet.proofs.Searches.{key_total}
use Rattle.constraint_meet.proofs.places.sort_places.Goals as goal

pub returns-clause-ordered : goal.returns-clause-ordered
returns-clause-ordered c =
    let key = key_at c.args.part c.args.octets.now in
    c.sort_unstable_by.ensures.sorted (λ x y. is_lt (key_cmp (key x) (key y))) (ranks_by key_total key)
    (always_returns_same _ (λ a r. is_lt r ≡ is_lt (key_cmp (key a.0.now) (key a.1.0.now))) _ (λ a r q k. search rules))
