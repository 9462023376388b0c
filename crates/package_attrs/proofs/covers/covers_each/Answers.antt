use Rattle.std.specs.Prelude.{bytes_eq}
use Rattle.std.specs.List.{list_any}
use Rattle.std.proofs.Common.{rules, tests, refl}
use Rattle.std.proofs.lemmas.Iterator.Consumers.{YieldsList-from_first}
use Rattle.std.proofs.lemmas.Iterator.Search.{all_from_yields_List}
use Rattle.package_attrs.proofs.covers.covers_each.Goals as goal

pub returns-in-Some-Some : goal.returns-in-Some-Some
returns-in-Some-Some c =
    rw (c.in-Some-Some.ensures.exact, c.in-Some-Some.ensures'.exact)
    (all_from_yields_List (λ target. list_any (λ one. bytes_eq one target) c.in-Some-Some.these) _ _ c.all.result
    c.all.ensures.ran
    (YieldsList-from_first (λ one. one) (λ targets. targets) c.in-Some-Some.those refl)
    (λ x r q k. search (rules, tests)))
