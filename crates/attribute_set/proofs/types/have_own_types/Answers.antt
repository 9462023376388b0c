use Rattle.std.proofs.Common.{◌≡◌, rules, List, ℕ, subst}
use Rattle.std.specs.List.{IsAllAdjacentAnswer}
use Rattle.attribute_set.specs.Types.{kind_at}
use Rattle.attribute_set.proofs.Orders.{is_less}
use Rattle.attribute_set.proofs.TypeLemmas.{are_counted, not_counted, own_where_distinct, own_types, sorts_by_key}
use Rattle.attribute_set.proofs.TypeLemmas.{tells_by_key}
use Rattle.attribute_set.proofs.types.have_own_types.Goals as goal

pub returns-in_default : goal.returns-in_default
returns-in_default c = record { own = not_counted c.args.contents.now c.in_default.ensures }

pub places-requires : goal.places-requires
places-requires c = are_counted c.args.contents.now c.in-Some.count c.in-Some.ensures

pub returns : goal.returns
returns c =
    let key = kind_at c.args.contents.now in
    let own = own_where_distinct c.args.contents.now (are_counted c.args.contents.now c.in-Some.count c.in-Some.ensures) in
    let told = own_types (kind_at c.args.contents.now) c.in_ok-places.places.items c.sort_unstable_by.new.self.items _ c.is_sorted_by.result
    c.in_ok-places.ensures c.sort_unstable_by.ensures.permutation
    (sorts_by_key (kind_at c.args.contents.now) _ c.sort_unstable_by.ensures.sorted (λ a r q k. search rules))
    (subst (λ (places : List ℕ). IsAllAdjacentAnswer (λ x y b. b ≡ is_less (key x) (key y)) places c.is_sorted_by.result)
    c.deref.ensures.value
    (c.is_sorted_by.ensures.cases (λ x y. is_less (kind_at c.args.contents.now x) (kind_at c.args.contents.now y))
    (tells_by_key (kind_at c.args.contents.now) (λ a r q k. search rules)))) in
    record { own = (λ is. own.1 (told.0 is), λ these. told.1 (own.0 these)) }
