use Rattle.std.proofs.Common.{◌≡◌, rules, List, ℕ, subst, map}
use Rattle.std.specs.Prelude.{Contains}
use Rattle.std.specs.Ordering.{is_lt, nat_cmp}
use Rattle.std.specs.Cmp.Lexicographic.{slice_cmp, nat_list_cmp_total}
use Rattle.std.proofs.lemmas.Fn.{always_returns_same}
use Rattle.std.proofs.lemmas.List.{map-id}
use Rattle.std.proofs.lemmas.List.MinMax.{ranks_by}
use Rattle.explain_text.specs.Ordered.{AreExactly}
use Rattle.explain_text.proofs.Orders.{in_order}
use Rattle.explain_text.proofs.ordered.put_types_in_order.Goals as goal

pub returns : goal.returns
returns c =
    let sorted =
    c.sort_unstable_by.ensures.sorted (λ x y. is_lt (slice_cmp nat_cmp x y)) (ranks_by nat_list_cmp_total (λ x. x))
    (always_returns_same _ (λ a r. is_lt r ≡ is_lt (slice_cmp nat_cmp a.0.now a.1.0.now)) _ (λ a r q k. search rules)) in
    let old = map-id c.args.types.now.items in
    let new = map-id c.dedup.new.self.items in
    subst (λ (i : List (List ℕ)). AreExactly (Contains i) c.dedup.new.self.items) old
    (subst (λ (o : List (List ℕ)). AreExactly (Contains (map (λ x. x) c.args.types.now.items)) o) new
    (in_order (λ (x : List ℕ). x) _ _ _ c.sort_unstable_by.ensures.permutation sorted c.dedup.ensures.filtered))
