use Rattle.std.proofs.Common.{List, ℕ, Bor, sym, ap, subst, ◌∙◌}
use Rattle.std.specs.Prelude.{Contains, bytes_eq}
use Rattle.std.specs.List.{list_any}
use Rattle.der_core.specs.Attribute.{Attribute}
use Rattle.constraint_meet.specs.Permits.{values_in}
use Rattle.explain_text.specs.Ordered.{AreExactly, lent}
use Rattle.explain_text.proofs.Orders.{search_tells}
use Rattle.explain_text.proofs.listed.Listed.has.Goals as goal

pub returns : goal.returns
returns c =
    let values = values_in c.self.inside.values.now in
    let are = subst (λ (ordered : List (Bor (List ℕ))). AreExactly (Contains values) (lent ordered))
    (sym c.deref.ensures.value) c.self.invariant.2 in
    c.is_ok.ensures.value
    ∙ search_tells c.deref.result.now values c.args.value.now are c.binary_search.result c.binary_search.ensures.bound
    c.binary_search.ensures.position
    ∙ ap (λ (a : Attribute). list_any (λ one. bytes_eq one c.args.value.now) (values_in a.values)) c.self.view_is
