use Rattle.std.proofs.Common.{List, ℕ, ◌-◌, length, sym, ap, subst}
use Rattle.attribute_set.proofs.TypeLemmas.{Found, found_more, found_all}
use Rattle.attribute_set.proofs.types.places.Goals as goal

pub loop-element-preserved : goal.loop-element-preserved
loop-element-preserved c =
    subst (λ (places : List ℕ). Found c.args.contents.now places c.next.new.self) (sym c.in_ok-push.ensures.items)
    (found_more c.args.contents.now c.loop-element.places.items c.loop-element.items _ _ c.in-Some.element.now
    c.next.new.self _ c.loop-element.invariant c.in-Some.ensures.exact c.in-Some.ensures.element.2
    c.in-Some.ensures.shorter
    (ap (λ (rest : List ℕ). length c.args.contents.now - length rest - length c.in-Some.element.now) c.rest.ensures.rest))

pub returns : goal.returns
returns c =
    found_all c.args.contents.now c.loop-element.places.items c.loop-element.items c.loop-element.invariant
    c.in_default.ensures.exact
