use Rattle.std.proofs.Common.{sym, ◌∙◌, ap}
use Rattle.attribute_set.specs.Items.{items_of}
use Rattle.attribute_set.proofs.ItemLemmas.{no_item, passed, shorter}
use Rattle.cert_fields.specs.ConstraintsReading.{constrained_at}
use Rattle.der_core.specs.AttributeView.{attribute_view}
use Rattle.cert_fields.proofs.ConstraintLaws.{constrained_falls}
use Rattle.cert_fields.proofs.entries.AttrConstraintsIterator.next.Goals as goal

pub returns-in_default-clause-steps : goal.returns-in_default-clause-steps
returns-in_default-clause-steps c =
    let none = sym c.self.view_is ∙ no_item constrained_at c.self.inside.octets.now c.self.invariant
    (ap constrained_at (sym c.new-items.ensures.all) ∙ c.in_default.ensures.exact) in
    (none, none)

pub invariant_of-self : goal.invariant_of-self
invariant_of-self c =
    (passed constrained_at c.self.inside.octets.now c.new-items.result c.read_constrained.new.items c.rest-self-inside.result.now
    (attribute_view c.in-Some.attribute) constrained_falls c.self.invariant c.new-items.ensures.all c.in-Some.ensures.exact
    c.rest-self-inside.ensures.rest).0

pub returns-clause-steps : goal.returns-clause-steps
returns-clause-steps c =
    sym c.self.view_is
    ∙ (passed constrained_at c.self.inside.octets.now c.new-items.result c.read_constrained.new.items c.rest-self-inside.result.now
    (attribute_view c.in-Some.attribute) constrained_falls c.self.invariant c.new-items.ensures.all c.in-Some.ensures.exact
    c.rest-self-inside.ensures.rest).1

pub returns-clause-goes : goal.returns-clause-goes
returns-clause-goes c =
    record {
      on = λ finite. (
        tt,
        tt,
        shorter c.args.self.now (items_of constrained_at c.rest-self-inside.result.now)
            (attribute_view c.in-Some.attribute) (returns-clause-steps c),
      );
      keeps = tt;
      rests = λ finite. tt;
    }
