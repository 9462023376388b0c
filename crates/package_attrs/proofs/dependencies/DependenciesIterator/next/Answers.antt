use Rattle.std.proofs.Common.{length, sym, ◌∙◌, ap, arith}
use Rattle.attribute_set.specs.Items.{items_of}
use Rattle.package_attrs.specs.Reading.{name_at}
use Rattle.package_attrs.proofs.Falls.{name_falls}
use Rattle.attribute_set.proofs.ItemLemmas.{no_item, passed, shorter}
use Rattle.package_attrs.proofs.dependencies.DependenciesIterator.next.Goals as goal

pub returns-in_err-name-clause-steps : goal.returns-in_err-name-clause-steps
returns-in_err-name-clause-steps c =
    let none = sym c.self.view_is ∙ no_item name_at c.self.inside.octets.now c.self.invariant.0
    (ap name_at (sym c.new-items.ensures.all) ∙ c.in_err-name.ensures.exact) in
    rw c.from_residual.ensures (none, none)

pub invariant_of-self : goal.invariant_of-self
invariant_of-self c =
    let next =
    passed name_at c.self.inside.octets.now c.new-items.result c.read_name.new.fields c.rest-self-inside.result.now
    c.in_ok-name.name name_falls c.self.invariant.0 c.new-items.ensures.all c.in_ok-name.ensures.exact
    c.rest-self-inside.ensures.rest in
    (next.0, omega (arith, c.self.invariant.1, ap length next.1))

pub returns-clause-steps : goal.returns-clause-steps
returns-clause-steps c =
    sym c.self.view_is
    ∙ (passed name_at c.self.inside.octets.now c.new-items.result c.read_name.new.fields c.rest-self-inside.result.now
    c.in_ok-name.name name_falls c.self.invariant.0 c.new-items.ensures.all c.in_ok-name.ensures.exact
    c.rest-self-inside.ensures.rest).1

pub returns-clause-goes : goal.returns-clause-goes
returns-clause-goes c =
    record {
      on = λ finite. (
        tt,
        tt,
        shorter c.args.self.now (items_of name_at c.rest-self-inside.result.now)
            c.in_ok-name.name (returns-clause-steps c),
      );
      keeps = tt;
      rests = λ finite. tt;
    }
