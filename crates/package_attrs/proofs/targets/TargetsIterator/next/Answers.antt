use Rattle.std.proofs.Common.{sym, ◌∙◌, ap}
use Rattle.attribute_set.specs.Items.{items_of}
use Rattle.package_attrs.specs.Reading.{oid_at}
use Rattle.package_attrs.proofs.Falls.{oid_falls}
use Rattle.attribute_set.proofs.ItemLemmas.{no_item, passed, shorter}
use Rattle.package_attrs.proofs.targets.TargetsIterator.next.Goals as goal

pub returns-in_err-target-clause-steps : goal.returns-in_err-target-clause-steps
returns-in_err-target-clause-steps c =
    let none = sym c.self.view_is ∙ no_item oid_at c.self.inside.octets.now c.self.invariant
    (ap oid_at (sym c.new-items.ensures.all) ∙ c.in_err-target.ensures.exact) in
    rw c.from_residual.ensures (none, none)

pub invariant_of-self : goal.invariant_of-self
invariant_of-self c =
    (passed oid_at c.self.inside.octets.now c.new-items.result c.read_oid_at.new.fields c.rest-self-inside.result.now
    c.in_ok-target.target oid_falls c.self.invariant c.new-items.ensures.all c.in_ok-target.ensures.exact
    c.rest-self-inside.ensures.rest).0

pub returns-clause-steps : goal.returns-clause-steps
returns-clause-steps c =
    sym c.self.view_is
    ∙ (passed oid_at c.self.inside.octets.now c.new-items.result c.read_oid_at.new.fields c.rest-self-inside.result.now
    c.in_ok-target.target oid_falls c.self.invariant c.new-items.ensures.all c.in_ok-target.ensures.exact
    c.rest-self-inside.ensures.rest).1

pub returns-clause-goes : goal.returns-clause-goes
returns-clause-goes c =
    record {
      on = λ finite. (
        tt,
        tt,
        shorter c.args.self.now (items_of oid_at c.rest-self-inside.result.now)
            c.in_ok-target.target (returns-clause-steps c),
      );
      keeps = tt;
      rests = λ finite. tt;
    }
