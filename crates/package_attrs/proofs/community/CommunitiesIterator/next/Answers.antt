use Rattle.std.proofs.Common.{sym, ◌∙◌, ap}
use Rattle.attribute_set.specs.Items.{items_of}
use Rattle.package_attrs.specs.ListReading.{community_at}
use Rattle.package_attrs.proofs.Falls.{community_falls}
use Rattle.attribute_set.proofs.ItemLemmas.{no_item, passed, shorter}
use Rattle.package_attrs.proofs.community.CommunitiesIterator.next.Goals as goal

pub returns-in_err-community-clause-steps : goal.returns-in_err-community-clause-steps
returns-in_err-community-clause-steps c =
    let none = sym c.self.view_is ∙ no_item community_at c.self.inside.octets.now c.self.invariant
    (ap community_at (sym c.new-items.ensures.all) ∙ c.in_err-community.ensures.exact) in
    rw c.from_residual.ensures (none, none)

pub invariant_of-self : goal.invariant_of-self
invariant_of-self c =
    (passed community_at c.self.inside.octets.now c.new-items.result c.read_community.new.items c.rest-self-inside.result.now
    c.in_ok-community.community community_falls c.self.invariant c.new-items.ensures.all c.in_ok-community.ensures.exact
    c.rest-self-inside.ensures.rest).0

pub returns-clause-steps : goal.returns-clause-steps
returns-clause-steps c =
    sym c.self.view_is
    ∙ (passed community_at c.self.inside.octets.now c.new-items.result c.read_community.new.items c.rest-self-inside.result.now
    c.in_ok-community.community community_falls c.self.invariant c.new-items.ensures.all c.in_ok-community.ensures.exact
    c.rest-self-inside.ensures.rest).1

pub returns-clause-goes : goal.returns-clause-goes
returns-clause-goes c =
    record {
      on = λ finite. (
        tt,
        tt,
        shorter c.args.self.now (items_of community_at c.rest-self-inside.result.now)
            c.in_ok-community.community (returns-clause-steps c),
      );
      keeps = tt;
      rests = λ finite. tt;
    }
