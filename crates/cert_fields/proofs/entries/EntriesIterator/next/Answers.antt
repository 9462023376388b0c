use Rattle.std.proofs.Common.{sym, ◌∙◌, ap}
use Rattle.attribute_set.specs.Items.{items_of}
use Rattle.attribute_set.proofs.ItemLemmas.{no_item, passed, shorter}
use Rattle.cert_fields.specs.ConstraintsReading.{entry_at}
use Rattle.cert_fields.specs.ConstraintsView.{entry_view}
use Rattle.cert_fields.proofs.ConstraintLaws.{entry_falls}
use Rattle.cert_fields.proofs.entries.EntriesIterator.next.Goals as goal

pub returns-in_default-clause-steps : goal.returns-in_default-clause-steps
returns-in_default-clause-steps c =
    let none = sym c.self.view_is ∙ no_item entry_at c.self.inside.octets.now c.self.invariant
    (ap entry_at (sym c.new-items.ensures.all) ∙ c.in_default.ensures.exact) in
    (none, none)

pub invariant_of-self : goal.invariant_of-self
invariant_of-self c =
    (passed entry_at c.self.inside.octets.now c.new-items.result c.read_entry.new.items c.rest-self-inside.result.now
    (entry_view c.in-Some.entry) entry_falls c.self.invariant c.new-items.ensures.all c.in-Some.ensures.exact
    c.rest-self-inside.ensures.rest).0

pub returns-clause-steps : goal.returns-clause-steps
returns-clause-steps c =
    sym c.self.view_is
    ∙ (passed entry_at c.self.inside.octets.now c.new-items.result c.read_entry.new.items c.rest-self-inside.result.now
    (entry_view c.in-Some.entry) entry_falls c.self.invariant c.new-items.ensures.all c.in-Some.ensures.exact
    c.rest-self-inside.ensures.rest).1

pub returns-clause-goes : goal.returns-clause-goes
returns-clause-goes c =
    record {
      on = λ finite. (
        tt,
        tt,
        shorter c.args.self.now (items_of entry_at c.rest-self-inside.result.now)
            (entry_view c.in-Some.entry) (returns-clause-steps c),
      );
      keeps = tt;
      rests = λ finite. tt;
    }
