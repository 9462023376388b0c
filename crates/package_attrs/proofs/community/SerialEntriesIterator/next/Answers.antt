use Rattle.std.proofs.Common.{sym, ◌∙◌, ap}
use Rattle.attribute_set.specs.Items.{items_of}
use Rattle.package_attrs.specs.SerialReading.{serial_entry_at}
use Rattle.package_attrs.proofs.Falls.{serial_entry_falls}
use Rattle.attribute_set.proofs.ItemLemmas.{no_item, passed, shorter}
use Rattle.package_attrs.proofs.community.SerialEntriesIterator.next.Goals as goal

pub returns-in_err-entry-clause-steps : goal.returns-in_err-entry-clause-steps
returns-in_err-entry-clause-steps c =
    let none = sym c.self.view_is ∙ no_item serial_entry_at c.self.inside.octets.now c.self.invariant
    (ap serial_entry_at (sym c.new-items.ensures.all) ∙ c.in_err-entry.ensures.exact) in
    rw c.from_residual.ensures (none, none)

pub invariant_of-self : goal.invariant_of-self
invariant_of-self c =
    (passed serial_entry_at c.self.inside.octets.now c.new-items.result c.read_serial_entry.new.items c.rest-self-inside.result.now
    c.in_ok-entry.entry serial_entry_falls c.self.invariant c.new-items.ensures.all c.in_ok-entry.ensures.exact
    c.rest-self-inside.ensures.rest).0

pub returns-clause-steps : goal.returns-clause-steps
returns-clause-steps c =
    sym c.self.view_is
    ∙ (passed serial_entry_at c.self.inside.octets.now c.new-items.result c.read_serial_entry.new.items c.rest-self-inside.result.now
    c.in_ok-entry.entry serial_entry_falls c.self.invariant c.new-items.ensures.all c.in_ok-entry.ensures.exact
    c.rest-self-inside.ensures.rest).1

pub returns-clause-goes : goal.returns-clause-goes
returns-clause-goes c =
    record {
      on = λ finite. (
        tt,
        tt,
        shorter c.args.self.now (items_of serial_entry_at c.rest-self-inside.result.now)
            c.in_ok-entry.entry (returns-clause-steps c),
      );
      keeps = tt;
      rests = λ finite. tt;
    }
