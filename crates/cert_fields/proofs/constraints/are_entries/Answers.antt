use Rattle.std.proofs.Common.{Some, None, refl}
use Rattle.der_core.proofs.Lists.{some_left, none_left}
use Rattle.attribute_set.proofs.ItemLemmas as items
use Rattle.cert_fields.specs.ConstraintsReading.{entry_at}
use Rattle.cert_fields.proofs.ConstraintLaws.{entry_falls}
use Rattle.cert_fields.proofs.constraints.are_entries.Goals as goal

pub returns-in_default : goal.returns-in_default
returns-in_default c =
    items.stops entry_at _ c.loop-items.items c.loop-items.items None
    (some_left c.loop-items.items c.at_end.result c.at_end.ensures.end c.loop-items-test.true) refl
    c.in_default.ensures.exact c.loop-items.invariant

pub loop-items-smaller : goal.loop-items-smaller
loop-items-smaller c =
    items.falls entry_at c.loop-items.items c.read_entry.new.items (Some _) entry_falls refl
    c.in-Some.ensures.exact

pub loop-items-preserved : goal.loop-items-preserved
loop-items-preserved c =
    items.goes_on entry_at _ c.loop-items.items c.read_entry.new.items (Some _) entry_falls refl
    c.in-Some.ensures.exact c.loop-items.invariant

pub returns : goal.returns
returns c =
    items.ends entry_at _ c.loop-items.items
    (none_left c.loop-items.items c.at_end.result c.at_end.ensures.end c.loop-items-test.false) c.loop-items.invariant
