use Rattle.der_core.proofs.Lists.{some_left, none_left}
use Rattle.package_attrs.specs.SerialReading.{serial_entry_at}
use Rattle.package_attrs.proofs.Falls.{serial_entry_falls}
use Rattle.attribute_set.proofs.ItemLemmas as items
use Rattle.package_attrs.proofs.read_community.are_serials.Goals as goal

pub returns-then-is_none : goal.returns-then-is_none
returns-then-is_none c =
    items.stops serial_entry_at _ c.loop-items.items c.read_serial_entry.new.items c.read_serial_entry.result
    (some_left c.loop-items.items c.at_end.result c.at_end.ensures.end c.loop-items-test.true)
    (c.if-is_none.ensures) c.read_serial_entry.ensures.exact c.loop-items.invariant

pub loop-items-smaller : goal.loop-items-smaller
loop-items-smaller c =
    items.falls serial_entry_at c.loop-items.items c.read_serial_entry.new.items c.read_serial_entry.result serial_entry_falls
    (c.if-is_none.ensures) c.read_serial_entry.ensures.exact

pub loop-items-preserved : goal.loop-items-preserved
loop-items-preserved c =
    items.goes_on serial_entry_at _ c.loop-items.items c.read_serial_entry.new.items c.read_serial_entry.result serial_entry_falls
    (c.if-is_none.ensures) c.read_serial_entry.ensures.exact c.loop-items.invariant

pub returns : goal.returns
returns c =
    items.ends serial_entry_at _ c.loop-items.items
    (none_left c.loop-items.items c.at_end.result c.at_end.ensures.end c.loop-items-test.false) c.loop-items.invariant
