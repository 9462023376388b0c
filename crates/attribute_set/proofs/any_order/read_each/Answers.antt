use Rattle.std.proofs.Common.{Some, None, refl}
use Rattle.der_core.specs.AttributeReading.{attribute_at}
use Rattle.der_core.proofs.Lists.{some_left, none_left}
use Rattle.attribute_set.proofs.ItemLemmas as items
use Rattle.attribute_set.proofs.Readings.{attribute_at_falls}
use Rattle.attribute_set.proofs.any_order.read_each.Goals as goal

pub returns-in_default : goal.returns-in_default
returns-in_default c =
    items.stops attribute_at _ c.loop-cursor.cursor c.read_next.new.items None
    (some_left c.loop-cursor.cursor c.at_end.result c.at_end.ensures.end c.loop-cursor-test.true)
    refl c.in_default.ensures.exact c.loop-cursor.invariant

pub loop-cursor-smaller : goal.loop-cursor-smaller
loop-cursor-smaller c =
    attribute_at_falls c.loop-cursor.cursor (_, c.read_next.new.items) c.in-Some.ensures.exact

pub loop-cursor-preserved : goal.loop-cursor-preserved
loop-cursor-preserved c =
    items.goes_on attribute_at _ c.loop-cursor.cursor c.read_next.new.items (Some _) attribute_at_falls
    refl c.in-Some.ensures.exact c.loop-cursor.invariant

pub returns : goal.returns
returns c =
    items.ends attribute_at _ c.loop-cursor.cursor
    (none_left c.loop-cursor.cursor c.at_end.result c.at_end.ensures.end c.loop-cursor-test.false) c.loop-cursor.invariant
