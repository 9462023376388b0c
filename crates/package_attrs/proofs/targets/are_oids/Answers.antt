use Rattle.der_core.proofs.Lists.{some_left, none_left}
use Rattle.package_attrs.specs.Reading.{oid_at}
use Rattle.package_attrs.proofs.Falls.{oid_falls}
use Rattle.attribute_set.proofs.ItemLemmas as items
use Rattle.package_attrs.proofs.targets.are_oids.Goals as goal

pub returns-then-is_none : goal.returns-then-is_none
returns-then-is_none c =
    items.stops oid_at _ c.loop-items.items c.read_oid_at.new.fields c.read_oid_at.result
    (some_left c.loop-items.items c.at_end.result c.at_end.ensures.end c.loop-items-test.true)
    (c.if-is_none.ensures) c.read_oid_at.ensures.exact c.loop-items.invariant

pub loop-items-smaller : goal.loop-items-smaller
loop-items-smaller c =
    items.falls oid_at c.loop-items.items c.read_oid_at.new.fields c.read_oid_at.result oid_falls
    (c.if-is_none.ensures) c.read_oid_at.ensures.exact

pub loop-items-preserved : goal.loop-items-preserved
loop-items-preserved c =
    items.goes_on oid_at _ c.loop-items.items c.read_oid_at.new.fields c.read_oid_at.result oid_falls
    (c.if-is_none.ensures) c.read_oid_at.ensures.exact c.loop-items.invariant

pub returns : goal.returns
returns c =
    items.ends oid_at _ c.loop-items.items
    (none_left c.loop-items.items c.at_end.result c.at_end.ensures.end c.loop-items-test.false) c.loop-items.invariant
