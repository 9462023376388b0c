use Rattle.der_core.proofs.Lists.{some_left, none_left}
use Rattle.package_attrs.specs.ListReading.{community_at}
use Rattle.package_attrs.proofs.Falls.{community_falls}
use Rattle.attribute_set.proofs.ItemLemmas as items
use Rattle.package_attrs.proofs.read_community.are_communities.Goals as goal

pub returns-then-is_none : goal.returns-then-is_none
returns-then-is_none c =
    items.stops community_at _ c.loop-items.items c.read_community.new.items c.read_community.result
    (some_left c.loop-items.items c.at_end.result c.at_end.ensures.end c.loop-items-test.true)
    (c.if-is_none.ensures) c.read_community.ensures.exact c.loop-items.invariant

pub loop-items-smaller : goal.loop-items-smaller
loop-items-smaller c =
    items.falls community_at c.loop-items.items c.read_community.new.items c.read_community.result community_falls
    (c.if-is_none.ensures) c.read_community.ensures.exact

pub loop-items-preserved : goal.loop-items-preserved
loop-items-preserved c =
    items.goes_on community_at _ c.loop-items.items c.read_community.new.items c.read_community.result community_falls
    (c.if-is_none.ensures) c.read_community.ensures.exact c.loop-items.invariant

pub returns : goal.returns
returns c =
    items.ends community_at _ c.loop-items.items
    (none_left c.loop-items.items c.at_end.result c.at_end.ensures.end c.loop-items-test.false) c.loop-items.invariant
