use Rattle.der_core.proofs.Lists.{some_left, none_left}
use Rattle.attribute_set.proofs.TypeLemmas.{counted_none, type_passed, type_left, counted_stops, counted_all}
use Rattle.attribute_set.proofs.types.count_types.Goals as goal

pub loop-items-init : goal.loop-items-init
loop-items-init c = counted_none c.args.contents.now c.new-items.result c.new-items.ensures.all

pub returns-then-is_none : goal.returns-then-is_none
returns-then-is_none c =
    counted_stops c.args.contents.now c.loop-items.items c.loop-items.count c.loop-items.invariant
    (some_left c.loop-items.items c.at_end.result c.at_end.ensures.end c.loop-items-test.true)
    (type_left c.loop-items.items c.read_type.new.items c.read_type.result (c.if-is_none.ensures) c.read_type.ensures.exact)

pub loop-items-smaller : goal.loop-items-smaller
loop-items-smaller c =
    (type_passed c.args.contents.now c.loop-items.items c.read_type.new.items c.loop-items.count c.read_type.result
    c.loop-items.invariant (c.if-is_none.ensures) c.read_type.ensures.exact).0

pub loop-items-preserved : goal.loop-items-preserved
loop-items-preserved c =
    (type_passed c.args.contents.now c.loop-items.items c.read_type.new.items c.loop-items.count c.read_type.result
    c.loop-items.invariant (c.if-is_none.ensures) c.read_type.ensures.exact).1

pub returns : goal.returns
returns c =
    counted_all c.args.contents.now c.loop-items.items c.loop-items.count c.loop-items.invariant
    (none_left c.loop-items.items c.at_end.result c.at_end.ensures.end c.loop-items-test.false)
