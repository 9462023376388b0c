use Rattle.std.proofs.Common.{sym, ◌∙◌}
use Rattle.der_core.specs.AttributeView.{attribute_view}
use Rattle.der_core.proofs.Lists.{some_left, none_left}
use Rattle.attribute_set.proofs.Readings.{attribute_at_falls}
use Rattle.attribute_set.proofs.Orders.{ascends, less_told, rise_none, rise_end, rises_on, rises_no_more}
use Rattle.attribute_set.proofs.read.ascend.Goals as goal

pub returns-in_default : goal.returns-in_default
returns-in_default c =
    let some = some_left c.loop-last.items c.at_end.result c.at_end.ensures.end c.loop-last-test.true in
    ascends c.args.contents.now _ (sym (c.loop-last.invariant
    ∙ rise_none c.loop-last.last.now c.loop-last.items some c.in_default.ensures.exact))

pub returns-then-lt : goal.returns-then-lt
returns-then-lt c =
    ascends c.args.contents.now _ (sym (rises_no_more _ c.loop-last.last.now c.loop-last.items c.read_next.new.items
    c.in-Some.text.now (attribute_view c.in-Some.field-0-0) c.in-Some.ensures.exact c.in-Some.ensures.text
    (sym (less_told c.in-Some.text.now c.loop-last.last.now) ∙ sym c.lt.ensures ∙ c.if-lt.true) c.loop-last.invariant))

pub loop-last-smaller : goal.loop-last-smaller
loop-last-smaller c =
    attribute_at_falls c.loop-last.items (attribute_view c.in-Some.field-0-0, c.read_next.new.items) c.in-Some.ensures.exact

pub loop-last-preserved : goal.loop-last-preserved
loop-last-preserved c =
    rises_on _ c.loop-last.last.now c.loop-last.items c.read_next.new.items
    c.in-Some.text.now (attribute_view c.in-Some.field-0-0) c.in-Some.ensures.exact c.in-Some.ensures.text
    (sym (less_told c.in-Some.text.now c.loop-last.last.now) ∙ sym c.lt.ensures ∙ c.if-lt.false) c.loop-last.invariant

pub returns : goal.returns
returns c =
    ascends c.args.contents.now _ (sym (c.loop-last.invariant
    ∙ rise_end c.loop-last.last.now c.loop-last.items
    (none_left c.loop-last.items c.at_end.result c.at_end.ensures.end c.loop-last-test.false)))
