use Rattle.std.proofs.Common.{sym, ap, ◌∙◌}
use Rattle.der_core.specs.AttributeReading.{are_elements}
use Rattle.der_core.proofs.AttributeLaws.{more, stops, ends}
use Rattle.der_core.proofs.Lists.{some_left, none_left}
use Rattle.der_core.proofs.read_attribute.are_elements.Goals as goal

pub loop-cursor-preserved : goal.loop-cursor-preserved
loop-cursor-preserved c = c.loop-cursor.invariant ∙ more c.loop-cursor.cursor _ c.in-Some.ensures.exact

pub returns-in_default : goal.returns-in_default
returns-in_default c =
    let some = some_left c.loop-cursor.cursor c.at_end.result c.at_end.ensures.end c.loop-cursor-test.true in
    sym (c.loop-cursor.invariant ∙ stops c.loop-cursor.cursor some c.in_default.ensures.exact)

pub returns : goal.returns
returns c =
    let none = none_left c.loop-cursor.cursor c.at_end.result c.at_end.ensures.end c.loop-cursor-test.false in
    sym (c.loop-cursor.invariant ∙ ap are_elements none ∙ ends)
