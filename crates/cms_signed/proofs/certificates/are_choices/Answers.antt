use Rattle.std.proofs.Common.{Some, None, refl}
use Rattle.der_core.proofs.Lists.{some_left, none_left}
use Rattle.attribute_set.proofs.ItemLemmas as items
use Rattle.cms_signed.specs.SignerReading.{choice_at}
use Rattle.cms_signed.proofs.SignerLaws.{choice_falls}
use Rattle.cms_signed.proofs.certificates.are_choices.Goals as goal

pub returns-in_default : goal.returns-in_default
returns-in_default c =
    items.stops choice_at _ c.loop-items.items c.read_choice.new.items None
    (some_left c.loop-items.items c.at_end.result c.at_end.ensures.end c.loop-items-test.true)
    refl c.in_default.ensures.exact c.loop-items.invariant

pub loop-items-smaller : goal.loop-items-smaller
loop-items-smaller c =
    choice_falls c.loop-items.items (_, c.read_choice.new.items) c.in-Some.ensures.exact

pub loop-items-preserved : goal.loop-items-preserved
loop-items-preserved c =
    items.goes_on choice_at _ c.loop-items.items c.read_choice.new.items (Some _) choice_falls
    refl c.in-Some.ensures.exact c.loop-items.invariant

pub returns : goal.returns
returns c =
    items.ends choice_at _ c.loop-items.items
    (none_left c.loop-items.items c.at_end.result c.at_end.ensures.end c.loop-items-test.false) c.loop-items.invariant
