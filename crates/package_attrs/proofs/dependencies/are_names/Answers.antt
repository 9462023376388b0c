use Rattle.std.proofs.Common.{◌++◌, ◌∷◌, [], ◌∙◌, arith}
use Rattle.std.proofs.lemmas.List.{length-append}
use Rattle.der_core.proofs.Lists.{goes_on, some_left, none_left}
use Rattle.package_attrs.specs.declared.name.PackageName.{PackageName}
use Rattle.package_attrs.specs.Reading.{name_at}
use Rattle.package_attrs.proofs.Falls.{name_falls}
use Rattle.package_attrs.proofs.FewNames.{too_many, none_here, all_read}
use Rattle.attribute_set.proofs.ItemLemmas.{answered, unanswered, falls}
use Rattle.package_attrs.proofs.dependencies.are_names.Goals as goal

pub returns-then-count-eq-MOST_DEPENDENCIES : goal.returns-then-count-eq-MOST_DEPENDENCIES
returns-then-count-eq-MOST_DEPENDENCIES c =
    let so_far = c.loop-items.invariant in
    too_many c.args.contents.now c.loop-items.items so_far.0 (so_far.1 ∙ c.if-count-eq-MOST_DEPENDENCIES.true)
    (some_left c.loop-items.items c.at_end.result c.at_end.ensures.end c.loop-items-test.true) so_far.2

pub returns-then-is_none : goal.returns-then-is_none
returns-then-is_none c =
    none_here c.args.contents.now c.loop-items.items c.loop-items.invariant.0
    (some_left c.loop-items.items c.at_end.result c.at_end.ensures.end c.loop-items-test.true)
    (unanswered (λ (name : PackageName). (name, c.read_name.new.fields)) c.read_name.result
    (name_at c.loop-items.items) c.if-is_none.ensures c.read_name.ensures.exact) c.loop-items.invariant.2

pub loop-items-smaller : goal.loop-items-smaller
loop-items-smaller c =
    falls name_at c.loop-items.items c.read_name.new.fields c.read_name.result name_falls
    c.if-is_none.ensures c.read_name.ensures.exact

pub loop-items-preserved : goal.loop-items-preserved
loop-items-preserved c =
    let so_far = c.loop-items.invariant in
    let name = answered (λ (name : PackageName). (name, c.read_name.new.fields)) c.read_name.result
    (name_at c.loop-items.items) c.if-is_none.ensures c.read_name.ensures.exact in (
      so_far.0 ++ name.0 ∷ [],
      omega (arith, length-append so_far.0 (name.0 ∷ []), so_far.1),
      goes_on name_at _ so_far.0 c.loop-items.items c.read_name.new.fields name.0 name_falls so_far.2 name.1,
      omega (arith, so_far.3, c.if-count-eq-MOST_DEPENDENCIES.false),
    )

pub returns : goal.returns
returns c =
    let so_far = c.loop-items.invariant in
    all_read c.args.contents.now c.loop-items.items so_far.0 c.loop-items.count so_far.1 so_far.3
    (none_left c.loop-items.items c.at_end.result c.at_end.ensures.end c.loop-items-test.false) so_far.2
