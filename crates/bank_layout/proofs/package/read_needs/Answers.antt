use Rattle.std.proofs.Common.{◌≡◌, List, Some, sym, subst, ap, ◌∙◌, arith}
use Rattle.der_core.specs.Shapes.{listed}
use Rattle.der_core.proofs.Lists.{with_front, goes_on, stops, ends, some_left, none_left}
use Rattle.package_attrs.specs.declared.name.PackageName.{PackageName}
use Rattle.package_attrs.specs.Reading.{name_at}
use Rattle.package_attrs.proofs.Falls.{name_falls}
use Rattle.bank_layout.proofs.PackageLaws.{few_are_needs, many_are_none, no_names}
use Rattle.bank_layout.proofs.TableLaws.{starts}
use Rattle.bank_layout.proofs.package.read_needs.Goals as goal

pub loop-items-init : goal.loop-items-init
loop-items-init c = starts name_at c.args.octets.now _ _ c.new-items.ensures.all c.new-names.ensures.items

pub returns-in_default : goal.returns-in_default
returns-in_default c = record {
  exact = no_names c.args.octets.now
      (stops name_at _ c.loop-items.names.items c.loop-items.items
      (some_left c.loop-items.items c.at_end.result c.at_end.ensures.end c.loop-items-test.true) c.loop-items.invariant
      c.in_default.ensures.exact);
}

pub loop-items-smaller : goal.loop-items-smaller
loop-items-smaller c = name_falls c.loop-items.items (c.in-Some.name, c.read_name.new.fields) c.in-Some.ensures.exact

pub loop-items-preserved : goal.loop-items-preserved
loop-items-preserved c =
    subst (λ (done : List PackageName). listed name_at c.args.octets.now ≡ with_front done (listed name_at c.read_name.new.fields))
    (sym c.in_ok-push.ensures.items)
    (goes_on name_at _ c.loop-items.names.items c.loop-items.items c.read_name.new.fields c.in-Some.name name_falls
    c.loop-items.invariant c.in-Some.ensures.exact)

pub returns-then-len-gt-MOST_DEPENDENCIES : goal.returns-then-len-gt-MOST_DEPENDENCIES
returns-then-len-gt-MOST_DEPENDENCIES c = record {
  exact = many_are_none c.args.octets.now c.loop-items.names.items
      (ends name_at _ c.loop-items.names.items c.loop-items.items
      (none_left c.loop-items.items c.at_end.result c.at_end.ensures.end c.loop-items-test.false) c.loop-items.invariant)
      (omega (arith, c.if-len-gt-MOST_DEPENDENCIES.true, c.len.ensures));
}

pub returns : goal.returns
returns c = record {
  exact = few_are_needs c.args.octets.now c.loop-items.names.items
      (ends name_at _ c.loop-items.names.items c.loop-items.items
      (none_left c.loop-items.items c.at_end.result c.at_end.ensures.end c.loop-items-test.false) c.loop-items.invariant)
      (omega (arith, c.if-len-gt-MOST_DEPENDENCIES.false, c.len.ensures))
      ∙ ap Some (sym c.new.ensures.names);
}
