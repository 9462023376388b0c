use Rattle.std.proofs.Common.{ℕ, List, sym, ap, ◌∙◌}
use Rattle.std.specs.Prelude.{nat_eq}
use Rattle.std.specs.Cmp.Lexicographic.{pointwise}
use Rattle.der_core.specs.AttributeView.{attribute_view}
use Rattle.package_attrs.specs.PackageReading.{values_of}
use Rattle.package_attrs.proofs.PackageLaws.{here, further, nowhere}
use Rattle.package_attrs.proofs.find_attribute.values_of.Goals as goal

pub returns-then-eq : goal.returns-then-eq
returns-then-eq c = record {
  exact = c.loop-attr.invariant ∙ ap (values_of c.args.kind.now) c.in-Some.ensures.steps
      ∙ here c.args.kind.now (attribute_view c.in-Some.attr) c.next.new.self
      (ap (λ (kind : List ℕ). pointwise nat_eq kind c.args.kind.now) (sym c.octets.ensures.value)
      ∙ sym c.eq.ensures ∙ c.if-eq.true);
}

pub loop-attr-preserved : goal.loop-attr-preserved
loop-attr-preserved c =
    c.loop-attr.invariant ∙ ap (values_of c.args.kind.now) c.in-Some.ensures.steps
    ∙ further c.args.kind.now (attribute_view c.in-Some.attr) c.next.new.self
    (ap (λ (kind : List ℕ). pointwise nat_eq kind c.args.kind.now) (sym c.octets.ensures.value)
    ∙ sym c.eq.ensures ∙ c.if-eq.false)

pub returns : goal.returns
returns c = record {
  exact = c.loop-attr.invariant ∙ ap (values_of c.args.kind.now) c.in_default.ensures.steps.0 ∙ nowhere c.args.kind.now;
}
