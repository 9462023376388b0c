use Rattle.std.proofs.Common.{List, ℕ, ap, sym, ◌∙◌}
use Rattle.std.specs.Prelude.{nat_eq}
use Rattle.std.specs.Cmp.Lexicographic.{pointwise}
use Rattle.cert_fields.specs.Extensions.{value_of}
use Rattle.cert_fields.specs.ExtensionsView.{extension_view}
use Rattle.cert_fields.proofs.ExtensionLaws.{here, further}
use Rattle.cert_fields.proofs.extension_list.ExtensionList.value_of.Goals as goal

pub returns-then-eq : goal.returns-then-eq
returns-then-eq c = record {
  exact = c.loop-one.invariant ∙ ap (value_of c.args.kind.now) c.in-Some.ensures.steps
      ∙ here c.args.kind.now (extension_view c.in-Some.one) c.next.new.self
      (ap (λ (kind : List ℕ). pointwise nat_eq kind c.args.kind.now) (sym c.octets.ensures.value)
      ∙ sym c.eq.ensures ∙ c.if-eq.true);
}

pub loop-one-preserved : goal.loop-one-preserved
loop-one-preserved c =
    c.loop-one.invariant ∙ ap (value_of c.args.kind.now) c.in-Some.ensures.steps
    ∙ further c.args.kind.now (extension_view c.in-Some.one) c.next.new.self
    (ap (λ (kind : List ℕ). pointwise nat_eq kind c.args.kind.now) (sym c.octets.ensures.value)
    ∙ sym c.eq.ensures ∙ c.if-eq.false)

pub returns : goal.returns
returns c = record { exact = c.loop-one.invariant ∙ ap (value_of c.args.kind.now) c.in_default.ensures.steps.0 }
