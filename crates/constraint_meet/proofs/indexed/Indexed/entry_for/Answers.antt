use Rattle.std.proofs.Common.{◌∙◌, ◌∷◌, ◌++◌, [], ap, sym, append_assoc, List, ℕ}
use Rattle.std.specs.Prelude.{nat_eq}
use Rattle.std.specs.Cmp.Lexicographic.{pointwise}
use Rattle.cert_fields.specs.Constraints.{ContentConstraint}
use Rattle.cert_fields.specs.ConstraintsView.{entry_view}
use Rattle.constraint_meet.specs.Permits.{entry_for}
use Rattle.constraint_meet.proofs.Members.{further}
use Rattle.constraint_meet.proofs.indexed.Indexed.entry_for.Goals as goal

pub loop-entry-preserved : goal.loop-entry-preserved
loop-entry-preserved c = (
  c.loop-entry.invariant.0 ∙ ap (entry_for c.args.content.now) c.in-Some.ensures.steps
      ∙ further c.args.content.now (entry_view c.in-Some.entry) c.next.new.self
      (ap (λ (kind : List ℕ). pointwise nat_eq kind c.args.content.now) (sym c.octets.ensures.value)
      ∙ sym c.eq.ensures ∙ c.if-eq.false),
  (
    c.loop-entry.invariant.1.0 ++ entry_view c.in-Some.entry ∷ [],
    c.loop-entry.invariant.1.1
        ∙ ap (λ (xs : List ContentConstraint). c.loop-entry.invariant.1.0 ++ xs) c.in-Some.ensures.steps
        ∙ sym (append_assoc c.loop-entry.invariant.1.0 (entry_view c.in-Some.entry ∷ []) c.next.new.self),
  ),
)
