use Rattle.std.proofs.Common.{List, refl, subst}
use Rattle.cert_fields.specs.Constraints.{ContentConstraint}
use Rattle.cert_fields.specs.ConstraintsView.{entry_view}
use Rattle.constraint_meet.specs.Index.{AreIndexed}
use Rattle.constraint_meet.proofs.LookupLemmas.{if_none, not_listed, always_listed, looked_up}
use Rattle.constraint_meet.proofs.indexed.Indexed.listed.Goals as goal

pub returns-in_err-place-clause-none : goal.returns-in_err-place-clause-none
returns-in_err-place-clause-none c =
    let indexed = subst (λ (es : List ContentConstraint). AreIndexed es c.self.inside.kinds.items c.self.inside.values.items)
    c.self.view_is c.self.invariant in
    if_none c.from_residual.result
    (not_listed c.args.self.now c.self.inside.kinds.items c.self.inside.values.items indexed c.octets-octets.ensures.each
    (entry_view c.args.entry.now) c.args.after c.requires.stands c.octets-octets.result.now c.deref.result.now
    c.rest-size.result.now c.octets-octets.ensures.text c.deref.ensures.value c.rest-size.ensures.text c.args.kind.now
    c.in_err-place.ensures.none)

pub returns-in_err-values-clause-none : goal.returns-in_err-values-clause-none
returns-in_err-values-clause-none c =
    let indexed = subst (λ (es : List ContentConstraint). AreIndexed es c.self.inside.kinds.items c.self.inside.values.items)
    c.self.view_is c.self.invariant in
    absurd (always_listed c.args.self.now c.self.inside.kinds.items c.self.inside.values.items indexed
    c.octets-octets.ensures.each
    (entry_view c.args.entry.now) c.args.after c.requires.stands c.octets-octets.result.now c.deref.result.now
    c.rest-size.result.now c.octets-octets.ensures.text c.deref.ensures.value c.rest-size.ensures.text c.args.kind.now
    c.in_ok-place.place c.in_ok-place.ensures.found c.in_err-values.ensures.exact)

pub invariant_of-result : goal.invariant_of-result
invariant_of-result c =
    let indexed = subst (λ (es : List ContentConstraint). AreIndexed es c.self.inside.kinds.items c.self.inside.values.items)
    c.self.view_is c.self.invariant in
    (looked_up c.args.self.now c.self.inside.kinds.items c.self.inside.values.items indexed c.octets-octets.ensures.each
    (entry_view c.args.entry.now) c.args.after c.requires.stands c.octets-octets.result.now c.deref.result.now
    c.rest-size.result.now c.octets-octets.ensures.text c.deref.ensures.value c.rest-size.ensures.text c.args.kind.now
    c.in_ok-place.place c.in_ok-place.ensures.found c.in_ok-values.values.now c.in_ok-values.left
    c.in_ok-values.ensures.exact c.deref-2.result.now c.deref-2.ensures.value).0

pub returns-clause-found : goal.returns-clause-found
returns-clause-found c =
    let indexed = subst (λ (es : List ContentConstraint). AreIndexed es c.self.inside.kinds.items c.self.inside.values.items)
    c.self.view_is c.self.invariant in (
      refl,
      (looked_up c.args.self.now c.self.inside.kinds.items c.self.inside.values.items indexed c.octets-octets.ensures.each
          (entry_view c.args.entry.now) c.args.after c.requires.stands c.octets-octets.result.now c.deref.result.now
          c.rest-size.result.now c.octets-octets.ensures.text c.deref.ensures.value c.rest-size.ensures.text c.args.kind.now
          c.in_ok-place.place c.in_ok-place.ensures.found c.in_ok-values.values.now c.in_ok-values.left
          c.in_ok-values.ensures.exact c.deref-2.result.now c.deref-2.ensures.value).1,
    )
