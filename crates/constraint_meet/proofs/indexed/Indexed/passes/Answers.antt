use Rattle.std.proofs.Common.{◌≡◌, Bool, ◌∙◌, sym, subst, List, ℕ}
use Rattle.std.specs.List.{AllByRecursion}
use Rattle.der_core.specs.Attribute.{Attribute}
use Rattle.std.specs.Prelude.{◌↔◌, IsTrue}
use Rattle.der_core.specs.AttributeView.{attribute_view}
use Rattle.der_core.specs.Element.{AreOctets}
use Rattle.cert_fields.specs.ConstraintsView.{entry_view}
use Rattle.constraint_meet.specs.Permits.{Passes}
use Rattle.constraint_meet.proofs.LookupLemmas.{passes_listed, nothing_asked, list_octets}
use Rattle.constraint_meet.proofs.TestLemmas.{passes_tells}
use Rattle.constraint_meet.proofs.indexed.Indexed.passes.Goals as goal

pub returns-in-Some-clause-exact : goal.returns-in-Some-clause-exact
returns-in-Some-clause-exact c =
    c.covers_each.ensures
    ∙ sym (passes_listed c.args.self.now (entry_view c.args.entry.now) c.args.after c.requires.stands c.octets.ensures.types
    (attribute_view c.args.attribute.now) c.in-Some.listed (c.in-Some.ensures.found.0 ∙ c.octets-2.ensures.value)
    c.in-Some.ensures.found.1)

pub returns-in-Some-clause-tells : goal.returns-in-Some-clause-tells
returns-in-Some-clause-tells c =
    subst (λ (b : Bool). IsTrue b ↔ Passes (entry_view c.args.entry.now) (attribute_view c.args.attribute.now))
    (sym (returns-in-Some-clause-exact c))
    (passes_tells (entry_view c.args.entry.now) (attribute_view c.args.attribute.now)
    (list_octets c.args.self.now (entry_view c.args.entry.now) c.args.after c.requires.stands
    (subst AreOctets c.octets.ensures.text c.octets.ensures.octets)) c.slice_is_octets-2.ensures)

pub returns-in-None-clause-exact : goal.returns-in-None-clause-exact
returns-in-None-clause-exact c =
    sym (nothing_asked (entry_view c.args.entry.now).attributes (attribute_view c.args.attribute.now)
    (subst (λ (kind : List ℕ). AllByRecursion (λ (a : Attribute). a.kind ≡ kind → ⊥) (entry_view c.args.entry.now).attributes)
    c.octets-2.ensures.value c.in-None.ensures.none))

pub returns-in-None-clause-tells : goal.returns-in-None-clause-tells
returns-in-None-clause-tells c =
    subst (λ (b : Bool). IsTrue b ↔ Passes (entry_view c.args.entry.now) (attribute_view c.args.attribute.now))
    (sym (returns-in-None-clause-exact c))
    (passes_tells (entry_view c.args.entry.now) (attribute_view c.args.attribute.now)
    (list_octets c.args.self.now (entry_view c.args.entry.now) c.args.after c.requires.stands
    (subst AreOctets c.octets.ensures.text c.octets.ensures.octets)) c.slice_is_octets-2.ensures)
