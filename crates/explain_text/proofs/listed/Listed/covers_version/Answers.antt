use Rattle.std.proofs.Common.{◌&&◌, Bool, Bor, List, ℕ, ◌∙◌, ap, sym}
use Rattle.std.specs.Prelude.{bytes_eq}
use Rattle.der_core.specs.Attribute.{Attribute}
use Rattle.package_attrs.specs.AttributeTypes.{firmware_package_id}
use Rattle.package_attrs.specs.Covers.{is_late, preferred_of}
use Rattle.constraint_meet.specs.Permits.{values_in}
use Rattle.explain_text.specs.Keys.{is_late_name}
use Rattle.explain_text.specs.Ordered.{lent}
use Rattle.explain_text.proofs.Covering.{any_alike}
use Rattle.explain_text.proofs.listed.Listed.covers_version.Goals as goal

pub returns-then-is_package_id : goal.returns-then-is_package_id
returns-then-is_package_id c =
    let value = c.args.value.now in
    let are = c.self.invariant.2 in
    let kind = c.octets.ensures.value ∙ ap (λ (a : Attribute). a.kind) c.self.view_is in
    let is = ap (λ (t : List ℕ). bytes_eq t firmware_package_id) (sym kind) ∙ sym c.is_package_id.ensures
    ∙ c.if-is_package_id.true in
    c.is_late_name.ensures
    ∙ ap (λ (ordered : List (Bor (List ℕ))). is_late_name (lent ordered) value) c.deref-then-is_package_id.ensures.value
    ∙ any_alike (λ one. is_late (preferred_of one) (preferred_of c.args.value.now)) (lent c.self.inside.ordered.items) (values_in c.self.inside.values.now)
    (λ one. (are.each one).0) (λ one. (are.each one).1)
    ∙ ap (λ (a : Attribute). is_late_name (values_in a.values) value) c.self.view_is
    ∙ ap (λ (b : Bool). b && is_late_name (values_in c.args.self.now.values) value) (sym is)
