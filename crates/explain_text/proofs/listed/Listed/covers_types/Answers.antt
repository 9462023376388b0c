use Rattle.std.proofs.Common.{◌&&◌, Bool, Bor, List, ℕ, ◌∙◌, ap, sym}
use Rattle.std.specs.Prelude.{bytes_eq}
use Rattle.der_core.specs.Attribute.{Attribute}
use Rattle.package_attrs.specs.AttributeTypes.{target_hardware_ids}
use Rattle.package_attrs.specs.Covers.{are_among}
use Rattle.package_attrs.specs.ListReading.{targets_of}
use Rattle.constraint_meet.specs.Permits.{values_in}
use Rattle.explain_text.specs.Keys.{are_listed}
use Rattle.explain_text.specs.Ordered.{lent}
use Rattle.explain_text.proofs.Covering.{any_alike}
use Rattle.explain_text.proofs.listed.Listed.covers_types.Goals as goal

pub returns-then-is_target_hardware : goal.returns-then-is_target_hardware
returns-then-is_target_hardware c =
    let value = c.args.value.now in
    let are = c.self.invariant.2 in
    let kind = c.octets.ensures.value ∙ ap (λ (a : Attribute). a.kind) c.self.view_is in
    let is = ap (λ (t : List ℕ). bytes_eq t target_hardware_ids) (sym kind) ∙ sym c.is_target_hardware.ensures
    ∙ c.if-is_target_hardware.true in
    c.are_listed.ensures
    ∙ ap (λ (ordered : List (Bor (List ℕ))). are_listed (lent ordered) value) c.deref-then-is_target_hardware.ensures.value
    ∙ any_alike (λ one. are_among (targets_of one) (targets_of c.args.value.now)) (lent c.self.inside.ordered.items) (values_in c.self.inside.values.now)
    (λ one. (are.each one).0) (λ one. (are.each one).1)
    ∙ ap (λ (a : Attribute). are_listed (values_in a.values) value) c.self.view_is
    ∙ ap (λ (b : Bool). b && are_listed (values_in c.args.self.now.values) value) (sym is)
