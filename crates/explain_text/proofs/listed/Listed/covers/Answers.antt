use Rattle.std.proofs.Common.{◌&&◌, ◌||◌, Bool, ◌∙◌, ap, sym}
use Rattle.std.specs.Prelude.{bytes_eq}
use Rattle.package_attrs.specs.AttributeTypes.{firmware_package_id, target_hardware_ids}
use Rattle.constraint_meet.specs.Permits.{values_in}
use Rattle.explain_text.specs.Keys.{are_listed, is_late_name}
use Rattle.explain_text.proofs.Covering.{covers_by}
use Rattle.explain_text.proofs.listed.Listed.covers.Goals as goal

pub returns-then-has : goal.returns-then-has
returns-then-has c =
    let values = values_in c.args.self.now.values in
    let more = (bytes_eq c.args.self.now.kind firmware_package_id && is_late_name values c.args.value.now)
    || (bytes_eq c.args.self.now.kind target_hardware_ids && are_listed values c.args.value.now) in
    c.if-has.true
    ∙ sym (covers_by c.args.self.now.kind c.args.value.now values
    ∙ ap (λ (b : Bool). b || more) (sym c.has.ensures ∙ c.if-has.true))

pub returns-else-has : goal.returns-else-has
returns-else-has c =
    let values = values_in c.args.self.now.values in
    let more = (bytes_eq c.args.self.now.kind firmware_package_id && is_late_name values c.args.value.now)
    || (bytes_eq c.args.self.now.kind target_hardware_ids && are_listed values c.args.value.now) in
    c.covers_more.ensures
    ∙ sym (covers_by c.args.self.now.kind c.args.value.now values
    ∙ ap (λ (b : Bool). b || more) (sym c.has.ensures ∙ c.if-has.false))
