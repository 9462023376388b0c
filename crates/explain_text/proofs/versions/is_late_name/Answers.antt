use Rattle.std.proofs.Common.{◌&&◌, List, ℕ, ◌∙◌, ap}
use Rattle.std.specs.Prelude.{bytes_eq, nat_le}
use Rattle.std.specs.List.{list_any}
use Rattle.constraint_meet.specs.Places.{Key}
use Rattle.explain_text.specs.Ordered.{lent}
use Rattle.explain_text.proofs.Covering.{late_by, never_late}
use Rattle.explain_text.proofs.versions.is_late_name.Goals as goal

pub returns-in-Some : goal.returns-in-Some
returns-in-Some c =
    c.is_up_to.ensures
    ∙ ap (λ (t : List ℕ). list_any (λ (key : Key). bytes_eq key.0 t && nat_le key.1 c.in-Some.key.1) c.args.keys.now)
    c.octets.ensures.value
    ∙ late_by (lent c.args.values.now) c.args.keys.now c.requires.same c.args.value.now c.in-Some.key.0 c.in-Some.key.1
    c.in-Some.ensures.exact

pub returns-in-None : goal.returns-in-None
returns-in-None c = never_late (lent c.args.values.now) c.args.value.now c.in-None.ensures.exact
