use Rattle.std.proofs.Common.{◌≡◌, ◌↔◌, Option, Some, List, subst, map}
use Rattle.std.specs.List.{IsDistinct}
use Rattle.std.specs.Prelude.{bytes_eq}
use Rattle.cert_fields.specs.Constraints.{ContentConstraint}
use Rattle.cert_fields.specs.Extensions.{Extension}
use Rattle.cert_fields.specs.View.{part_view}
use Rattle.cert_fields.proofs.ExtensionLaws.{read_standing, read_as, SaysConstraints}
use Rattle.cert_fields.proofs.reading.read_part.Goals as goal

pub returns : goal.returns
returns c = record {
  spelled = read_standing (part_view c.args.part) c.in-Some.list c.values_in.result
      c.in-Some.ensures.stands
      (read_as c.in-Some.list c.in-Some-2.constraints c.values_in.result
      (subst (λ (all : List Extension). IsDistinct bytes_eq (map (λ e. e.kind) all)) c.octets.ensures.same
      (c.in_ok-have_own_kinds.ensures.0 c.if-not-branch.false))
      (c.are_understood.ensures.0 c.if-not-are_understood.false)
      (subst (λ (o : Option (Option (List ContentConstraint))). (v : Option (List ContentConstraint)) → (o ≡ Some v)
      ↔ SaysConstraints c.in-Some.list v) c.in-Some-2.is c.in_ok-constraints.ensures)
      c.values_in.ensures);
}
