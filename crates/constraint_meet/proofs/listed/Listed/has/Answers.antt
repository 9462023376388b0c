use Rattle.std.proofs.Common.{◌∙◌, ap}
use Rattle.std.specs.Prelude.{bytes_eq}
use Rattle.std.specs.List.{list_any}
use Rattle.der_core.specs.Attribute.{Attribute}
use Rattle.constraint_meet.specs.Permits.{values_in}
use Rattle.constraint_meet.proofs.ValueLemmas.{search_tells}
use Rattle.constraint_meet.proofs.listed.Listed.has.Goals as goal

pub returns : goal.returns
returns c =
    c.is_some.ensures
    ∙ search_tells c.self.inside.octets.now c.self.inside.places.now c.self.inside.left c.self.inside.values.now
    c.args.value.now c.self.invariant.1 c.find_place.result c.find_place.ensures.found c.find_place.ensures.none
    ∙ ap (λ (a : Attribute). list_any (λ one. bytes_eq one c.args.value.now) (values_in a.values)) c.self.view_is
