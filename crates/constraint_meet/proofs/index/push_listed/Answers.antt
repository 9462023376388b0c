use Rattle.std.proofs.Common.{List, arith, length, ap}
use Rattle.std.specs.List.{flat_map}
use Rattle.der_core.specs.Attribute.{Attribute, attribute_text}
use Rattle.der_core.specs.AttributeView.{attribute_view}
use Rattle.constraint_meet.proofs.PlaceLemmas.{one_attribute}
use Rattle.constraint_meet.proofs.index.push_listed.Goals as goal

pub push_values-requires-clause-fits : goal.push_values-requires-clause-fits
push_values-requires-clause-fits c =
    omega (
      arith,
      c.requires.fits,
      c.loop-attribute.invariant.0,
      ap length c.rest.ensures.text,
      one_attribute (attribute_view c.in-Some.attribute) (flat_map attribute_text c.next.new.self),
      ap (λ (xs : List Attribute). length (flat_map attribute_text xs)) c.in-Some.ensures.steps,
    )
