use Rattle.std.proofs.Common.{refl}
use Rattle.der_core.specs.AttributeView.{attribute_view}
use Rattle.attribute_set.proofs.attributes.read_next.Goals as goal

pub returns-in-Some-clause-text : goal.returns-in-Some-clause-text
returns-in-Some-clause-text c = ((c.in-Some.ensures.spelled (attribute_view c.in-Some.attribute)).0 refl).1
