use Rattle.std.proofs.Common.{inl, inr, arith}
use Rattle.attribute_set.proofs.TypeLemmas.{kind_past}
use Rattle.attribute_set.proofs.types.kind_at.Goals as goal

pub returns-in-None : goal.returns-in-None
returns-in-None c = elim c.in-None.ensures.lookup.0 [
  | inl past ↦ kind_past c.args.octets.now c.args.place past
  | inr never ↦ absurd (omega (arith, never))
]
