use Rattle.std.proofs.Common.{take}
use Rattle.explain_text.proofs.AddedTypes.{AreOwn}
use Rattle.explain_text.proofs.types.all_types.Given as goal

-- the types of the members so far
abbrev pub invariant-loop-member : goal.invariant-loop-member
invariant-loop-member l = AreOwn l.types.items (take l.member-index l.members)
