use Rattle.std.proofs.Common.{map, take}
use Rattle.cert_fields.specs.ConstraintsView.{entry_view}
use Rattle.explain_text.proofs.AddedTypes.{AreAdded}
use Rattle.explain_text.proofs.types.push_types.Given as goal

-- the types of the entries so far are added
abbrev pub invariant-loop-entry : goal.invariant-loop-entry
invariant-loop-entry l = AreAdded l.types.items l.initial.types.items (map entry_view (take l.entry-index l.entries))
