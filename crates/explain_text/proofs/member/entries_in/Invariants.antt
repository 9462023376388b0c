use Rattle.std.proofs.Common.{◌≡◌, ◌++◌, map, length}
use Rattle.cert_fields.specs.ConstraintsView.{entry_view}
use Rattle.explain_text.proofs.member.entries_in.Given as goal

-- the entries so far, and those that are left
abbrev pub invariant-loop-entry : goal.invariant-loop-entry
invariant-loop-entry l = map entry_view l.entries.items ++ l.left ≡ l.ccc

abbrev pub decreases-loop-entry : goal.decreases-loop-entry
decreases-loop-entry l = length l.left
