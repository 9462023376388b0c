use Rattle.std.proofs.Common.{◌≡◌, length}
use Rattle.bank_layout.proofs.TableLaws.{StaleSoFar}
use Rattle.bank_layout.proofs.tables.read_stale.Given as goal

-- those so far, which a table may have, and then those that are left
abbrev pub invariant-loop-items : goal.invariant-loop-items
invariant-loop-items l = record {
  stale : StaleSoFar l.contents l.items l.tables.stale;
  packages : l.tables.packages ≡ l.fn.state.packages;
}

abbrev pub decreases-loop-items : goal.decreases-loop-items
decreases-loop-items l = length l.items
