use Rattle.std.proofs.Common.{length}
use Rattle.bank_layout.proofs.TableLaws.{PackagesSoFar}
use Rattle.bank_layout.proofs.tables.read_packages.Given as goal

-- those so far, which a table may have, and then those that are left
abbrev pub invariant-loop-items : goal.invariant-loop-items
invariant-loop-items l = PackagesSoFar l.format l.contents l.items l.state

abbrev pub decreases-loop-items : goal.decreases-loop-items
decreases-loop-items l = length l.items
