use Rattle.std.proofs.Common.{◌≡◌, length}
use Rattle.path_check.proofs.Chains.{Climbed}
use Rattle.path_check.proofs.find.climb.Given as goal

abbrev pub invariant-loop : goal.invariant-loop
invariant-loop l =
    (length l.members.items ≡ l.counter)
    × Climbed l.certs l.anchors l.first l.members.items l.place
