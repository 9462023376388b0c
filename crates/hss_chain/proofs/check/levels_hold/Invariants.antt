use Rattle.std.proofs.Common.{◌-◌, ◌++◌}
use Rattle.hss_chain.specs.Levels.{LevelsHold}
use Rattle.hss_chain.proofs.check.levels_hold.Given as goal

-- the octets are such exactly where those that are left are, with the levels that are left
abbrev pub invariant-loop : goal.invariant-loop
invariant-loop l =
    let message = l.first ++ l.rest in
    record {
      onward : LevelsHold l.top l.count message l.octets
          → LevelsHold l.signer (l.count - l.counter) message l.left;
      back : LevelsHold l.signer (l.count - l.counter) message l.left
          → LevelsHold l.top l.count message l.octets;
    }
