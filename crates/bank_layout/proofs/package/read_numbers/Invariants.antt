use Rattle.std.proofs.Common.{◌≡◌, ◌++◌, length}
use Rattle.bank_layout.specs.Reading.{numbers_in}
use Rattle.bank_layout.proofs.package.read_numbers.Given as goal

-- those so far, and then those that are left
abbrev pub invariant-loop-rest : goal.invariant-loop-rest
invariant-loop-rest l = numbers_in l.octets ≡ l.numbers.items ++ numbers_in l.rest

abbrev pub decreases-loop-rest : goal.decreases-loop-rest
decreases-loop-rest l = length l.rest
