use Rattle.std.proofs.Common.{arith}
use Rattle.bank_store.proofs.laws.nobody_holds_a_shut_or_small_board.Goals as goal

pub returns-clause-shut : goal.returns-clause-shut
returns-clause-shut c = λ image shut. (λ key holds. shut holds.gate, λ m running manifest holds. shut holds.gate)

pub returns-clause-small : goal.returns-clause-small
returns-clause-small c = λ image small.
    (λ key holds. omega (arith, small, holds.size), λ m running manifest holds. omega (arith, small, holds.size))
