use Rattle.der_core.proofs.Objects.{numbers_spell}
use Rattle.der_core.proofs.oid.Oid.subidentifiers.Goals as goal

pub returns-clause-spelled : goal.returns-clause-spelled
returns-clause-spelled c =
    let octets = c.octets.ensures in
    numbers_spell c.args.self.now c.octets.result.now
    (λ numbers. numbers.items) c.subidentifiers.result octets.spelled
    octets.value c.subidentifiers.ensures
