use Rattle.bank_store.proofs.Writing.{sealed}
use Rattle.bank_store.proofs.key_format.write_body.Goals as goal

pub returns-clause-writes : goal.returns-clause-writes
returns-clause-writes g c = sealed _ _ _ c.requires.settled c.write_front.ensures.writes c.in_ok-wiped.ensures.shut c.seal.ensures.touches
