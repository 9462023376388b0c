use Rattle.bank_store.proofs.formatting.check_free.Goals as goal

pub returns-clause-free : goal.returns-clause-free
returns-clause-free g c = λ told. (c.in_ok-is_held.ensures.nobody told).0 c.if-branch.false
