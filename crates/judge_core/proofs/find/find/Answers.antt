use Rattle.judge_core.proofs.find.find.Goals as goal

pub returns-in-Some-clause-fails : goal.returns-in-Some-clause-fails
returns-in-Some-clause-fails c = λ m shows digest. c.in-Some.ensures.first c.args.owner.now m digest
