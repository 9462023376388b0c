use Rattle.judge_bench.proofs.verdict.owner_of.Goals as goal

pub returns-in-Ok-Some : goal.returns-in-Ok-Some
returns-in-Ok-Some c =
    let read = c.in-Ok-Some in
    record { limits = ((read.ensures.spelled read.owner).0 read.field-0-is).0.limits }
