use Rattle.verdict_rows.proofs.row.module_of.Goals as goal

pub returns-in-Some : goal.returns-in-Some
returns-in-Some c = record { limits = ((c.in_ok-found.ensures.spelled c.in-Some.found).0 c.in-Some.is).0.limits }
