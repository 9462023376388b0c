use Rattle.std.proofs.Common.{refl, sym}
use Rattle.std.proofs.lemmas.Option.{none-some}
use Rattle.fwload_top.proofs.CommandLemmas.{same_command, not_usage, causes_of, completes_command, as_asked}
use Rattle.fwload_top.proofs.dispatch.run.Goals as goal

pub returns-in-None-clause-usage : goal.returns-in-None-clause-usage
returns-in-None-clause-usage g c =
    ((λ _ asked asks. absurd (none-some asked ((c.in-None.ensures.asked asked).1 asks))), λ _. refl)

pub returns-in-None-clause-answers : goal.returns-in-None-clause-answers
returns-in-None-clause-answers g c =
    λ asked asks. absurd (none-some asked ((c.in-None.ensures.asked asked).1 asks))

pub returns-in-None-clause-complete : goal.returns-in-None-clause-complete
returns-in-None-clause-complete g c =
    λ asked asks _ _. absurd (none-some asked ((c.in-None.ensures.asked asked).1 asks))

pub returns-in-Some-clause-usage : goal.returns-in-Some-clause-usage
returns-in-Some-clause-usage g c =
    let asked = c.in-Some.command in (
      λ is. absurd (not_usage asked _ c.obey.ensures.runs is),
      λ never. absurd (never asked ((c.in-Some.ensures.asked asked).0 refl)),
    )

pub returns-in-Some-clause-untouched : goal.returns-in-Some-clause-untouched
returns-in-Some-clause-untouched g c =
    λ is. absurd (not_usage c.in-Some.command _ c.obey.ensures.runs is)

pub returns-in-Some-clause-causes : goal.returns-in-Some-clause-causes
returns-in-Some-clause-causes g c = λ asked asks.
    causes_of asked _ (as_asked asked c.in-Some.command _ (sym (same_command ((c.in-Some.ensures.asked asked).1 asks)))
    c.obey.ensures.runs)

pub returns-in-Some-clause-answers : goal.returns-in-Some-clause-answers
returns-in-Some-clause-answers g c = λ asked asks.
    as_asked asked c.in-Some.command _ (sym (same_command ((c.in-Some.ensures.asked asked).1 asks))) c.obey.ensures.runs

pub returns-in-Some-clause-complete : goal.returns-in-Some-clause-complete
returns-in-Some-clause-complete g c = λ asked asks ready calm.
    completes_command asked _
    (as_asked asked c.in-Some.command _ (sym (same_command ((c.in-Some.ensures.asked asked).1 asks)))
    c.obey.ensures.runs) ready calm
