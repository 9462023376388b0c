use Rattle.std.proofs.Common.{sym, ◌∙◌, refl, true≢false}
use Rattle.config_table.specs.Rules.{is_installed, IsInstalled, is_met, IsMet}
use Rattle.dependency_check.proofs.PlaceLemmas.{all_pass, fails_first, not_all}
use Rattle.dependency_check.proofs.needs.first_unmet.Goals as goal

pub returns-in-Some-clause-first : goal.returns-in-Some-clause-first
returns-in-Some-clause-first c =
    fails_first (λ need. is_installed need c.args.state.now.packages) c.args.needs.now c.in-Some.place
    (sym c.first_missing.ensures.first ∙ c.in-Some.is)

pub returns-in-Some-clause-met : goal.returns-in-Some-clause-met
returns-in-Some-clause-met c = (
  λ e. absurd (true≢false e),
  λ all. absurd (not_all (λ need. IsInstalled need c.args.state.now.packages) c.args.needs.now c.in-Some.place
      (returns-in-Some-clause-first c) all.0),
)

pub returns-in-Some-first_too_old-clause-first : goal.returns-in-Some-first_too_old-clause-first
returns-in-Some-first_too_old-clause-first c = (
  all_pass (λ need. is_installed need c.args.state.now.packages) c.args.needs.now (sym c.first_missing.ensures.first ∙ c.in-None.is),
  fails_first (λ need. is_met need c.args.state.now.packages) c.args.needs.now c.in-Some-first_too_old.place
      (sym c.first_too_old.ensures.first ∙ c.in-Some-first_too_old.is),
)

pub returns-in-Some-first_too_old-clause-met : goal.returns-in-Some-first_too_old-clause-met
returns-in-Some-first_too_old-clause-met c = (
  λ e. absurd (true≢false e),
  λ all. absurd (not_all (λ need. IsMet need c.args.state.now.packages) c.args.needs.now _
      (returns-in-Some-first_too_old-clause-first c).1 all.1),
)

pub returns-in-None-first_too_old-clause-met : goal.returns-in-None-first_too_old-clause-met
returns-in-None-first_too_old-clause-met c = (
  λ e. (
    all_pass (λ need. is_installed need c.args.state.now.packages) c.args.needs.now (sym c.first_missing.ensures.first ∙ c.in-None.is),
    all_pass (λ need. is_met need c.args.state.now.packages) c.args.needs.now
        (sym c.first_too_old.ensures.first ∙ c.in-None-first_too_old.is),
  ),
  λ all. refl,
)
