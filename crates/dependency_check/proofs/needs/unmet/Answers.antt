use Rattle.package_attrs.specs.Description.{description}
use Rattle.dependency_check.proofs.UnmetLemmas.{missing_exact, too_old_exact}
use Rattle.dependency_check.proofs.needs.unmet.Goals as goal

pub returns-clause-missing : goal.returns-clause-missing
returns-clause-missing c =
    missing_exact (description c.args.offered.now).info.dependencies c.args.state.now.packages c.first_unmet.result
    c.first_unmet.ensures.met c.first_unmet.ensures.first

pub returns-clause-too_old : goal.returns-clause-too_old
returns-clause-too_old c =
    too_old_exact (description c.args.offered.now).info.dependencies c.args.state.now.packages c.first_unmet.result
    c.first_unmet.ensures.met c.first_unmet.ensures.first
