use Rattle.dependency_check.proofs.NeedLemmas.{AllInstalled-state_with, AllMet-state_with, Unbroken-state_with}
use Rattle.dependency_check.proofs.laws.images_do_not_matter.Goals as goal

pub returns-clause-installed : goal.returns-clause-installed
returns-clause-installed c = AllInstalled-state_with

pub returns-clause-met : goal.returns-clause-met
returns-clause-met c = AllMet-state_with

pub returns-clause-unbroken : goal.returns-clause-unbroken
returns-clause-unbroken c = Unbroken-state_with
