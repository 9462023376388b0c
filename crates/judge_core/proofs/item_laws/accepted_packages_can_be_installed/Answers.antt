use Rattle.judge_core.proofs.InstallLemmas.{can_install}
use Rattle.judge_core.proofs.item_laws.accepted_packages_can_be_installed.Goals as goal

pub returns : goal.returns
returns c = record { can = can_install }
