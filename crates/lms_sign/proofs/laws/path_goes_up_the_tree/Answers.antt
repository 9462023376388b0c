use Rattle.lms_sign.proofs.PathLemmas.{goes_up}
use Rattle.lms_sign.proofs.laws.path_goes_up_the_tree.Goals as goal

pub returns : goal.returns
returns c = goes_up
