use Rattle.path_check.proofs.PlaceLemmas.{no_way}
use Rattle.path_check.proofs.laws.no_way_from_its_own_issuer.Goals as goal

pub returns : goal.returns
returns c = λ certificates anchors place anchor more. no_way certificates anchors place anchor more
