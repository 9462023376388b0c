use Rattle.path_check.proofs.PlaceLemmas.{to_places, from_places}
use Rattle.path_check.proofs.laws.paths_by_places.Goals as goal

pub returns : goal.returns
returns c = λ certificates anchors first anchor more. (
  to_places certificates anchors first more anchor,
  from_places certificates anchors first more anchor,
)
