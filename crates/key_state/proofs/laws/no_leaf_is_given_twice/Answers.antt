use Rattle.key_state.proofs.Ascents.{leaves_ascend}
use Rattle.key_state.proofs.laws.no_leaf_is_given_twice.Goals as goal

pub returns : goal.returns
returns c = record { ascends = leaves_ascend }
