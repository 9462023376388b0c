use Rattle.std.proofs.Common.{ℕ, ◌<◌, List, [], AllPairs, subst}
use Rattle.key_state.specs.KeyBlock.{row_of}
use Rattle.lms_sign.specs.PublicKeys.{leaf_count}
use Rattle.packager.proofs.Runs.{events_of, runs_history, given_are_used}
use Rattle.packager.proofs.laws.no_leaf_signs_twice.Goals as goal

pub returns : goal.returns
returns c = record {
  ascends = λ key image runs fits are.
      subst (λ (leaves : List ℕ). AllPairs (λ earlier later. earlier < later) leaves)
      (given_are_used (leaf_count key) runs)
      (c.no_leaf_is_given_twice.ensures.ascends (row_of (leaf_count key) image) [] (events_of (leaf_count key) runs)
      (runs_history key image runs fits are));
}
