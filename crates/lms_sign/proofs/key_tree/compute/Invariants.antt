use Rattle.std.proofs.Common.{◌≡◌, ◌*◌, length}
use Rattle.lms_sign.specs.KeyTrees.{StandFrom}
use Rattle.lms_sign.specs.PublicKeys.{leaf_count}
use Rattle.lms_sign.proofs.key_tree.compute.Given as goal

-- the nodes behind this one stand at their places
abbrev pub invariant-loop-r : goal.invariant-loop-r
invariant-loop-r l =
    (length l.nodes.items ≡ 2 * leaf_count l.key) × StandFrom l.key l.r l.nodes.items
