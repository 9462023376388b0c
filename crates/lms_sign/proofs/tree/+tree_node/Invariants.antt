use Rattle.std.proofs.Common.{◌-◌}
use Rattle.lms_sign.specs.PublicKeys.{leaf_count}
use Rattle.lms_sign.proofs.tree.+tree_node.Given as goal

-- the nodes below have greater numbers, and those of the leaves are the last
abbrev pub decreases-tree_node : goal.decreases-tree_node
decreases-tree_node l = leaf_count l.key.now - l.r
