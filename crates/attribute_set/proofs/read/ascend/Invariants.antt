use Rattle.std.proofs.Common.{◌≡◌, [], length}
use Rattle.attribute_set.proofs.Orders.{rise}
use Rattle.attribute_set.proofs.read.ascend.Given as goal

-- all of them ascend exactly where those that are left do, from the last one on
abbrev pub invariant-loop-last : goal.invariant-loop-last
invariant-loop-last l = rise [] l.contents ≡ rise l.last l.items

abbrev pub decreases-loop-last : goal.decreases-loop-last
decreases-loop-last l = length l.items
