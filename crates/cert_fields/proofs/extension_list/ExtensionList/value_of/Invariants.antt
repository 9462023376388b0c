use Rattle.std.proofs.Common.{◌≡◌, length}
use Rattle.cert_fields.specs.Extensions.{value_of}
use Rattle.cert_fields.proofs.extension_list.ExtensionList.value_of.Given as goal

abbrev pub invariant-loop-one : goal.invariant-loop-one
invariant-loop-one l = value_of l.kind l.self ≡ value_of l.kind l.left

abbrev pub decreases-loop-one : goal.decreases-loop-one
decreases-loop-one l = length l.left
