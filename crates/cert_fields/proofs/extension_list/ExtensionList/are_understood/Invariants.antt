use Rattle.std.proofs.Common.{length}
use Rattle.cert_fields.specs.Extensions.{IsUnderstood}
use Rattle.cert_fields.proofs.AllWhere.{AllWhere}
use Rattle.cert_fields.proofs.extension_list.ExtensionList.are_understood.Given as goal

abbrev pub invariant-loop-one : goal.invariant-loop-one
invariant-loop-one l = AllWhere IsUnderstood l.self l.left

abbrev pub decreases-loop-one : goal.decreases-loop-one
decreases-loop-one l = length l.left
