use Rattle.std.proofs.Common.{◌≡◌, take}
use Rattle.std.specs.List.{flat_map}
use Rattle.module_record.specs.ModuleRecord.{number_text}
use Rattle.module_record.proofs.writing.number_octets.Given as goal

-- those so far
abbrev pub invariant-loop-number : goal.invariant-loop-number
invariant-loop-number l = l.all.items ≡ flat_map number_text (take l.number-index l.numbers)
