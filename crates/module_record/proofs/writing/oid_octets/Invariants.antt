use Rattle.std.proofs.Common.{◌≡◌, take}
use Rattle.std.specs.List.{flat_map}
use Rattle.module_record.specs.ModuleRecord.{oid_text}
use Rattle.module_record.proofs.writing.oid_octets.Given as goal

-- those so far
abbrev pub invariant-loop-oid : goal.invariant-loop-oid
invariant-loop-oid l = l.all.items ≡ flat_map oid_text (take l.oid-index l.oids)
