use Rattle.std.proofs.Common.{◌≡◌, take}
use Rattle.std.specs.List.{flat_map}
use Rattle.module_record.specs.ModuleRecord.{anchor_text}
use Rattle.module_record.proofs.writing.anchor_octets.Given as goal

-- the anchors so far
abbrev pub invariant-loop-anchor : goal.invariant-loop-anchor
invariant-loop-anchor l = l.all.items ≡ flat_map anchor_text (take l.anchor-index l.anchors)
