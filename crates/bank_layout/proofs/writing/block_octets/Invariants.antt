use Rattle.std.proofs.Common.{◌≡◌, take}
use Rattle.bank_layout.specs.Manifest.{blocks_contents}
use Rattle.bank_layout.proofs.writing.block_octets.Given as goal

-- the numbers so far
abbrev pub invariant-loop-block : goal.invariant-loop-block
invariant-loop-block l = l.octets.items ≡ blocks_contents (take l.block-index l.blocks)
