use Rattle.std.proofs.Common.{◌+◌, ap, arith}
use Rattle.bank_gate.specs.declared.place.Place.{Place}
use Rattle.bank_gate.proofs.states.closed.Closed.wipe.Goals as goal

pub erase-requires : goal.erase-requires
erase-requires g c =
    omega (
      arith,
      c.loop-block.invariant.touches.blocks,
      c.requires.lies.manifest,
      ap (λ (p : Place). p.manifest + p.manifest_blocks) c.self.view_is,
    )
