use Rattle.std.proofs.Common.{length, arith, ap}
use Rattle.bank_layout.specs.declared.format.Format.TheVariants.{Two}
use Rattle.bank_layout.proofs.Rooms.{packages_room, stale_room}
use Rattle.bank_layout.proofs.writing.contents_of.Goals as goal

pub packages_contents-requires : goal.packages_contents-requires
packages_contents-requires c = record {
  room = packages_room Two (record { sequence = c.args.sequence; state = c.args.state.now }) c.requires.room;
}

pub put_tlv-requires-clause-fits : goal.put_tlv-requires-clause-fits
put_tlv-requires-clause-fits c =
    omega (
      arith,
      packages_room Two (record { sequence = c.args.sequence; state = c.args.state.now }) c.requires.room,
      ap length c.in_ok-packages.ensures.ok,
    )

pub put_tlv-requires-2-clause-fits : goal.put_tlv-requires-2-clause-fits
put_tlv-requires-2-clause-fits c =
    omega (
      arith,
      stale_room Two (record { sequence = c.args.sequence; state = c.args.state.now }) c.requires.room,
      ap length c.in_ok-stale.ensures.ok,
    )
