use Rattle.std.proofs.Common.{arith}
use Rattle.module_record.proofs.WritingLemmas.{item_room}
use Rattle.module_record.proofs.writing.anchor_octets.Goals as goal

pub put_anchor-requires : goal.put_anchor-requires
put_anchor-requires c = record {
  room = item_room c.args.anchors.now c.loop-anchor.anchor-index c.anchor-item.result (omega arith) c.anchor-item.is
      c.requires.room;
}
