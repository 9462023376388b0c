use Rattle.std.proofs.Common.{length, ap, ◌∙◌, arith}
use Rattle.std.specs.List.{flat_map}
use Rattle.module_record.specs.ModuleRecord.{oid_text, number_text, anchor_text}
use Rattle.module_record.proofs.ModuleLaws.{communities_room, kinds_room, anchors_room}
use Rattle.module_record.proofs.writing.put_lists.Goals as goal

pub put_tlv-requires-clause-fits : goal.put_tlv-requires-clause-fits
put_tlv-requires-clause-fits c =
    let is = c.deref.ensures.value ∙ c.in_ok-communities.ensures.ok ∙ ap (flat_map oid_text) c.as_slice.ensures.oids in
    omega (arith, communities_room c.args.holder.now c.requires.room, ap length is)

pub put_tlv-requires-2-clause-fits : goal.put_tlv-requires-2-clause-fits
put_tlv-requires-2-clause-fits c =
    let is = c.deref-2.ensures.value ∙ c.in_ok-kinds.ensures.ok ∙ ap (flat_map number_text) c.as_slice-2.ensures.kinds in
    omega (arith, kinds_room c.args.holder.now c.requires.room, ap length is)

pub anchor_octets-requires : goal.anchor_octets-requires
anchor_octets-requires c = record {
  room = omega (
    arith,
    anchors_room c.args.holder.now c.requires.room,
    ap length (ap (flat_map anchor_text) c.as_slice-3.ensures.anchors),
  );
}

pub put_tlv-requires-3-clause-fits : goal.put_tlv-requires-3-clause-fits
put_tlv-requires-3-clause-fits c =
    let is = c.deref-3.ensures.value ∙ c.in_ok-anchors.ensures.ok ∙ ap (flat_map anchor_text) c.as_slice-3.ensures.anchors in
    omega (arith, anchors_room c.args.holder.now c.requires.room, ap length is)
