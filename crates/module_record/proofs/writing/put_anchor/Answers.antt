use Rattle.std.proofs.Common.{◌∙◌}
use Rattle.module_record.proofs.WritingLemmas.{anchor_fits, constraints_room}
use Rattle.module_record.proofs.writing.put_anchor.Goals as goal

pub put_constraints-requires : goal.put_constraints-requires
put_constraints-requires c = record {
  room = constraints_room c.args.anchor.now _ c.requires.room c.constraints_text.ensures.text;
}

pub put_tlv-requires-3-clause-fits : goal.put_tlv-requires-3-clause-fits
put_tlv-requires-3-clause-fits c =
    anchor_fits c.args.anchor.now _ _ _ _ _ c.deref.result.now _ _ _ c.requires.room c.new-contents.ensures.items
    c.subject.ensures.subject (c.octets.ensures.value ∙ c.key_id.ensures.key_id) c.key.ensures.key
    c.constraints_text.ensures.text c.in_ok-extend_from_slice.ensures.items c.in_ok-put_tlv.ensures.ok
    c.in_ok-put_tlv-2.ensures.ok (c.deref.ensures.value ∙ c.in_ok-put_constraints.ensures.ok)
