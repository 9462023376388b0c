use Rattle.cert_fields.specs.AnchorView.{text_view}
use Rattle.cert_fields.specs.View.{part_view}
use Rattle.std.proofs.Common.{rules}
use Rattle.module_record.proofs.AnchorLaws.{made_of}
use Rattle.module_record.proofs.anchor_reading.make_anchor.Goals as goal

pub returns : goal.returns
returns c =
    made_of c.new.result c.in_ok-subject.subject.items c.args.key_id c.args.key.now c.args.subject.now
    (text_view c.in_ok-constraints.constraints) (part_view c.args.constraints) (search rules)
    c.in_ok-constraints.ensures (c.is_key.ensures.0 c.if-not-is_key.false) c.new.ensures.made
