use Rattle.std.proofs.Common.{◌≡◌, length, arith, rules, ap, ◌∙◌}
use Rattle.module_record.specs.KeyRecord.{key_fields_text, key_text}
use Rattle.module_record.proofs.KeyLaws.{fields_fit, key_text_size}
use Rattle.module_record.proofs.key_record.key_octets.Goals as goal

pub put_tlv-requires-clause-fits : goal.put_tlv-requires-clause-fits
put_tlv-requires-clause-fits c =
    let key = c.args.key.now in
    let valid = c.in_ok-put_fields.ensures.valid in
    let written : c.deref.result.now ≡ key_fields_text key = search rules in
    omega (arith, fields_fit key valid.seed valid.id, ap length written)

pub returns-clause-size : goal.returns-clause-size
returns-clause-size c =
    let key = c.args.key.now in
    let valid = c.in_ok-put_fields.ensures.valid in
    let written : c.put_tlv.new.out.items ≡ key_text key = search rules in
    ap length written ∙ key_text_size key valid.seed valid.id
