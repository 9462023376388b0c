use Rattle.std.proofs.Common.{◌≡◌, ◌++◌, length, arith, rules, ap}
use Rattle.der_core.specs.Element.{enc}
use Rattle.der_core.specs.Number.{number_contents}
use Rattle.module_record.specs.KeyRecord.{key_text}
use Rattle.module_record.proofs.KeyLaws.{contents_fit}
use Rattle.module_record.proofs.key_record.put_key_record.Goals as goal

pub put_tlv-requires-clause-fits : goal.put_tlv-requires-clause-fits
put_tlv-requires-clause-fits c =
    let key = c.args.key.now in
    let octets : c.in_ok-key_octets.field-0.items ≡ key_text key = search rules in
    let size : length c.in_ok-key_octets.field-0.items ≡ 60 = search rules in
    let written : c.deref-2.result.now ≡ enc 0x02 (number_contents 2) ++ key_text key = search rules in
    omega (arith, contents_fit key (rw octets at size), ap length written)
