use Rattle.std.proofs.Common.{string_bytes, ◌∙◌, ap}
use Rattle.hex.specs.Hex.{encode_lower}
use Rattle.hss_chain.specs.Keys.{hss_key_text}
use Rattle.lms_sign.specs.PublicKeys.{key_id}
use Rattle.lms_sign.specs.Roots.{public_key}
use Rattle.fwload_top.proofs.MakingLemmas.{line_of_parts}
use Rattle.fwload_top.proofs.key_line.key_line.Goals as goal

pub returns : goal.returns
returns c =
    let is = c.public-public_key.ensures.value in
    record {
      line = line_of_parts c.format.result c.args.word.now (string_bytes c.in_ok-octets.octets) (string_bytes c.in_ok-id.id)
          (encode_lower (hss_key_text (public_key c.args.key.now))) (encode_lower (key_id (public_key c.args.key.now)))
          (c.in_ok-octets.ensures ∙ ap encode_lower (c.key_octets.ensures.text ∙ ap hss_key_text is))
          (c.in_ok-id.ensures ∙ ap encode_lower (c.key_id.ensures.value ∙ ap key_id is))
          c.format.ensures.ok;
    }
