use Rattle.std.proofs.Common.{◌≡◌, ℕ, List, refl, ap, sym, ◌∙◌, arith}
use Rattle.std.specs.Prelude.{slice_index}
use Rattle.std.proofs.lemmas.List.FromFn.{get_or-map-range_with_len}
use Rattle.lms_verify.specs.Kinds.{width, chain_count}
use Rattle.lms_verify.specs.Digits.{checked_value, digit, message_digits}
use Rattle.lms_sign.specs.SignTexts.{signature_value}
use Rattle.lms_sign.proofs.signing.put_values.Goals as goal

pub loop-i-preserved : goal.loop-i-preserved
loop-i-preserved c =
    let key = c.args.key.now in
    let ots = key.ots in
    let value = c.args.value.now in
    let i = c.loop-i.i in
    let digit-is : slice_index (message_digits ots value) i ≡ c.digit-steps.result =
    get_or-map-range_with_len (λ k. digit (width ots) (checked_value ots value) k) 0 (chain_count ots)
    i i 0 (omega arith) (omega arith)
    ∙ sym (c.digit-steps.ensures.value
    ∙ ap (λ (octets : List ℕ). digit (width ots) octets i) c.checked_value-octets.ensures.value) in
    let here : c.chain.result ≡ signature_value key c.args.q value i =
    c.chain.ensures.value ∙ rw (digit-is, c.secret-start.ensures) refl in
    c.put_value.ensures (signature_value key c.args.q value) c.loop-i.invariant here
