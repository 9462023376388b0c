-- A message that is begun, with the signature of a leaf behind it.
use Rattle.std.proofs.Common.{◌≡◌, ℕ, ◌<◌, List, ◌++◌, length, ◌∙◌, ap}
use Rattle.cms_signed.specs.Message.{message_text}
use Rattle.cms_signed.specs.Signer.{to_be_signed}
use Rattle.hss_chain.specs.Chains.{HssHolds}
use Rattle.lms_sign.specs.declared.key.SignKey.{SignKey}
use Rattle.lms_sign.specs.PublicKeys.{leaf_count, hss_signature_size}
use Rattle.lms_sign.specs.Roots.{public_key}
use Rattle.lms_sign.specs.SignTexts.{sign_text}
use Rattle.module_record.specs.declared.module.Module.{Module}
use Rattle.answer_write.proofs.SignatureSizes.{held_size}
use Rattle.signed_write.specs.Orders.{in_order}
use Rattle.signed_write.specs.Unsigned.{Parts}
use Rattle.signed_write.specs.Written.{written_message}
use Rattle.answer_write.specs.Answers.{written_answer, signed_answer}

pub signed_by : ((key : SignKey) (q : ℕ) (message : List ℕ) → q < leaf_count key → HssHolds (public_key key) message (sign_text key q message))
    → (m : Module) (kind text : List ℕ) (unsigned : Parts) → unsigned.signed ≡ to_be_signed (in_order (written_answer m kind text).attributes)
    → ((signature : List ℕ) → length signature ≡ hss_signature_size m.key → unsigned.before ++ signature ≡ message_text (written_message (written_answer m kind text) signature))
    → (leaf : ℕ) → leaf < leaf_count m.key → unsigned.before ++ sign_text m.key leaf unsigned.signed ≡ signed_answer m leaf kind text
unfolding signed_answer
signed_by law m kind text unsigned signed whole leaf lt =
    let message : List ℕ = to_be_signed (in_order (written_answer m kind text).attributes) in
    ap (λ (l : List ℕ). unsigned.before ++ sign_text m.key leaf l) signed
    ∙ whole (sign_text m.key leaf message) (held_size m.key message (sign_text m.key leaf message) (law m.key leaf message lt))
