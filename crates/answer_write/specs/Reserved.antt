-- An answer that is ready but for its leaf.
use Rattle.std.specs.Prelude.{◌≡◌, ℕ, ◌<◌, List, ◌++◌}
use Rattle.lms_sign.specs.PublicKeys.{leaf_count, hss_signature_size}
use Rattle.lms_sign.specs.SignTexts.{sign_text}
use Rattle.module_record.specs.declared.module.Module.{Module}
use Rattle.signed_write.specs.Unsigned.{Parts}
use Rattle.answer_write.specs.Answers.{plain_answer, signed_answer}

-- Both forms of it: whole, as it is without a signature, and the other but for its signature.
pub record Forms : Type 0 where
  pub plain : List ℕ
  pub unsigned : Parts

-- They are those of the module's answer of this type and text: the one, and the other with each leaf of its key.
pub record IsReserved (m : Module) (kind text : List ℕ) (answer : Forms) : Type 0 where
  pub plain : answer.plain ≡ plain_answer kind text
  pub size : answer.unsigned.size ≡ hss_signature_size m.key
  pub signed : (leaf : ℕ) → leaf < leaf_count m.key
      → answer.unsigned.before ++ sign_text m.key leaf answer.unsigned.signed ≡ signed_answer m leaf kind text
