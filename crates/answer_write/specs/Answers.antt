-- What a module sends for an item: signed data of one signer, or no more than the text and its type (RFC 4108, sections 3
-- and 4; RFC 5652, sections 3 and 5).
use Rattle.std.specs.Prelude.{ℕ, List, [], ◌∷◌, ◌++◌}
use Rattle.sha2.specs.Sha256.{sha256}
use Rattle.der_core.specs.Attribute.{Attribute}
use Rattle.der_core.specs.Element.{enc}
use Rattle.cms_signed.specs.Signed.{info_text}
use Rattle.cms_signed.specs.Message.{message_text}
use Rattle.cms_signed.specs.Signer.{to_be_signed}
use Rattle.lms_sign.specs.PublicKeys.{key_id}
use Rattle.lms_sign.specs.Roots.{public_key}
use Rattle.lms_sign.specs.SignTexts.{sign_text}
use Rattle.module_record.specs.declared.module.Module.{Module}
use Rattle.package_attrs.specs.AttributeTypes.{pkcs_9, content_type, message_digest}
use Rattle.signed_write.specs.Orders.{in_order}
use Rattle.signed_write.specs.Written.{Written, written_message}

-- ---- types of contents, as the contents of their OBJECT IDENTIFIERs

-- 1.2.840.113549.1.9.16.1.17, id-ct-firmwareLoadReceipt (RFC 4108, section 3)
abbrev pub load_receipt : List ℕ
load_receipt = pkcs_9 ++ 16 ∷ 1 ∷ 17 ∷ []

-- 1.2.840.113549.1.9.16.1.18, id-ct-firmwareLoadError (RFC 4108, section 4)
abbrev pub load_error : List ℕ
load_error = pkcs_9 ++ 16 ∷ 1 ∷ 18 ∷ []

-- ---- an answer without a signature

-- a ContentInfo of its type around its text (RFC 5652, section 3)
unfoldable pub plain_answer : List ℕ → List ℕ → List ℕ
plain_answer kind text = info_text (record { content_type = kind; content = text })

-- ---- a signed answer

-- the signed attributes: the type and the digest of the text (RFC 5652, sections 11.1 and 11.2)
abbrev pub answer_attributes : List ℕ → List ℕ → List Attribute
answer_attributes kind text =
    record { kind = content_type; values = enc 0x06 kind }
    ∷ record { kind = message_digest; values = enc 0x04 (sha256 text) }
    ∷ []

-- what the module says, whose key is named by its identifier: without certificates
abbrev pub written_answer : Module → List ℕ → List ℕ → Written
written_answer m kind text = record {
  content_type = kind;
  content = text;
  certificates = [];
  signer = key_id (public_key m.key);
  attributes = answer_attributes kind text;
}

-- the answer of this type and text, signed by the module's key with this leaf (RFC 5652, section 5; RFC 9708, section 4)
unfoldable pub signed_answer : Module → ℕ → List ℕ → List ℕ → List ℕ
signed_answer m leaf kind text =
    message_text (written_message (written_answer m kind text)
    (sign_text m.key leaf (to_be_signed (in_order (answer_attributes kind text)))))
