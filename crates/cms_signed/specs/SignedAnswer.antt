-- What is read of an item, whole or as a frame and a cut: the message whose text it is, or the first condition that
-- fails.
use Rattle.std.specs.Prelude.{◌≡◌, ℕ, List, [], ◌∷◌, Option, Result, MatchResult, IfSome, option_map}
use Rattle.std.specs.List.{AllByRecursion}
use Rattle.std.specs.Option.{option_map_or}
use Rattle.der_core.specs.Asked.{AllHold, FirstFail}
use Rattle.der_core.specs.Attribute.{IsAttribute}
use Rattle.attribute_set.specs.AttributeSet.{IsAttributeSet}
use Rattle.cert_fields.specs.Certificate.{Certificate}
use Rattle.cms_signed.specs.declared.signed.SignedFault.{SignedFault}
use Rattle.cms_signed.specs.declared.signed.SignedFault.TheVariants as faults
use Rattle.cms_signed.specs.declared.signed.SignedView.{SignedView}
use Rattle.cms_signed.specs.Answer.{content_at}
use Rattle.cms_signed.specs.Certificates.{CertificateChoice, choices_text, IsChoice, certificates_among}
use Rattle.cms_signed.specs.Message.{Signer, Message, message_signer, message_text, IsMessage}
use Rattle.cert_fields.specs.Sid.{sid_view}
use Rattle.cms_signed.specs.Signed.{Tail, IsTail, tail_text}
use Rattle.cms_signed.specs.Signer.{IsSignerInfo, signer_text, to_be_signed}
use Rattle.cms_signed.specs.Tail.{tail_conditions, on_tail, signed_conditions}

-- the certificates of a set that may be absent, in their order
abbrev pub certificates_of : Option (List CertificateChoice) → List Certificate
certificates_of choices = option_map_or certificates_among choices []

-- the view has these certificates, and what the signer says
pub record Shows (view : SignedView) (certificates : Option (List CertificateChoice)) (signer : Signer) : Type 0 where
  pub certs : view.certs ≡ certificates_of certificates
  pub sid : sid_view view.sid ≡ signer.sid
  pub attrs : view.attrs ≡ signer.signed_attributes
  -- what the signature is made over is the tag of a SET OF, and then the rest
  pub attrs_rest : 0x31 ∷ view.attrs_rest.now ≡ to_be_signed signer.signed_attributes
  pub signature : view.signature.now ≡ signer.signature

-- the item is the text of a message of a content of this type, which has these octets, and the view shows the rest
pub record IsRead (kind item content : List ℕ) (view : SignedView) : Type 0 where
  pub message : Message
  pub valid : IsMessage kind message
  pub text : item ≡ message_text message
  pub content_is : message.content ≡ content
  pub shows : Shows view message.certificates message.signer

-- the first condition that fails, or want of memory
abbrev pub IsCause : List ℕ → List ℕ → SignedFault → Type 0
IsCause kind item (faults.Fails number) = FirstFail (signed_conditions kind item) number
IsCause kind item faults.Memory = Unit {0}

-- an answer to an item with a content of this type; behind a cut its octets are those that were put in
abbrev pub IsSignedAnswer : List ℕ → Option (ℕ × ℕ) → List ℕ → List ℕ → Result SignedView SignedFault → Type 0
IsSignedAnswer kind cut item content answer = MatchResult answer
    (λ view. AllHold (signed_conditions kind item) × IsRead kind item (content_at cut view.content.now content) view)
    (λ fault. IsCause kind item fault)

-- ---- the same of the octets behind encapContentInfo alone, as they are read

-- they hold these certificates and this signer, as it stands in a message
pub record IsBehind (tail : List ℕ) (certificates : Option (List CertificateChoice)) (signer : Signer) : Type 0 where
  pub parts : Tail
  pub valid : IsTail parts
  pub text : tail ≡ tail_text parts
  pub certificates_are : parts.certificates ≡ option_map choices_text certificates
  pub choices : IfSome certificates (AllByRecursion IsChoice)
  pub signer_is : parts.signer_infos ≡ signer_text (message_signer signer)
  pub signer_valid : IsSignerInfo (message_signer signer)
  pub signed_attributes : IsAttributeSet signer.signed_attributes
  pub unsigned_attributes : IfSome signer.unsigned_attributes (AllByRecursion IsAttribute)

abbrev pub IsTailCause : List ℕ → SignedFault → Type 0
IsTailCause tail (faults.Fails number) = FirstFail (on_tail tail_conditions tail) number
IsTailCause tail faults.Memory = Unit {0}

abbrev pub IsTailAnswer : List ℕ → Result SignedView SignedFault → Type 0
IsTailAnswer tail answer = MatchResult answer
    (λ view. AllHold (on_tail tail_conditions tail)
    × ((certificates : Option (List CertificateChoice)) × (signer : Signer)
    × IsBehind tail certificates signer × Shows view certificates signer))
    (λ fault. IsTailCause tail fault)
