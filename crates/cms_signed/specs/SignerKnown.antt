-- What is known of the octets behind encapContentInfo while their conditions are asked one after the other. A bridge
-- between the code and the texts: nothing here has to be believed.
use Rattle.std.specs.Prelude.{◌≡◌, ℕ, List, Option, IfSome, option_map}
use Rattle.std.specs.List.{AllByRecursion}
use Rattle.attribute_set.specs.AttributeSet.{AreAttributes}
use Rattle.cert_fields.specs.Certificate.{Certificate}
use Rattle.cms_signed.specs.Certificates.{CertificateChoice, choices_text, IsChoice}
use Rattle.cms_signed.specs.SignedAnswer.{certificates_of}
use Rattle.cms_signed.specs.Signed.{Tail, IsTail, tail_text}
use Rattle.cms_signed.specs.Signer.{SignerInfo, IsSignerInfo, signer_text}

-- a set that may be absent holds choices, among which are these certificates
pub record HasCertificates (set : Option (List ℕ)) (certificates : List Certificate) : Type 0 where
  pub choices : Option (List CertificateChoice)
  pub valid : IfSome choices (AllByRecursion IsChoice)
  pub set_is : set ≡ option_map choices_text choices
  pub are : certificates ≡ certificates_of choices

-- the conditions 12 to 15 hold of the octets, with these certificates and this signer
pub record HasAsked (octets : List ℕ) (certificates : List Certificate) (s : SignerInfo) : Type 0 where
  pub parts : Tail
  pub valid : IsTail parts
  pub text : octets ≡ tail_text parts
  pub certificates_are : HasCertificates parts.certificates certificates
  pub signer : IsSignerInfo s
  pub signer_is : parts.signer_infos ≡ signer_text s
  pub unsigned : IfSome s.unsigned_attributes AreAttributes
