-- Two messages never share a text.
use Rattle.std.proofs.Common.{◌≡◌, ℕ, Bool, true, false, List, [], ◌++◌, length, Option, Some, None, refl, sym, ap}
use Rattle.std.proofs.Common.{◌∙◌, arith}
use Rattle.std.specs.Prelude.{IfSome, option_map}
use Rattle.std.specs.List.{AllByRecursion}
use Rattle.std.proofs.lemmas.Option.{none-some}
use Rattle.der_core.specs.Attribute.{Attribute, IsAttribute}
use Rattle.der_core.specs.Element.{enc, length_octets, HasRoom, IsElement}
use Rattle.der_core.specs.Shapes.{Whole, IsWhole}
use Rattle.der_core.proofs.Numbers.{some_is}
use Rattle.der_core.proofs.Places.{length-enc}
use Rattle.der_core.proofs.Theorems.{enc-one}
use Rattle.attribute_set.specs.AttributeSet.{set_contents, IsAttributeSet}
use Rattle.attribute_set.proofs.Readings.{attributes-whole, one_set}
use Rattle.cert_fields.specs.Algorithms.{digest_algorithm}
use Rattle.cms_signed.specs.Certificates.{CertificateChoice}
use Rattle.cms_signed.specs.Message.{Signer, Message, message_signer, message_tail, message_encapsulated, message_data}
use Rattle.cms_signed.specs.Message.{message_info, message_text, IsMessage}
use Rattle.cms_signed.specs.Signed.{Tail}
use Rattle.cert_fields.specs.Sid.{SignerIdentifier}
use Rattle.cms_signed.specs.Signer.{SignerInfo, IsSignerInfo, signer_text, signed_attributes_text}
use Rattle.cms_signed.proofs.SignedLaws.{info-whole, signed-whole, encapsulated-whole, tail-whole}
use Rattle.cms_signed.proofs.SignedLaws.{info_parts, signed_parts, encapsulated_parts, InfoRead, SignedRead, EncapsulatedRead}
use Rattle.cms_signed.proofs.SignerLaws.{choices-whole, signer-whole}
use Rattle.cms_signed.proofs.TailLaws.{signed_room}

-- values of one text are one
same : {V : Type 0} {text : V → List ℕ} {IsValid : V → Type 0} {read : Whole V} (laws : IsWhole text IsValid read)
    (v w : V) → IsValid v → IsValid w → text v ≡ text w → v ≡ w
same {V} {text} {IsValid} {read} laws v w h k e = some_is v w (sym (laws.again v h) ∙ ap read e ∙ laws.again w k)

-- values that may be absent
same_if : {V : Type 0} {text : V → List ℕ} {IsValid : V → Type 0} {read : Whole V} (laws : IsWhole text IsValid read)
    (v w : Option V) → IfSome v IsValid → IfSome w IsValid → option_map text v ≡ option_map text w → v ≡ w
same_if laws None None h k e = refl
same_if {V} {text} laws None (Some w) h k e = absurd (none-some (text w) e)
same_if {V} {text} laws (Some v) None h k e = absurd (none-some (text v) (sym e))
same_if {V} {text} laws (Some v) (Some w) h k e =
    ap (λ (x : V). Some x) (same laws v w h k (some_is (text v) (text w) e))

same_null : (b c : Bool) → digest_algorithm b ≡ digest_algorithm c → b ≡ c
unfolding enc length_octets
same_null true true e = refl
same_null false false e = refl
same_null true false e = absurd (omega (arith, ap length e))
same_null false true e = absurd (omega (arith, ap length e))

same_signed : (these those : List Attribute) → HasRoom (signed_attributes_text these)
    → HasRoom (signed_attributes_text those) → IsAttributeSet these → IsAttributeSet those
    → signed_attributes_text these ≡ signed_attributes_text those → these ≡ those
same_signed these those room room' h k e =
    one_set these those h k
    (enc-one 0xA0 0xA0 (set_contents these) (set_contents those) [] []
    (fits these room) (fits those room') (ap (λ (x : List ℕ). x ++ []) e)).1
  where
    fits : (these : List Attribute) → HasRoom (signed_attributes_text these) → IsElement 0xA0 (set_contents these)
    fits these room = record {
      octet = omega arith;
      low_bits = omega arith;
      fits = omega (arith, room, length-enc 0xA0 (set_contents these));
    }

abbrev signer_of : ℕ → SignerIdentifier → Bool → List Attribute → List ℕ → Option (List Attribute) → Signer
signer_of version sid null signed signature unsigned = record {
  version = version;
  sid = sid;
  has_null = null;
  signed_attributes = signed;
  signature = signature;
  unsigned_attributes = unsigned;
}

signers : (v v' : ℕ) (i i' : SignerIdentifier) (n n' : Bool) (a a' : List Attribute) (g g' : List ℕ)
    (u u' : Option (List Attribute)) → v ≡ v' → i ≡ i' → n ≡ n' → a ≡ a' → g ≡ g' → u ≡ u'
    → signer_of v i n a g u ≡ signer_of v' i' n' a' g' u'
signers v v' i i' n n' a a' g g' u u' ve ie ne ae ge ue = rw (ve, ie, ne, ae, ge, ue) refl

same_signer : (s t : Signer) → IsSignerInfo (message_signer s) → IsSignerInfo (message_signer t)
    → IsAttributeSet s.signed_attributes → IsAttributeSet t.signed_attributes
    → IfSome s.unsigned_attributes (AllByRecursion IsAttribute) → IfSome t.unsigned_attributes (AllByRecursion IsAttribute)
    → signer_text (message_signer s) ≡ signer_text (message_signer t) → s ≡ t
same_signer s t h k set set' unsigned unsigned' e =
    let info : message_signer s ≡ message_signer t = same signer-whole (message_signer s) (message_signer t) h k e in
    let signed : signed_attributes_text s.signed_attributes ≡ signed_attributes_text t.signed_attributes =
    some_is _ _ (ap (λ (x : SignerInfo). x.signed_attributes) info) in
    signers s.version t.version s.sid t.sid s.has_null t.has_null s.signed_attributes t.signed_attributes
    s.signature t.signature s.unsigned_attributes t.unsigned_attributes
    (ap (λ (x : SignerInfo). x.version) info) (ap (λ (x : SignerInfo). x.sid) info)
    (same_null s.has_null t.has_null (ap (λ (x : SignerInfo). x.digest_algorithm) info))
    (same_signed s.signed_attributes t.signed_attributes
    (signed_room (message_signer s) (signed_attributes_text s.signed_attributes) h refl).1
    (signed_room (message_signer t) (signed_attributes_text t.signed_attributes) k refl).1 set set' signed)
    (ap (λ (x : SignerInfo). x.signature) info)
    (same_if attributes-whole s.unsigned_attributes t.unsigned_attributes unsigned unsigned'
    (ap (λ (x : SignerInfo). x.unsigned_attributes) info))

abbrev message_of : ℕ → List ℕ → List ℕ → List ℕ → Option (List CertificateChoice) → Option (List ℕ) → Signer → Message
message_of version digests kind content certificates crls signer = record {
  version = version;
  digest_algorithms = digests;
  content_type = kind;
  content = content;
  certificates = certificates;
  crls = crls;
  signer = signer;
}

messages : (v v' : ℕ) (d d' k k' c c' : List ℕ) (t t' : Option (List CertificateChoice)) (l l' : Option (List ℕ))
    (s s' : Signer) → v ≡ v' → d ≡ d' → k ≡ k' → c ≡ c' → t ≡ t' → l ≡ l' → s ≡ s'
    → message_of v d k c t l s ≡ message_of v' d' k' c' t' l' s'
messages v v' d d' k k' c c' t t' l l' s s' ve de ke ce te le se = rw (ve, de, ke, ce, te, le, se) refl

pub one_message : (kind other : List ℕ) (m n : Message) → IsMessage kind m → IsMessage other n
    → message_text m ≡ message_text n → m ≡ n
one_message kind other m n h k e =
    let info : info_parts (message_info m) ≡ info_parts (message_info n) =
    same info-whole (info_parts (message_info m)) (info_parts (message_info n)) h.info k.info e in
    let around : signed_parts (message_data m) ≡ signed_parts (message_data n) =
    same signed-whole (signed_parts (message_data m)) (signed_parts (message_data n)) (h.signed, h.signed_fits) (k.signed, k.signed_fits)
    (ap (λ (x : InfoRead). x.1) info) in
    let inside : encapsulated_parts (message_encapsulated m) ≡ encapsulated_parts (message_encapsulated n) =
    same encapsulated-whole (encapsulated_parts (message_encapsulated m)) (encapsulated_parts (message_encapsulated n))
    h.encapsulated k.encapsulated (ap (λ (x : SignedRead). x.1.1.0) around) in
    let behind : message_tail m ≡ message_tail n =
    same tail-whole (message_tail m) (message_tail n) h.tail k.tail (ap (λ (x : SignedRead). x.1.1.1) around) in
    messages m.version n.version m.digest_algorithms n.digest_algorithms m.content_type n.content_type m.content n.content
    m.certificates n.certificates m.crls n.crls m.signer n.signer
    (ap (λ (x : SignedRead). x.0) around) (ap (λ (x : SignedRead). x.1.0) around)
    (ap (λ (x : EncapsulatedRead). x.0) inside) (some_is _ _ (ap (λ (x : EncapsulatedRead). x.1) inside))
    (same_if choices-whole m.certificates n.certificates h.certificates k.certificates
    (ap (λ (x : Tail). x.certificates) behind))
    (ap (λ (x : Tail). x.crls) behind)
    (same_signer m.signer n.signer h.signer k.signer h.signed_attributes k.signed_attributes h.unsigned_attributes
    k.unsigned_attributes
    (ap (λ (x : List ℕ). x) (ap (λ (x : Tail). x.signer_infos) behind)))
