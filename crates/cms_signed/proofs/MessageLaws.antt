-- An item of which the conditions hold is the text of one message.
use Rattle.std.proofs.Common.{◌≡◌, ℕ, ◌≤◌, List, ◌∷◌, [], ◌++◌, length, Option, Some, None, Result}
use Rattle.std.proofs.Common.{Ok, Err, refl, sym, ap, subst, ◌∙◌}
use Rattle.std.specs.Prelude.{IfSome, IfOk, IsSome, option_map}
use Rattle.std.specs.List.{AllByRecursion}
use Rattle.der_core.specs.Asked.{Asked, AllHold, FirstFail}
use Rattle.der_core.specs.Attribute.{Attribute, IsAttribute}
use Rattle.der_core.specs.Element.{HasRoom}
use Rattle.der_core.proofs.AskedLemmas.{first_front, first_behind, all_hold}
use Rattle.attribute_set.specs.AttributeSet.{set_contents, AreAttributes}
use Rattle.cms_signed.specs.declared.signed.SignedFault.{SignedFault}
use Rattle.cms_signed.specs.declared.signed.SignedFault.TheVariants as faults
use Rattle.cms_signed.specs.declared.signed.SignedView.{SignedView}
use Rattle.cert_fields.specs.Algorithms.{signature_algorithm}
use Rattle.cms_signed.specs.Answer.{content_at}
use Rattle.cms_signed.specs.Certificates.{CertificateChoice, choices_text, AreChoices, IsChoice}
use Rattle.cms_signed.specs.Cut.{signed_data}
use Rattle.cms_signed.specs.Message.{Signer, Message, message_signer, message_tail, message_encapsulated, message_data}
use Rattle.cms_signed.specs.Message.{message_info, message_text, IsMessage}
use Rattle.cms_signed.specs.SignedAnswer.{certificates_of, Shows, IsSignedAnswer, IsBehind, IsTailAnswer}
use Rattle.cms_signed.specs.Signed.{ContentInfo, info_text, IsInfo, SignedData, signed_contents, signed_text, IsSigned}
use Rattle.cms_signed.specs.Signed.{EncapsulatedContentInfo, encapsulated_contents, IsEncapsulated, Tail, tail_text, IsTail}
use Rattle.cms_signed.specs.Signed.{HasEncapsulated, outer_conditions, IsOuter, encrypted_data, compressed_data}
use Rattle.cms_signed.specs.Signer.{signer_text}
use Rattle.cms_signed.specs.SignerKnown.{HasAsked}
use Rattle.cms_signed.specs.Tail.{TailAsked, on_tail, in_item, tail_conditions, signed_conditions}
use Rattle.cms_signed.proofs.SignedLaws.{outer_is, info_at, encapsulated_at, info_parts, signed_parts}
use Rattle.cms_signed.proofs.SignedLaws.{encapsulated_parts, EncapsulatedIs, tail_all, tail_fails}
use Rattle.cms_signed.proofs.SignedLaws.{tail_from}
use Rattle.cms_signed.proofs.TailLaws.{all_asked, tail_at, signer_at, signer_of_has, are_asked, is_behind}
use Rattle.cms_signed.proofs.TailLaws.{HasSignedAttributes, HasDigest}

-- ---- from the parts to the message

info_was : (i : ContentInfo) (kind content : List ℕ) → i.content_type ≡ kind → i.content ≡ content
    → i ≡ record { content_type = kind; content = content }
info_was i kind content k c = rw (← k, ← c) refl

data_was : (s : SignedData) (encapsulated tail : List ℕ) → s.encapsulated ≡ encapsulated → s.tail ≡ tail
    → s ≡ record {
      version = s.version;
      digest_algorithms = s.digest_algorithms;
      encapsulated = encapsulated;
      tail = tail;
    }
data_was s encapsulated tail e t = rw (← e, ← t) refl

encapsulated_was : (e : EncapsulatedContentInfo) (content : Option (List ℕ)) → e.content ≡ content
    → e ≡ record { content_type = e.content_type; content = content }
encapsulated_was e content c = rw (← c) refl

tail_was : (t : Tail) (certificates : Option (List ℕ)) (signers : List ℕ) → t.certificates ≡ certificates
    → t.signer_infos ≡ signers → t ≡ record { certificates = certificates; crls = t.crls; signer_infos = signers }
tail_was t certificates signers c s = rw (← c, ← s) refl

-- what the conditions 3 to 11 say of the values read
record Outside (kind : List ℕ) (i : ContentInfo) (s : SignedData) (e : EncapsulatedContentInfo) : Type 0 where
  signed : i.content_type ≡ signed_data
  not_encrypted : e.content_type ≡ encrypted_data → ⊥
  not_compressed : e.content_type ≡ compressed_data → ⊥
  content_type : e.content_type ≡ kind
  most : length s.tail ≤ 1048576

outside : (kind item content tail : List ℕ) (o : IsOuter item content tail) → AllHold (outer_conditions kind item)
    → Outside kind o.0 o.3.0 o.3.3.0
outside kind item content tail o h =
    let k = outer_is item content tail o in
    record {
      signed = info_at item (info_parts o.0) (λ i. i.content_type ≡ signed_data) k.signed.info h.1.0;
      not_encrypted = at k (λ s e. e.content_type ≡ encrypted_data → ⊥) h.1.1.1.1.0;
      not_compressed = at k (λ s e. e.content_type ≡ compressed_data → ⊥) h.1.1.1.1.1.0;
      content_type = at k (λ s e. e.content_type ≡ kind) h.1.1.1.1.1.1.0;
      most = at k (λ s e. length s.tail ≤ 1048576) h.1.1.1.1.1.1.1.1.0;
    }
  where
    at : EncapsulatedIs item (info_parts o.0) (signed_parts o.3.0) (encapsulated_parts o.3.3.0)
        → (P : SignedData → EncapsulatedContentInfo → Type 0) → HasEncapsulated item P → P o.3.0 o.3.3.0
    at k P h = encapsulated_at item (info_parts o.0) (signed_parts o.3.0) (encapsulated_parts o.3.3.0) P k h

-- a message of these parts
record IsOf (kind item content : List ℕ) (certificates : Option (List CertificateChoice)) (signer : Signer) : Type 0 where
  message : Message
  valid : IsMessage kind message
  text : item ≡ message_text message
  content_is : message.content ≡ content
  certificates_are : message.certificates ≡ certificates
  signer_is : message.signer ≡ signer

message_of : (kind item content tail : List ℕ) (certificates : Option (List CertificateChoice)) (signer : Signer)
    → IsOuter item content tail → AllHold (outer_conditions kind item) → IsBehind tail certificates signer
    → IsOf kind item content certificates signer
message_of kind item content tail certificates signer o h b =
    let out = outside kind item content tail o h in
    let i = o.0 in
    let s = o.3.0 in
    let e = o.3.3.0 in
    let m : Message = record {
      version = s.version;
      digest_algorithms = s.digest_algorithms;
      content_type = e.content_type;
      content = content;
      certificates = certificates;
      crls = b.parts.crls;
      signer = signer;
    } in
    let e-is : e ≡ message_encapsulated m = encapsulated_was e (Some content) o.3.3.3.0 in
    let t-is : b.parts ≡ message_tail m =
    tail_was b.parts (option_map choices_text certificates) (signer_text (message_signer signer)) b.certificates_are b.signer_is in
    let tail-is : s.tail ≡ tail_text (message_tail m) = o.3.3.3.1 ∙ b.text ∙ ap tail_text t-is in
    let s-is : s ≡ message_data m =
    data_was s (encapsulated_contents (message_encapsulated m)) (tail_text (message_tail m))
    (o.3.3.2 ∙ ap encapsulated_contents e-is) tail-is in
    let i-is : i ≡ message_info m =
    info_was i signed_data (signed_text (message_data m)) out.signed (o.3.2 ∙ ap signed_text s-is) in
    record {
      message = m;
      valid = record {
        info = subst IsInfo i-is o.1;
        signed = subst IsSigned s-is o.3.1.0;
        signed_fits = subst (λ (x : SignedData). HasRoom (signed_contents x)) s-is o.3.1.1;
        encapsulated = subst IsEncapsulated e-is o.3.3.1;
        content_type = out.content_type;
        not_encrypted = λ is. out.not_encrypted (out.content_type ∙ is);
        not_compressed = λ is. out.not_compressed (out.content_type ∙ is);
        tail = subst IsTail t-is b.valid;
        most = subst (λ (x : List ℕ). length x ≤ 1048576) tail-is out.most;
        certificates = b.choices;
        signer = b.signer_valid;
        signed_attributes = b.signed_attributes;
        unsigned_attributes = b.unsigned_attributes;
      };
      text = o.2 ∙ ap info_text i-is;
      content_is = refl;
      certificates_are = refl;
      signer_is = refl;
    }

-- ---- the answers of the readers

shown : (view : SignedView) (certificates certificates' : Option (List CertificateChoice)) (signer signer' : Signer)
    → certificates ≡ certificates' → signer ≡ signer' → Shows view certificates' signer' → Shows view certificates signer
shown view certificates certificates' signer signer' c s h =
    subst (λ (x : Option (List CertificateChoice)). Shows view x signer) (sym c)
    (subst (λ (x : Signer). Shows view certificates' x) (sym s) h)

pub is_read : (kind : List ℕ) (cut : Option (ℕ × ℕ)) (item content found tail : List ℕ)
    (result : Result SignedView SignedFault)
    → AllHold (outer_conditions kind item) → IsOuter item (content_at cut found content) tail → IsTailAnswer tail result
    → IfOk result (λ view. view.content.now ≡ found) → IsSignedAnswer kind cut item content result
is_read kind cut item content found tail (Ok view) h o a same =
    let m = message_of kind item (content_at cut found content) tail a.1.0 a.1.1 o h a.1.2 in (
      all_hold (outer_conditions kind item) (in_item tail_conditions item) h
          (tail_all tail_conditions item (content_at cut found content) tail o a.0),
      record {
        message = m.message;
        valid = m.valid;
        text = m.text;
        content_is = m.content_is ∙ ap (λ (x : List ℕ). content_at cut x content) (sym same);
        shows = shown view m.message.certificates a.1.0 m.message.signer a.1.1 m.certificates_are m.signer_is a.1.3;
      },
    )
is_read kind cut item content found tail (Err (faults.Fails number)) h o a same =
    first_behind (outer_conditions kind item) (in_item tail_conditions item) number h
    (tail_fails tail_conditions item (content_at cut found content) tail number o a)
is_read kind cut item content found tail (Err faults.Memory) h o a same = tt

pub fails_outside : (kind item : List ℕ) (number : ℕ) → FirstFail (outer_conditions kind item) number
    → FirstFail (signed_conditions kind item) number
fails_outside kind item number f = first_front (outer_conditions kind item) (in_item tail_conditions item) number f

-- ---- the conditions hold of exactly the texts of messages

all_split : (a b : List Asked) → AllHold (a ++ b) → AllHold a × AllHold b
all_split [] b h = (tt, h)
all_split (c ∷ more) b h = let g = all_split more b h.1 in ((h.0, g.0), g.1)

all_on_tail : (conditions : List TailAsked) (item content tail : List ℕ) → IsOuter item content tail
    → AllHold (in_item conditions item) → AllHold (on_tail conditions tail)
all_on_tail [] item content tail o h = tt
all_on_tail (c ∷ more) item content tail o h =
    (tail_from item content tail c.holds o h.0, all_on_tail more item content tail o h.1)

-- the certificates of a set that holds choices
certificates_had : (set : Option (List ℕ)) → IfSome set AreChoices
    → (choices : Option (List CertificateChoice)) × IfSome choices (AllByRecursion IsChoice)
    × (set ≡ option_map choices_text choices)
certificates_had None h = (None, tt, refl)
certificates_had (Some octets) h = (Some h.0, h.1, ap (λ (x : List ℕ). Some x) h.2)

some_content : (o : Option (List ℕ)) → IsSome o → (content : List ℕ) × (o ≡ Some content)
some_content None some = absurd cc
some_content (Some content) some = (content, refl)

-- the content and the octets behind it
outer_had : (kind item : List ℕ) → AllHold (outer_conditions kind item)
    → (content : List ℕ) × (tail : List ℕ) × IsOuter item content tail
outer_had kind item h = by_case h.1.1.1.1.1.1.1.0
  where
    by_case : HasEncapsulated item (λ s e. IsSome e.content)
        → (content : List ℕ) × (tail : List ℕ) × IsOuter item content tail
    by_case (i, valid-i, text-i, (s, valid-s, text-s, (e, valid-e, text-e, some))) =
        let c = some_content e.content some in
        (c.0, s.tail, (i, valid-i, text-i, (s, valid-s, text-s, (e, valid-e, text-e, (c.1, refl)))))

-- octets of which the conditions 12 to 18 hold are a signer's
behind_of : (tail : List ℕ) → AllHold (on_tail tail_conditions tail)
    → (certificates : Option (List CertificateChoice)) × (signer : Signer) × IsBehind tail certificates signer
behind_of tail h =
    let signature = h.1.1.1.1.1.1.0 in
    let k = signer_of_has tail (λ s. s.signature_algorithm ≡ signature_algorithm) signature in
    let certificates = tail_at tail k.0 (λ t. IfSome t.certificates AreChoices) k.2.tail h.0 in
    let c = certificates_had k.0.certificates certificates in
    let asked = are_asked tail k.0 k.1 (certificates_of c.0) k.2
    (record { choices = c.0; valid = c.1; set_is = c.2; are = refl })
    (signer_at tail k.0 k.1 (λ s. IfSome s.unsigned_attributes AreAttributes) k.2 h.1.1.1.0) in
    let signed = signer_at tail k.0 k.1 HasSignedAttributes k.2 h.1.1.1.1.0 in
    let digest = signer_at tail k.0 k.1 HasDigest k.2 h.1.1.1.1.1.0 in
    let b = is_behind tail (certificates_of c.0) k.1 signed.0 asked signed.1 signed.2 digest k.3 in
    (b.0, b.1, b.2)

pub accepted : (kind item : List ℕ) → AllHold (signed_conditions kind item)
    → (m : Message) × IsMessage kind m × (item ≡ message_text m)
accepted kind item h =
    let g = all_split (outer_conditions kind item) (in_item tail_conditions item) h in
    let o = outer_had kind item g.0 in
    let b = behind_of o.1 (all_on_tail tail_conditions item o.0 o.1 o.2 g.1) in
    let m = message_of kind item o.0 o.1 b.0 b.1 o.2 g.0 b.2 in
    (m.message, m.valid, m.text)

-- what a message says of its item
of_item : (kind : List ℕ) (m : Message) (P : SignedData → EncapsulatedContentInfo → Type 0) → IsMessage kind m
    → P (message_data m) (message_encapsulated m) → HasEncapsulated (message_text m) P
of_item kind m P h p = (
  message_info m,
  h.info,
  refl,
  (message_data m, (h.signed, h.signed_fits), refl, (message_encapsulated m, h.encapsulated, refl, p)),
)

unsigned_are : (attributes : Option (List Attribute)) → IfSome attributes (AllByRecursion IsAttribute)
    → IfSome (option_map set_contents attributes) AreAttributes
unsigned_are None h = tt
unsigned_are (Some attributes) h = (attributes, h, refl)

message_asked : (kind : List ℕ) (m : Message) → IsMessage kind m
    → HasAsked (tail_text (message_tail m)) (certificates_of m.certificates) (message_signer m.signer)
message_asked kind m h = record {
  parts = message_tail m;
  valid = h.tail;
  text = refl;
  certificates_are = record { choices = m.certificates; valid = h.certificates; set_is = refl; are = refl };
  signer = h.signer;
  signer_is = refl;
  unsigned = unsigned_are m.signer.unsigned_attributes h.unsigned_attributes;
}

all_in_message : (conditions : List TailAsked) (kind : List ℕ) (m : Message) → IsMessage kind m
    → AllHold (on_tail conditions (tail_text (message_tail m))) → AllHold (in_item conditions (message_text m))
all_in_message [] kind m h all = tt
all_in_message (c ∷ more) kind m h all =
    (of_item kind m (λ s e. c.holds s.tail) h all.0, all_in_message more kind m h all.1)

message_outside : (kind : List ℕ) (m : Message) → IsMessage kind m → AllHold (outer_conditions kind (message_text m))
message_outside kind m h = (
  (message_info m, h.info, refl, tt),
  (
    (message_info m, h.info, refl, refl),
    (
      (message_info m, h.info, refl, (message_data m, (h.signed, h.signed_fits), refl, tt)),
      (
        of_item kind m (λ s e. Unit {0}) h tt,
        (
          of_item kind m (λ s e. e.content_type ≡ encrypted_data → ⊥) h (λ is. h.not_encrypted (sym h.content_type ∙ is)),
          (
            of_item kind m (λ s e. e.content_type ≡ compressed_data → ⊥) h
                (λ is. h.not_compressed (sym h.content_type ∙ is)),
            (
              of_item kind m (λ s e. e.content_type ≡ kind) h h.content_type,
              (
                of_item kind m (λ s e. IsSome e.content) h refl,
                (of_item kind m (λ s e. length s.tail ≤ 1048576) h h.most, tt),
              ),
            ),
          ),
        ),
      ),
    ),
  ),
)

message_holds : (kind : List ℕ) (m : Message) → IsMessage kind m → AllHold (signed_conditions kind (message_text m))
message_holds kind m h =
    all_hold (outer_conditions kind (message_text m)) (in_item tail_conditions (message_text m)) (message_outside kind m h)
    (all_in_message tail_conditions kind m h
    (all_asked (tail_text (message_tail m)) (certificates_of m.certificates) (message_signer m.signer)
    (message_asked kind m h) (m.signer.signed_attributes, h.signed_attributes, refl) (m.signer.has_null, refl) refl))

pub holds : (kind item : List ℕ) → ((m : Message) × IsMessage kind m × (item ≡ message_text m))
    → AllHold (signed_conditions kind item)
holds kind item (m, h, is) = subst (λ (x : List ℕ). AllHold (signed_conditions kind x)) (sym is) (message_holds kind m h)
