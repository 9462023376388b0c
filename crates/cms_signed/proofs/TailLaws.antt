-- The conditions 12 to 18, of the octets behind encapContentInfo, are decided.
use Rattle.std.proofs.Common.{◌≡◌, ℕ, Bool, List, ◌∷◌, [], ◌++◌, drop, length, true, false, ◌||◌, arith, Option, Some, None, refl, sym, ap, subst, ◌∙◌, inl, inr}
use Rattle.std.specs.Prelude.{IfOk, Result, Ok, Err, IfSome, option_map, is_some, bytes_eq}
use Rattle.std.proofs.lemmas.Bool.{false≢true, cases_Bool}
use Rattle.std.proofs.lemmas.List.{append-nil, length-append}
use Rattle.std.proofs.lemmas.Slice.Eq.{bytes_eq-Decides}
use Rattle.der_core.specs.Reads.{Reads}
use Rattle.der_core.specs.Shapes.{text_if}
use Rattle.der_core.proofs.Digits.{AreOctets, AreOctets-right}
use Rattle.der_core.proofs.Fronts.{contents_octets, tagged_again}
use Rattle.der_core.proofs.Numbers.{some_is}
use Rattle.der_core.specs.Reading.{tagged_of}
use Rattle.der_core.proofs.Places.{length-enc}
use Rattle.der_core.proofs.Theorems.{enc-one}
use Rattle.std.specs.List.{AllByRecursion}
use Rattle.der_core.specs.Asked.{AllHold, FirstFail}
use Rattle.der_core.specs.Attribute.{Attribute, IsAttribute}
use Rattle.der_core.specs.Element.{enc, IsElement, IsTagged, HasRoom}
use Rattle.attribute_set.specs.AttributeSet.{IsAttributeSet, AreAttributes, set_contents}
use Rattle.cert_fields.specs.Certificate.{Certificate}
use Rattle.cert_fields.specs.Algorithms.{digest_algorithm, signature_algorithm}
use Rattle.cms_signed.specs.Certificates.{CertificateChoice, choices_text, AreChoices, IsChoice}
use Rattle.cms_signed.specs.Message.{Signer, message_signer}
use Rattle.cms_signed.specs.SignedAnswer.{IsBehind, certificates_of}
use Rattle.cms_signed.specs.Signed.{Tail, IsTail, tail_text}
use Rattle.der_core.specs.Number.{number_contents}
use Rattle.cert_fields.specs.Sid.{sid_text}
use Rattle.cms_signed.specs.SignedReading.{tail_of}
use Rattle.cms_signed.specs.Signer.{SignerInfo, IsSignerInfo, signer_contents, signer_text, signed_attributes_text}
use Rattle.cms_signed.specs.Signer.{to_be_signed}
use Rattle.std.proofs.lemmas.Option.{none-some}
use Rattle.cms_signed.specs.SignerKnown.{HasCertificates, HasAsked}
use Rattle.cms_signed.specs.SignerReading.{sequence_of, signer_of}
use Rattle.cms_signed.specs.Tail.{HasTail, HasSigner, on_tail, tail_conditions}
use Rattle.cms_signed.proofs.SignedLaws.{tail-whole, known, unread}
use Rattle.cms_signed.proofs.SignerLaws.{sequence-whole, signer-whole}

-- ---- what was read is what the conditions speak of

-- the octets were read as these parts
pub record TailIs (octets : List ℕ) (t : Tail) : Type 0 where
  pub is : tail_of octets ≡ Some t
  pub valid : IsTail t
  pub text : octets ≡ tail_text t

pub tail_at : (octets : List ℕ) (t : Tail) (P : Tail → Type 0) → TailIs octets t → HasTail octets P → P t
tail_at octets t P k (u, valid, text, p) = subst P (known tail-whole octets t u k.is valid text) p

tail_has : (octets : List ℕ) (t : Tail) (P : Tail → Type 0) → TailIs octets t → P t → HasTail octets P
tail_has octets t P k p = (t, k.valid, k.text, p)

-- and signerInfos as this signer
pub record SignerIs (octets : List ℕ) (t : Tail) (s : SignerInfo) : Type 0 where
  pub tail : TailIs octets t
  pub is : signer_of t.signer_infos ≡ Some s
  pub valid : IsSignerInfo s
  pub text : t.signer_infos ≡ signer_text s

pub signer_at : (octets : List ℕ) (t : Tail) (s : SignerInfo) (P : SignerInfo → Type 0) → SignerIs octets t s
    → HasSigner octets P → P s
signer_at octets t s P k h =
    let g = tail_at octets t (λ t. (s : SignerInfo) × IsSignerInfo s × (t.signer_infos ≡ signer_text s) × P s) k.tail h in
    subst P (known signer-whole t.signer_infos s g.0 k.is g.1 g.2) g.3

signer_has : (octets : List ℕ) (t : Tail) (s : SignerInfo) (P : SignerInfo → Type 0) → SignerIs octets t s → P s
    → HasSigner octets P
signer_has octets t s P k p = tail_has octets t _ k.tail (s, k.valid, k.text, p)

-- the parts and the signer of which something holds
pub signer_of_has : (octets : List ℕ) (P : SignerInfo → Type 0) → HasSigner octets P
    → (t : Tail) × (s : SignerInfo) × SignerIs octets t s × P s
signer_of_has octets P (t, valid, text, (s, valid-s, text-s, p)) = (
  t,
  s,
  record {
    tail = record { is = ap tail_of text ∙ tail-whole.again t valid; valid = valid; text = text };
    is = ap signer_of text-s ∙ signer-whole.again s valid-s;
    valid = valid-s;
    text = text-s;
  },
  p,
)

-- ---- as the code reads

in_signers : (octets : List ℕ) (t : Tail) → AreOctets octets → octets ≡ tail_text t → AreOctets t.signer_infos
in_signers octets t are text =
    let behind = AreOctets-right (text_if (enc 0xA0) t.certificates) (text_if (enc 0xA1) t.crls ++ enc 0x31 t.signer_infos)
    (subst AreOctets text are) in
    let last = AreOctets-right (text_if (enc 0xA1) t.crls) (enc 0x31 t.signer_infos) behind in
    contents_octets 0x31 t.signer_infos [] (enc 0x31 t.signer_infos) last (sym (append-nil (enc 0x31 t.signer_infos)))

pub tail_is : (octets : List ℕ) (t : Tail) → AreOctets octets → tail_of octets ≡ Some t → TailIs octets t
tail_is octets t are is =
    let h = tail-whole.takes octets t are is in record { is = is; valid = h.0; text = h.1 }

pub one_is : (octets : List ℕ) (t : Tail) → AreOctets octets → TailIs octets t
    → is_some (sequence_of t.signer_infos) ≡ true
    → (contents : List ℕ) × HasRoom contents × (t.signer_infos ≡ enc 0x30 contents)
one_is octets t are k is = by_case (sequence_of t.signer_infos) refl is
  where
    by_case : (r : Option (List ℕ)) → sequence_of t.signer_infos ≡ r → is_some r ≡ true
        → (contents : List ℕ) × HasRoom contents × (t.signer_infos ≡ enc 0x30 contents)
    by_case None e wrong = absurd (false≢true wrong)
    by_case (Some contents) e right =
        let h = sequence-whole.takes t.signer_infos contents (in_signers octets t are k.text) e in (contents, h.0, h.1)

pub isnt_one : (signers : List ℕ) → is_some (sequence_of signers) ≡ false → sequence_of signers ≡ None
isnt_one signers isnt = by_case (sequence_of signers) refl isnt
  where
    by_case : (r : Option (List ℕ)) → sequence_of signers ≡ r → is_some r ≡ false → r ≡ None
    by_case None e isnt = refl
    by_case (Some contents) e isnt = absurd (false≢true (sym isnt))

pub signer_is : (octets : List ℕ) (t : Tail) (s : SignerInfo) → AreOctets octets → TailIs octets t
    → signer_of t.signer_infos ≡ Some s → SignerIs octets t s
signer_is octets t s are k is =
    let h = signer-whole.takes t.signer_infos s (in_signers octets t are k.text) is in
    record { tail = k; is = is; valid = h.0; text = h.1 }

pub are_asked : (octets : List ℕ) (t : Tail) (s : SignerInfo) (certificates : List Certificate) → SignerIs octets t s
    → HasCertificates t.certificates certificates → IfSome s.unsigned_attributes AreAttributes
    → HasAsked octets certificates s
are_asked octets t s certificates k has unsigned = record {
  parts = t;
  valid = k.tail.valid;
  text = k.tail.text;
  certificates_are = has;
  signer = k.valid;
  signer_is = k.text;
  unsigned = unsigned;
}

-- of what a call gives where it gives something
pub reads_all : {A E : Type 0} {P Q : A → Type 0} (r : Result A E) → ((x : A) → P x → Q x) → IfOk r P → IfOk r Q
reads_all (Ok x) to p = to x p
reads_all (Err e) to p = tt

pub no_yes : {b : Bool} → b ≡ true → b ≡ false → ⊥
no_yes is isnt = false≢true (sym isnt ∙ is)

-- ---- each condition, as the first that fails

-- a number that is this one
pub numbered : (octets : List ℕ) (number this : ℕ) → number ≡ this → FirstFail (on_tail tail_conditions octets) this
    → FirstFail (on_tail tail_conditions octets) number
numbered octets number this is fails = subst (λ (n : ℕ). FirstFail (on_tail tail_conditions octets) n) (sym is) fails

pub no_tail : (octets : List ℕ) → tail_of octets ≡ None → FirstFail (on_tail tail_conditions octets) 12
no_tail octets is = inl (refl, λ has. unread tail-whole octets has.0 is has.1 has.2)

pub bad_certificates : (octets : List ℕ) (t : Tail) → TailIs octets t → (IfSome t.certificates AreChoices → ⊥)
    → FirstFail (on_tail tail_conditions octets) 12
bad_certificates octets t k bad =
    inl (refl, λ has. bad (tail_at octets t (λ t. IfSome t.certificates AreChoices) k has))

-- one SEQUENCE stands in signerInfos
abbrev OneSigner : Tail → Type 0
OneSigner t = (contents : List ℕ) × IsElement 0x30 contents × (t.signer_infos ≡ enc 0x30 contents)

room : (contents : List ℕ) → HasRoom contents → IsElement 0x30 contents
room contents fits = record { octet = omega arith; low_bits = omega arith; fits = fits }

pub no_signer : (octets : List ℕ) (t : Tail) → TailIs octets t → IfSome t.certificates AreChoices
    → sequence_of t.signer_infos ≡ None → FirstFail (on_tail tail_conditions octets) 13
no_signer octets t k certificates is =
    inr (
      tail_has octets t (λ t. IfSome t.certificates AreChoices) k certificates,
      inl (
        refl,
        λ has. (let g = tail_at octets t OneSigner k has in
            unread sequence-whole t.signer_infos g.0 is g.1.fits g.2),
      ),
    )

pub bad_signer : (octets : List ℕ) (t : Tail) (contents : List ℕ) → TailIs octets t → IfSome t.certificates AreChoices
    → HasRoom contents × (t.signer_infos ≡ enc 0x30 contents)
    → signer_of t.signer_infos ≡ None → FirstFail (on_tail tail_conditions octets) 14
bad_signer octets t contents k certificates one is =
    inr (
      tail_has octets t (λ t. IfSome t.certificates AreChoices) k certificates,
      inr (
        tail_has octets t OneSigner k (contents, room contents one.0, one.1),
        inl (
          refl,
          λ has. (let g = tail_at octets t
              (λ t. (s : SignerInfo) × IsSignerInfo s × (t.signer_infos ≡ signer_text s) × Unit {0}) k has in
              unread signer-whole t.signer_infos g.0 is g.1 g.2),
        ),
      ),
    )

-- the conditions behind the first three
after_three : (octets : List ℕ) (t : Tail) (s : SignerInfo) (number : ℕ) → SignerIs octets t s
    → IfSome t.certificates AreChoices → FirstFail (drop 3 (on_tail tail_conditions octets)) number
    → FirstFail (on_tail tail_conditions octets) number
after_three octets t s number k certificates fails =
    inr (
      tail_has octets t (λ t. IfSome t.certificates AreChoices) k.tail certificates,
      inr (
        tail_has octets t OneSigner k.tail (signer_contents s, room (signer_contents s) k.valid.fits, k.text),
        inr (signer_has octets t s _ k tt, fails),
      ),
    )

pub bad_unsigned : (octets : List ℕ) (t : Tail) (s : SignerInfo) → SignerIs octets t s
    → IfSome t.certificates AreChoices → (IfSome s.unsigned_attributes AreAttributes → ⊥)
    → FirstFail (on_tail tail_conditions octets) 15
bad_unsigned octets t s k certificates bad =
    after_three octets t s 15 k certificates
    (inl (refl, λ has. bad (signer_at octets t s (λ s. IfSome s.unsigned_attributes AreAttributes) k has)))

-- ---- the conditions 16 to 18, where those before hold

abbrev pub HasSignedAttributes : SignerInfo → Type 0
HasSignedAttributes s = (attributes : List Attribute) × IsAttributeSet attributes
    × (s.signed_attributes ≡ Some (signed_attributes_text attributes))

abbrev pub HasDigest : SignerInfo → Type 0
HasDigest s = (has_null : Bool) × (s.digest_algorithm ≡ digest_algorithm has_null)

pub are_choices : (set : Option (List ℕ)) (certificates : List Certificate) → HasCertificates set certificates
    → IfSome set AreChoices
are_choices set certificates h = subst (λ (o : Option (List ℕ)). IfSome o AreChoices) (sym h.set_is) (by_case h.choices h.valid)
  where
    by_case : (choices : Option (List CertificateChoice)) → IfSome choices (AllByRecursion IsChoice)
        → IfSome (option_map choices_text choices) AreChoices
    by_case None valid = tt
    by_case (Some choices) valid = (choices, valid, refl)

asked_is : (octets : List ℕ) (certificates : List Certificate) (s : SignerInfo) (h : HasAsked octets certificates s)
    → SignerIs octets h.parts s
asked_is octets certificates s h = record {
  tail = record { is = ap tail_of h.text ∙ tail-whole.again h.parts h.valid; valid = h.valid; text = h.text };
  is = ap signer_of h.signer_is ∙ signer-whole.again s h.signer;
  valid = h.signer;
  text = h.signer_is;
}

-- behind the first four
after_four : (octets : List ℕ) (certificates : List Certificate) (s : SignerInfo) (number : ℕ)
    → HasAsked octets certificates s → FirstFail (drop 4 (on_tail tail_conditions octets)) number
    → FirstFail (on_tail tail_conditions octets) number
after_four octets certificates s number h fails =
    let k = asked_is octets certificates s h in
    after_three octets h.parts s number k (are_choices h.parts.certificates certificates h.certificates_are)
    (inr (signer_has octets h.parts s (λ s. IfSome s.unsigned_attributes AreAttributes) k h.unsigned, fails))

pub bad_signed : (octets : List ℕ) (certificates : List Certificate) (s : SignerInfo) → HasAsked octets certificates s
    → ((attributes : List Attribute) → IsAttributeSet attributes
    → s.signed_attributes ≡ Some (signed_attributes_text attributes) → ⊥)
    → FirstFail (on_tail tail_conditions octets) 16
bad_signed octets certificates s h bad =
    after_four octets certificates s 16 h (inl (
      refl,
      λ has. (let g = signer_at octets h.parts s HasSignedAttributes (asked_is octets certificates s h) has in
          bad g.0 g.1 g.2),
    ))

pub bad_digest : (octets : List ℕ) (certificates : List Certificate) (s : SignerInfo) → HasAsked octets certificates s
    → HasSignedAttributes s → (HasDigest s → ⊥) → FirstFail (on_tail tail_conditions octets) 17
bad_digest octets certificates s h signed bad =
    let k = asked_is octets certificates s h in
    after_four octets certificates s 17 h (inr (
      signer_has octets h.parts s HasSignedAttributes k signed,
      inl (refl, λ has. bad (signer_at octets h.parts s HasDigest k has)),
    ))

pub bad_signature : (octets : List ℕ) (certificates : List Certificate) (s : SignerInfo)
    → HasAsked octets certificates s → HasSignedAttributes s → HasDigest s
    → (s.signature_algorithm ≡ signature_algorithm → ⊥) → FirstFail (on_tail tail_conditions octets) 18
bad_signature octets certificates s h signed digest bad =
    let k = asked_is octets certificates s h in
    after_four octets certificates s 18 h (inr (
      signer_has octets h.parts s HasSignedAttributes k signed,
      inr (
        signer_has octets h.parts s HasDigest k digest,
        inl (refl, λ has. bad (signer_at octets h.parts s (λ s. s.signature_algorithm ≡ signature_algorithm) k has)),
      ),
    ))

pub all_asked : (octets : List ℕ) (certificates : List Certificate) (s : SignerInfo) → HasAsked octets certificates s
    → HasSignedAttributes s → HasDigest s → s.signature_algorithm ≡ signature_algorithm
    → AllHold (on_tail tail_conditions octets)
all_asked octets certificates s h signed digest signature =
    let k = asked_is octets certificates s h in (
      tail_has octets h.parts (λ t. IfSome t.certificates AreChoices) k.tail
          (are_choices h.parts.certificates certificates h.certificates_are),
      (
        tail_has octets h.parts OneSigner k.tail (signer_contents s, room (signer_contents s) h.signer.fits, h.signer_is),
        (
          signer_has octets h.parts s (λ s. Unit {0}) k tt,
          (
            signer_has octets h.parts s (λ s. IfSome s.unsigned_attributes AreAttributes) k h.unsigned,
            (
              signer_has octets h.parts s HasSignedAttributes k signed,
              (
                signer_has octets h.parts s HasDigest k digest,
                (signer_has octets h.parts s (λ s. s.signature_algorithm ≡ signature_algorithm) k signature, tt),
              ),
            ),
          ),
        ),
      ),
    )

-- ---- signed attributes, as they stand

-- the element [0] of a signer has room, and so have its contents
pub signed_room : (s : SignerInfo) (element : List ℕ) → IsSignerInfo s → s.signed_attributes ≡ Some element
    → IsTagged 0xA0 element × HasRoom element
signed_room s element h is =
    let tagged : IfSome (Some element) (IsTagged 0xA0) =
    subst (λ (o : Option (List ℕ)). IfSome o (IsTagged 0xA0)) is h.signed_attributes in
    let fits = h.fits in
    (tagged, room_in s element is h.fits)
  where
    room_in : (s : SignerInfo) (element : List ℕ) → s.signed_attributes ≡ Some element → HasRoom (signer_contents s)
        → HasRoom element
    room_in s element is fits =
        let last = s.signature_algorithm ++ (enc 0x04 s.signature ++ text_if (enc 0xA1) s.unsigned_attributes) in
        let front = enc 0x02 (number_contents s.version) in
        let text : text_if (λ octets. octets) s.signed_attributes ≡ element = ap (text_if (λ octets. octets)) is in
        omega (
          arith,
          fits,
          ap length text,
          length-append front (sid_text s.sid ++ (s.digest_algorithm ++ (text_if (λ octets. octets) s.signed_attributes ++ last))),
          length-append (sid_text s.sid) (s.digest_algorithm ++ (text_if (λ octets. octets) s.signed_attributes ++ last)),
          length-append s.digest_algorithm (text_if (λ octets. octets) s.signed_attributes ++ last),
          length-append (text_if (λ octets. octets) s.signed_attributes) last,
        )

-- the contents that were read of the element
pub signed_contents_are : (element contents rest : List ℕ) → IsTagged 0xA0 element
    → tagged_of 0xA0 element ≡ Some (contents, rest) → IsElement 0xA0 contents × (element ≡ enc 0xA0 contents)
signed_contents_are element contents rest h is =
    let read : tagged_of 0xA0 element ≡ Some (h.contents, []) =
    ap (tagged_of 0xA0) (h.text ∙ sym (append-nil (enc 0xA0 h.contents))) ∙ tagged_again 0xA0 h.contents [] h.element in
    let same : h.contents ≡ contents = ap (λ (x : List ℕ × List ℕ). x.0) (some_is (h.contents, []) (contents, rest) (sym read ∙ is)) in
    subst (λ (x : List ℕ). IsElement 0xA0 x × (element ≡ enc 0xA0 x)) same (h.element, h.text)

-- attributes read from the contents are those of the element
pub reads_signed : (element contents : List ℕ) (answer : Option (List Attribute)) → IsElement 0xA0 contents
    → HasRoom element → element ≡ enc 0xA0 contents → Reads set_contents IsAttributeSet contents answer
    → Reads signed_attributes_text IsAttributeSet element answer
reads_signed element contents answer el room text reads v = (
  λ is. (let t = (reads v).0 is in (t.0, text ∙ ap (enc 0xA0) t.1)),
  λ h. (reads v).1 (
    h.0,
    (enc-one 0xA0 0xA0 contents (set_contents v) [] [] el
        (record {
          octet = el.octet;
          low_bits = el.low_bits;
          fits = omega (arith, room, ap length h.1, length-enc 0xA0 (set_contents v));
        })
        (ap (λ (x : List ℕ). x ++ []) (sym text ∙ h.1))).1,
  ),
)

-- none are read, or these
pub none_read : (s : SignerInfo) (element : List ℕ) (answer : Option (List Attribute)) → s.signed_attributes ≡ Some element
    → Reads signed_attributes_text IsAttributeSet element answer → answer ≡ None
    → (attributes : List Attribute) → IsAttributeSet attributes
    → s.signed_attributes ≡ Some (signed_attributes_text attributes) → ⊥
none_read s element answer here reads none attributes set is =
    none-some attributes
    (sym none ∙ (reads attributes).1 (set, some_is element (signed_attributes_text attributes) (sym here ∙ is)))

pub some_read : (s : SignerInfo) (element : List ℕ) (answer : Option (List Attribute)) (attributes : List Attribute)
    → s.signed_attributes ≡ Some element
    → Reads signed_attributes_text IsAttributeSet element answer → answer ≡ Some attributes
    → IsAttributeSet attributes × (s.signed_attributes ≡ Some (signed_attributes_text attributes))
    × (element ≡ signed_attributes_text attributes)
some_read s element answer attributes here reads some =
    let h = (reads attributes).0 some in (h.0, here ∙ ap (λ (x : List ℕ). Some x) h.1, h.1)

-- what is signed has the tag of a SET OF
pub signed_is : (element rest : List ℕ) (attributes : List Attribute) → rest ≡ drop 1 element
    → element ≡ signed_attributes_text attributes → 0x31 ∷ rest ≡ to_be_signed attributes
unfolding enc
signed_is element rest attributes rest-is text =
    ap (λ (x : List ℕ). 0x31 ∷ x) (rest-is ∙ ap (drop 1) text)

-- ---- algorithms

pub is_digest : (s : SignerInfo)
    → bytes_eq s.digest_algorithm (digest_algorithm false) || bytes_eq s.digest_algorithm (digest_algorithm true) ≡ true
    → HasDigest s
is_digest s e = elim (cases_Bool (bytes_eq s.digest_algorithm (digest_algorithm false))) [
  | inl is ↦ (false, (bytes_eq-Decides s.digest_algorithm (digest_algorithm false)).0 is)
  | inr isnt ↦ (true, (bytes_eq-Decides s.digest_algorithm (digest_algorithm true)).0 (rw isnt at e))
]

pub isnt_digest : (s : SignerInfo)
    → bytes_eq s.digest_algorithm (digest_algorithm false) || bytes_eq s.digest_algorithm (digest_algorithm true) ≡ false
    → HasDigest s → ⊥
isnt_digest s e (false, is) =
    false≢true (sym e ∙ rw ((bytes_eq-Decides s.digest_algorithm (digest_algorithm false)).1 is) refl)
isnt_digest s e (true, is) = elim (cases_Bool (bytes_eq s.digest_algorithm (digest_algorithm false))) [
  | inl also ↦ false≢true (sym e ∙ rw also refl)
  | inr isnt ↦
      false≢true (sym e ∙ rw (isnt, (bytes_eq-Decides s.digest_algorithm (digest_algorithm true)).1 is) refl)
]

-- ---- what they hold, as it stands in a message

abbrev WasUnsigned : Option (List ℕ) → Type 0
WasUnsigned octets = (attributes : Option (List Attribute)) × IfSome attributes (AllByRecursion IsAttribute)
    × (octets ≡ option_map set_contents attributes)

unsigned_was : (octets : Option (List ℕ)) → IfSome octets AreAttributes → WasUnsigned octets
unsigned_was None h = (None, tt, refl)
unsigned_was (Some octets) h = (Some h.0, h.1, ap (λ (x : List ℕ). Some x) h.2)

signer_was : (s : SignerInfo) (digest signed signature : List ℕ) (unsigned : Option (List ℕ))
    → s.digest_algorithm ≡ digest → s.signed_attributes ≡ Some signed → s.signature_algorithm ≡ signature
    → s.unsigned_attributes ≡ unsigned
    → s ≡ record {
      version = s.version;
      sid = s.sid;
      digest_algorithm = digest;
      signed_attributes = Some signed;
      signature_algorithm = signature;
      signature = s.signature;
      unsigned_attributes = unsigned;
    }
signer_was s digest signed signature unsigned d a g u = rw (← d, ← a, ← g, ← u) refl

pub is_behind : (octets : List ℕ) (certificates : List Certificate) (s : SignerInfo) (attributes : List Attribute)
    → HasAsked octets certificates s → IsAttributeSet attributes
    → s.signed_attributes ≡ Some (signed_attributes_text attributes) → HasDigest s
    → s.signature_algorithm ≡ signature_algorithm
    → (choices : Option (List CertificateChoice)) × (signer : Signer) × IsBehind octets choices signer
    × (certificates ≡ certificates_of choices) × (s.sid ≡ signer.sid)
    × (attributes ≡ signer.signed_attributes) × (s.signature ≡ signer.signature)
is_behind octets certificates s attributes h set signed digest signature =
    let u = unsigned_was s.unsigned_attributes h.unsigned in
    let signer : Signer = record {
      version = s.version;
      sid = s.sid;
      has_null = digest.0;
      signed_attributes = attributes;
      signature = s.signature;
      unsigned_attributes = u.0;
    } in
    let same : s ≡ message_signer signer =
    signer_was s (digest_algorithm digest.0) (signed_attributes_text attributes) signature_algorithm
    (option_map set_contents u.0) digest.1 signed signature u.2 in (
      h.certificates_are.choices,
      signer,
      record {
        parts = h.parts;
        valid = h.valid;
        text = h.text;
        certificates_are = h.certificates_are.set_is;
        choices = h.certificates_are.valid;
        signer_is = h.signer_is ∙ ap signer_text same;
        signer_valid = subst IsSignerInfo same h.signer;
        signed_attributes = set;
        unsigned_attributes = u.1;
      },
      h.certificates_are.are,
      refl,
      refl,
      refl,
    )
