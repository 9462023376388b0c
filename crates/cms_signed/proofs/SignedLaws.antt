-- The three shapes around a content are read exactly, and so the conditions on them are decided.
use Rattle.std.proofs.Common.{◌≡◌, drop, ℕ, ◌<◌, ◌≤◌, ◌^◌, Bool, true, false, cond, eqb, leb}
use Rattle.std.proofs.Common.{List, [], ◌∷◌, ◌++◌, length, Option, Some, None, Result, Ok, Err, refl, sym, ap, subst}
use Rattle.std.proofs.Common.{◌∙◌, arith, inl, inr}
use Rattle.std.specs.Prelude.{IsSome, IsTrue, MatchResult, bytes_eq, not}
use Rattle.std.proofs.lemmas.Bool.{eqb-true, leb-true, le-leb}
use Rattle.std.proofs.lemmas.List.{append-nil, nil_from_length}
use Rattle.std.proofs.lemmas.Option.{cond_some}
use Rattle.std.proofs.lemmas.Slice.Eq.{bytes_eq-Decides}
use Rattle.der_core.specs.Asked.{AllHold, FirstFail}
use Rattle.der_core.specs.Element.{enc, HasRoom, length_octets}
use Rattle.der_core.specs.Number.{number_contents}
use Rattle.der_core.specs.Reading.{front_of}
use Rattle.der_core.specs.Shapes.{Whole, IsWhole, IsOneElement, text_if}
use Rattle.der_core.specs.Shapes.{begins_with}
use Rattle.der_core.proofs.Components.{raw-front, kept-whole}
use Rattle.der_core.proofs.Digits.{AreOctets, AreOctets-left, AreOctets-right}
use Rattle.der_core.proofs.Element.{element_takes}
use Rattle.der_core.proofs.Fronts.{front_take}
use Rattle.der_core.proofs.Numbers.{some_bind, some_is}
use Rattle.der_core.proofs.Places.{length-enc}
use Rattle.der_core.proofs.Shapes.{alone-whole, before-whole, optional-whole, mapped-whole, tested-whole}
use Rattle.der_core.proofs.Shapes.{number-whole, oid-whole, maybe_before-whole, element-front}
use Rattle.der_core.proofs.Shapes.{sized-element-front, is_tag, enc-begins, front_of-enc}
use Rattle.cms_signed.specs.Cut.{signed_data}
use Rattle.cms_signed.specs.Tail.{TailAsked, on_tail, in_item}
use Rattle.cms_signed.specs.Signed.{info_contents, info_text, IsInfo, ContentInfo, tail_text, IsTail}
use Rattle.cms_signed.specs.Signed.{SignedData, signed_contents, signed_text, is_version, IsSigned}
use Rattle.cms_signed.specs.Signed.{EncapsulatedContentInfo, encapsulated_contents, IsEncapsulated}
use Rattle.cms_signed.specs.Signed.{HasInfo, HasSigned, HasEncapsulated, encrypted_data, compressed_data}
use Rattle.cms_signed.specs.Signed.{outer_conditions, IsOuter}
use Rattle.cms_signed.specs.SignedReading.{one_element, info_made, signed_made, encapsulated_made, tail_made, info_of}
use Rattle.cms_signed.specs.SignedReading.{tail_fields, tail_of, version_of, signed_of, encapsulated_of, or_fails}
use Rattle.cms_signed.specs.SignedReading.{unless, inner, outer_of}

-- ---- parts

one_element-whole : IsWhole (λ (octets : List ℕ). octets) IsOneElement one_element
one_element-whole = record { takes = takes; again = again }
  where
    takes : (bytes x : List ℕ) → AreOctets bytes → one_element bytes ≡ Some x → IsOneElement x × (bytes ≡ x)
    takes bytes x octets e =
        let b = some_bind (front_of bytes) (λ y. cond (eqb (length y.1.1) 0) (Some bytes) None) x e in
        let g = cond_some (eqb (length b.0.1.1) 0) bytes x b.2 in
        let t = element_takes bytes b.0 octets (front_take bytes b.0 b.1) in
        let nothing : b.0.1.1 ≡ [] = nil_from_length b.0.1.1 (eqb-true _ _ g.0) in
        let whole : bytes ≡ enc b.0.0 b.0.1.0 =
        t.1 ∙ ap (λ (rest : List ℕ). enc b.0.0 b.0.1.0 ++ rest) nothing ∙ append-nil (enc b.0.0 b.0.1.0) in
        ((b.0.0, b.0.1.0, t.0, sym g.1 ∙ whole), g.1)

    again : (x : List ℕ) → IsOneElement x → one_element x ≡ Some x
    again x (tag, contents, h, is) =
        let found : front_of x ≡ Some (tag, (contents, [])) =
        ap front_of (is ∙ sym (append-nil (enc tag contents))) ∙ front_of-enc tag contents [] h in
        rw found refl

pub info-whole : IsWhole (λ i. info_text (info_made i)) (λ i. IsInfo (info_made i)) info_of
unfolding info_of
info-whole =
    alone-whole (sized-element-front 0x30 (is_tag 0x30 refl)
    (before-whole (element-front 0x06 (is_tag 0x06 refl) (λ v h. omega (arith, h.most)) oid-whole)
    (alone-whole (sized-element-front 0xA0 (is_tag 0xA0 refl) one_element-whole))))

signers-begin : (tag : ℕ) (o : Option (List ℕ)) (signers : List ℕ) → eqb 0xA1 tag ≡ false → eqb 0x31 tag ≡ false
    → begins_with tag (text_if (enc 0xA1) o ++ enc 0x31 signers) ≡ false
signers-begin tag None signers first second =
    rw (enc-begins 0x31 signers).1 second
signers-begin tag (Some crls) signers first second =
    rw (enc-begins 0xA1 crls).1 first

fields-whole : IsWhole (λ t. tail_text (tail_made t)) (λ t. IsTail (tail_made t)) tail_fields
unfolding tail_fields
fields-whole =
    maybe_before-whole 0xA0 (λ v h. enc-begins 0xA0 v) (λ w h. signers-begin 0xA0 w.0 w.1 refl refl)
    (raw-front 0xA0 (is_tag 0xA0 refl))
    (maybe_before-whole 0xA1 (λ v h. enc-begins 0xA1 v) (λ w h. rw (enc-begins 0x31 w).1 refl)
    (raw-front 0xA1 (is_tag 0xA1 refl)) (alone-whole (raw-front 0x31 (is_tag 0x31 refl))))

pub tail-whole : IsWhole tail_text IsTail tail_of
unfolding tail_of
tail-whole =
    mapped-whole tail_made (λ v h. (h, refl)) (λ w h. ((w.certificates, (w.crls, w.signer_infos)), h, refl))
    fields-whole

version-whole : IsWhole number_contents (λ n. (n < 2 ^ 128) × IsTrue (is_version n)) version_of
unfolding version_of
version-whole = tested-whole is_version number-whole

pub signed-whole : IsWhole (λ s. signed_text (signed_made s))
    (λ s. IsSigned (signed_made s) × HasRoom (signed_contents (signed_made s))) signed_of
unfolding signed_of
signed-whole =
    alone-whole (sized-element-front 0x30 (is_tag 0x30 refl)
    (before-whole (sized-element-front 0x02 (is_tag 0x02 refl) version-whole)
    (before-whole (raw-front 0x31 (is_tag 0x31 refl))
    (before-whole (raw-front 0x30 (is_tag 0x30 refl)) (kept-whole tail-whole)))))

pub encapsulated-whole : IsWhole (λ e. encapsulated_contents (encapsulated_made e)) (λ e. IsEncapsulated (encapsulated_made e))
    encapsulated_of
unfolding encapsulated_of
encapsulated-whole =
    before-whole (element-front 0x06 (is_tag 0x06 refl) (λ v h. omega (arith, h.most)) oid-whole)
    (optional-whole (λ v h. omega (arith, length-enc 0xA0 (enc 0x04 v)))
    (alone-whole (sized-element-front 0xA0 (is_tag 0xA0 refl) (alone-whole (raw-front 0x04 (is_tag 0x04 refl))))))

-- ---- what was read is the only value

-- of a value that was read
pub known : {V : Type 0} {text : V → List ℕ} {IsValid : V → Type 0} {read : Whole V} (laws : IsWhole text IsValid read)
    (bytes : List ℕ) (v w : V) → read bytes ≡ Some v → IsValid w → bytes ≡ text w → w ≡ v
known {V} {text} {IsValid} {read} laws bytes v w is valid e =
    some_is w v (sym (laws.again w valid) ∙ ap read (sym e) ∙ is)

pub unread : {V : Type 0} {text : V → List ℕ} {IsValid : V → Type 0} {read : Whole V} (laws : IsWhole text IsValid read)
    (bytes : List ℕ) (w : V) → read bytes ≡ None → IsValid w → bytes ≡ text w → ⊥
unread {V} {text} {IsValid} {read} laws bytes w is valid e =
    let wrong : ◌≡◌ {A = Option V} (Some w) None = sym (laws.again w valid) ∙ ap read (sym e) ∙ is in absurd cc

-- what is read of values
abbrev pub InfoRead : Type 0
InfoRead = List ℕ × List ℕ

abbrev pub SignedRead : Type 0
SignedRead = ℕ × (List ℕ × (List ℕ × List ℕ))

abbrev pub EncapsulatedRead : Type 0
EncapsulatedRead = List ℕ × Option (List ℕ)

abbrev pub info_parts : ContentInfo → InfoRead
info_parts i = (i.content_type, i.content)

abbrev pub signed_parts : SignedData → SignedRead
signed_parts s = (s.version, (s.digest_algorithms, (s.encapsulated, s.tail)))

abbrev pub encapsulated_parts : EncapsulatedContentInfo → EncapsulatedRead
encapsulated_parts e = (e.content_type, e.content)

-- what is known where the ContentInfo, the SignedData and encapContentInfo were read
pub record InfoIs (item : List ℕ) (i : InfoRead) : Type 0 where
  pub is : info_of item ≡ Some i
  pub valid : IsInfo (info_made i)
  pub text : item ≡ info_text (info_made i)

pub record SignedIs (item : List ℕ) (i : InfoRead) (s : SignedRead) : Type 0 where
  pub info : InfoIs item i
  pub is : signed_of i.1 ≡ Some s
  pub valid : IsSigned (signed_made s) × HasRoom (signed_contents (signed_made s))
  pub text : i.1 ≡ signed_text (signed_made s)

pub record EncapsulatedIs (item : List ℕ) (i : InfoRead) (s : SignedRead) (e : EncapsulatedRead) : Type 0 where
  pub signed : SignedIs item i s
  pub is : encapsulated_of s.1.1.0 ≡ Some e
  pub valid : IsEncapsulated (encapsulated_made e)
  pub text : s.1.1.0 ≡ encapsulated_contents (encapsulated_made e)

info_has : (item : List ℕ) (i : InfoRead) (P : ContentInfo → Type 0) → InfoIs item i → P (info_made i) → HasInfo item P
info_has item i P k p = (info_made i, k.valid, k.text, p)

pub info_at : (item : List ℕ) (i : InfoRead) (P : ContentInfo → Type 0) → InfoIs item i → HasInfo item P → P (info_made i)
info_at item i P k (j, valid, text, p) =
    subst (λ (x : InfoRead). P (info_made x)) (known info-whole item i (info_parts j) k.is valid text) p

signed_has : (item : List ℕ) (i : InfoRead) (s : SignedRead) (P : SignedData → Type 0) → SignedIs item i s
    → P (signed_made s) → HasSigned item P
signed_has item i s P k p = info_has item i _ k.info (signed_made s, k.valid, k.text, p)

signed_at : (item : List ℕ) (i : InfoRead) (s : SignedRead) (P : SignedData → Type 0) → SignedIs item i s
    → HasSigned item P → P (signed_made s)
signed_at item i s P k h =
    let g = info_at item i
    (λ i. (s : SignedData) × (IsSigned s × HasRoom (signed_contents s)) × (i.content ≡ signed_text s) × P s)
    k.info h in
    subst (λ (x : SignedRead). P (signed_made x)) (known signed-whole i.1 s (signed_parts g.0) k.is g.1 g.2) g.3

encapsulated_has : (item : List ℕ) (i : InfoRead) (s : SignedRead) (e : EncapsulatedRead)
    (P : SignedData → EncapsulatedContentInfo → Type 0) → EncapsulatedIs item i s e
    → P (signed_made s) (encapsulated_made e) → HasEncapsulated item P
encapsulated_has item i s e P k p = signed_has item i s _ k.signed (encapsulated_made e, k.valid, k.text, p)

pub encapsulated_at : (item : List ℕ) (i : InfoRead) (s : SignedRead) (e : EncapsulatedRead)
    (P : SignedData → EncapsulatedContentInfo → Type 0) → EncapsulatedIs item i s e → HasEncapsulated item P
    → P (signed_made s) (encapsulated_made e)
encapsulated_at item i s e P k h =
    let g = signed_at item i s (λ s. (e : EncapsulatedContentInfo) × IsEncapsulated e
    × (s.encapsulated ≡ encapsulated_contents e) × P s e) k.signed h in
    subst (λ (x : EncapsulatedRead). P (signed_made s) (encapsulated_made x))
    (known encapsulated-whole s.1.1.0 e (encapsulated_parts g.0) k.is g.1 g.2) g.3

-- ---- the conditions

abbrev pub IsDecided : List ℕ → List ℕ → Result (List ℕ × List ℕ) ℕ → Type 0
IsDecided kind item r = MatchResult r
    (λ x. AllHold (outer_conditions kind item) × IsOuter item x.0 x.1) (λ n. FirstFail (outer_conditions kind item) n)

same_octets : (xs ys : List ℕ) → bytes_eq xs ys ≡ true → xs ≡ ys
same_octets xs ys e = (bytes_eq-Decides xs ys).0 e

other_octets : (xs ys : List ℕ) → bytes_eq xs ys ≡ false → xs ≡ ys → ⊥
other_octets xs ys isnt is = let wrong : true ≡ false = sym ((bytes_eq-Decides xs ys).1 is) ∙ isnt in absurd cc

not_true : (b : Bool) → not b ≡ true → b ≡ false
not_true true e = absurd cc
not_true false e = refl

not_false : (b : Bool) → not b ≡ false → b ≡ true
not_false true e = refl
not_false false e = absurd cc

-- the conditions from 7 on
record Held (kind item : List ℕ) (i : InfoRead) (s : SignedRead) (e : EncapsulatedRead) : Type 0 where
  k : EncapsulatedIs item i s e
  four : i.0 ≡ signed_data

inner_law : (kind item : List ℕ) (i : InfoRead) (s : SignedRead) (e : EncapsulatedRead) → Held kind item i s e
    → IsDecided kind item (inner kind e s.1.1.1)
unfolding or_fails unless
inner_law kind item i s e h = seven (not (bytes_eq e.0 encrypted_data)) refl
  where
    three : HasInfo item (λ i. Unit {0})
    three = info_has item i _ h.k.signed.info tt

    four : HasInfo item (λ i. i.content_type ≡ signed_data)
    four = info_has item i _ h.k.signed.info h.four

    five : HasSigned item (λ s. Unit {0})
    five = signed_has item i s _ h.k.signed tt

    six : HasEncapsulated item (λ s e. Unit {0})
    six = encapsulated_has item i s e _ h.k tt

    after_six : (n : ℕ) → FirstFail (drop 4 (outer_conditions kind item)) n → FirstFail (outer_conditions kind item) n
    after_six n f = inr (three, inr (four, inr (five, inr (six, f))))

    eleven : (content : List ℕ) → e.1 ≡ Some content → (e.0 ≡ encrypted_data → ⊥) → (e.0 ≡ compressed_data → ⊥) → e.0 ≡ kind
        → (b : Bool) → leb (length s.1.1.1) 1048576 ≡ b
        → IsDecided kind item (cond b (Ok (content, s.1.1.1)) (Err 11))
    eleven content is not-7 not-8 nine true e' = (
      (
        three,
        (
          four,
          (
            five,
            (
              six,
              (
                encapsulated_has item i s e _ h.k not-7,
                (
                  encapsulated_has item i s e _ h.k not-8,
                  (
                    encapsulated_has item i s e _ h.k nine,
                    (
                      encapsulated_has item i s e _ h.k (subst IsSome (sym is) refl),
                      (encapsulated_has item i s e _ h.k (leb-true _ _ e'), tt),
                    ),
                  ),
                ),
              ),
            ),
          ),
        ),
      ),
      encapsulated_has item i s e _ h.k (is, refl),
    )
    eleven content is not-7 not-8 nine false e' =
        after_six 11 (inr (
          encapsulated_has item i s e _ h.k not-7,
          inr (
            encapsulated_has item i s e _ h.k not-8,
            inr (
              encapsulated_has item i s e _ h.k nine,
              inr (
                encapsulated_has item i s e _ h.k (subst IsSome (sym is) refl),
                inl (
                  refl,
                  λ has. (let le : length s.1.1.1 ≤ 1048576 =
                      encapsulated_at item i s e (λ s e. length s.tail ≤ 1048576) h.k has in
                      let wrong : true ≡ false = sym (le-leb _ _ le) ∙ e' in absurd cc),
                ),
              ),
            ),
          ),
        ))

    ten : (o : Option (List ℕ)) → e.1 ≡ o → (e.0 ≡ encrypted_data → ⊥) → (e.0 ≡ compressed_data → ⊥) → e.0 ≡ kind
        → IsDecided kind item (or_fails 10 o (λ content.
        unless 11 (leb (length s.1.1.1) 1048576) (Ok (content, s.1.1.1))))
    ten (Some content) is not-7 not-8 nine = eleven content is not-7 not-8 nine (leb (length s.1.1.1) 1048576) refl
    ten None is not-7 not-8 nine =
        after_six 10 (inr (
          encapsulated_has item i s e _ h.k not-7,
          inr (
            encapsulated_has item i s e _ h.k not-8,
            inr (
              encapsulated_has item i s e _ h.k nine,
              inl (
                refl,
                λ has. (let some : IsSome e.1 = encapsulated_at item i s e (λ s e. IsSome e.content) h.k has in
                    (let wrong : IsSome {T = List ℕ} None = subst IsSome is some in absurd cc)),
              ),
            ),
          ),
        ))

    nine : (b : Bool) → bytes_eq e.0 kind ≡ b → (e.0 ≡ encrypted_data → ⊥) → (e.0 ≡ compressed_data → ⊥)
        → IsDecided kind item (cond b (or_fails 10 e.1 (λ content.
        unless 11 (leb (length s.1.1.1) 1048576) (Ok (content, s.1.1.1)))) (Err 9))
    nine true e' not-7 not-8 = ten e.1 refl not-7 not-8 (same_octets e.0 kind e')
    nine false e' not-7 not-8 =
        after_six 9 (inr (
          encapsulated_has item i s e _ h.k not-7,
          inr (
            encapsulated_has item i s e _ h.k not-8,
            inl (refl, λ has. other_octets e.0 kind e' (encapsulated_at item i s e (λ s e. e.content_type ≡ kind) h.k has)),
          ),
        ))

    eight : (b : Bool) → not (bytes_eq e.0 compressed_data) ≡ b → (e.0 ≡ encrypted_data → ⊥)
        → IsDecided kind item (cond b (unless 9 (bytes_eq e.0 kind) (or_fails 10 e.1 (λ content.
        unless 11 (leb (length s.1.1.1) 1048576) (Ok (content, s.1.1.1))))) (Err 8))
    eight true e' not-7 =
        nine (bytes_eq e.0 kind) refl not-7 (other_octets e.0 compressed_data (not_true _ e'))
    eight false e' not-7 =
        after_six 8 (inr (
          encapsulated_has item i s e _ h.k not-7,
          inl (
            refl,
            λ has. encapsulated_at item i s e (λ s e. e.content_type ≡ compressed_data → ⊥) h.k has
                (same_octets e.0 compressed_data (not_false _ e')),
          ),
        ))

    seven : (b : Bool) → not (bytes_eq e.0 encrypted_data) ≡ b
        → IsDecided kind item (cond b (unless 8 (not (bytes_eq e.0 compressed_data)) (unless 9 (bytes_eq e.0 kind)
        (or_fails 10 e.1 (λ content. unless 11 (leb (length s.1.1.1) 1048576) (Ok (content, s.1.1.1)))))) (Err 7))
    seven true e' = eight (not (bytes_eq e.0 compressed_data)) refl (other_octets e.0 encrypted_data (not_true _ e'))
    seven false e' =
        after_six 7 (inl (
          refl,
          λ has. encapsulated_at item i s e (λ s e. e.content_type ≡ encrypted_data → ⊥) h.k has
              (same_octets e.0 encrypted_data (not_false _ e')),
        ))

in_element : (tag : ℕ) (contents : List ℕ) → AreOctets (enc tag contents) → AreOctets contents
unfolding enc
in_element tag contents octets = AreOctets-right (tag ∷ length_octets (length contents)) contents octets

in_info : (item : List ℕ) (i : InfoRead) → AreOctets item → item ≡ info_text (info_made i) → AreOctets i.1
in_info item i octets text =
    in_element 0xA0 i.1 (AreOctets-right (enc 0x06 i.0) (enc 0xA0 i.1)
    (in_element 0x30 (info_contents (info_made i)) (subst AreOctets text octets)))

in_signed : (octets : List ℕ) (s : SignedRead) → AreOctets octets → octets ≡ signed_text (signed_made s) → AreOctets s.1.1.0
in_signed octets s are text =
    in_element 0x30 s.1.1.0 (AreOctets-left (enc 0x30 s.1.1.0) s.1.1.1
    (AreOctets-right (enc 0x31 s.1.0) (enc 0x30 s.1.1.0 ++ s.1.1.1)
    (AreOctets-right (enc 0x02 (number_contents s.0)) (enc 0x31 s.1.0 ++ (enc 0x30 s.1.1.0 ++ s.1.1.1))
    (in_element 0x30 (signed_contents (signed_made s)) (subst AreOctets text are)))))

pub outer_law : (kind item : List ℕ) → AreOctets item → IsDecided kind item (outer_of kind item)
unfolding outer_of or_fails unless
outer_law kind item octets = three (info_of item) refl
  where
    six : (i : InfoRead) (s : SignedRead) → SignedIs item i s → i.0 ≡ signed_data → AreOctets s.1.1.0
        → (o : Option EncapsulatedRead) → encapsulated_of s.1.1.0 ≡ o
        → IsDecided kind item (or_fails 6 o (λ e. inner kind e s.1.1.1))
    six i s k four in-s None is =
        inr (
          info_has item i _ k.info tt,
          inr (
            info_has item i _ k.info four,
            inr (
              signed_has item i s _ k tt,
              inl (
                refl,
                λ has. (let g = signed_at item i s (λ s. (e : EncapsulatedContentInfo) × IsEncapsulated e
                    × (s.encapsulated ≡ encapsulated_contents e) × Unit {0}) k has in
                    unread encapsulated-whole s.1.1.0 (encapsulated_parts g.0) is g.1 g.2),
              ),
            ),
          ),
        )
    six i s k four in-s (Some e) is =
        let t = encapsulated-whole.takes s.1.1.0 e in-s is in
        inner_law kind item i s e (record {
          k = record { signed = k; is = is; valid = t.0; text = t.1 };
          four = four;
        })

    five : (i : InfoRead) → InfoIs item i → i.0 ≡ signed_data → AreOctets i.1
        → (o : Option SignedRead) → signed_of i.1 ≡ o
        → IsDecided kind item (or_fails 5 o (λ s. or_fails 6 (encapsulated_of s.1.1.0) (λ e. inner kind e s.1.1.1)))
    five i k four in-i None is =
        inr (
          info_has item i _ k tt,
          inr (
            info_has item i _ k four,
            inl (
              refl,
              λ has. (let g = info_at item i
                  (λ i. (s : SignedData) × (IsSigned s × HasRoom (signed_contents s)) × (i.content ≡ signed_text s) × Unit {0}) k has in
                  unread signed-whole i.1 (signed_parts g.0) is g.1 g.2),
            ),
          ),
        )
    five i k four in-i (Some s) is =
        let t = signed-whole.takes i.1 s in-i is in
        six i s (record { info = k; is = is; valid = t.0; text = t.1 }) four (in_signed i.1 s in-i t.1)
        (encapsulated_of s.1.1.0) refl

    four : (i : InfoRead) → InfoIs item i → (b : Bool) → bytes_eq i.0 signed_data ≡ b
        → IsDecided kind item (cond b (or_fails 5 (signed_of i.1) (λ s.
        or_fails 6 (encapsulated_of s.1.1.0) (λ e. inner kind e s.1.1.1))) (Err 4))
    four i k true is = five i k (same_octets i.0 signed_data is) (in_info item i octets k.text) (signed_of i.1) refl
    four i k false is =
        inr (
          info_has item i _ k tt,
          inl (
            refl,
            λ has. other_octets i.0 signed_data is
                (info_at item i (λ i. i.content_type ≡ signed_data) k has),
          ),
        )

    three : (o : Option InfoRead) → info_of item ≡ o
        → IsDecided kind item (or_fails 3 o (λ i. unless 4 (bytes_eq i.0 signed_data)
        (or_fails 5 (signed_of i.1) (λ s. or_fails 6 (encapsulated_of s.1.1.0) (λ e. inner kind e s.1.1.1)))))
    three None is = inl (refl, λ has. unread info-whole item (info_parts has.0) is has.1 has.2)
    three (Some i) is =
        let t = info-whole.takes item i octets is in
        four i (record { is = is; valid = t.0; text = t.1 }) (bytes_eq i.0 signed_data) refl

-- ---- what follows

-- what an item's content and tail are found in
pub outer_is : (item content tail : List ℕ) (o : IsOuter item content tail) → EncapsulatedIs item (info_parts o.0) (signed_parts o.3.0) (encapsulated_parts o.3.3.0)
outer_is item content tail (i, valid-i, text-i, (s, valid-s, text-s, (e, valid-e, text-e, found))) = record {
  signed = record {
    info = record { is = ap info_of text-i ∙ info-whole.again (info_parts i) valid-i; valid = valid-i; text = text-i };
    is = ap signed_of text-s ∙ signed-whole.again (signed_parts s) valid-s;
    valid = valid-s;
    text = text-s;
  };
  is = ap encapsulated_of text-e ∙ encapsulated-whole.again (encapsulated_parts e) valid-e;
  valid = valid-e;
  text = text-e;
}

tail_to : (item content tail : List ℕ) (P : List ℕ → Type 0) → IsOuter item content tail → P tail
    → HasEncapsulated item (λ s e. P s.tail)
tail_to item content tail P o p =
    encapsulated_has item (info_parts o.0) (signed_parts o.3.0) (encapsulated_parts o.3.3.0) (λ s e. P s.tail) (outer_is item content tail o)
    (subst P (sym o.3.3.3.1) p)

pub tail_from : (item content tail : List ℕ) (P : List ℕ → Type 0) → IsOuter item content tail
    → HasEncapsulated item (λ s e. P s.tail) → P tail
tail_from item content tail P o h =
    subst P o.3.3.3.1
    (encapsulated_at item (info_parts o.0) (signed_parts o.3.0) (encapsulated_parts o.3.3.0) (λ s e. P s.tail) (outer_is item content tail o) h)

pub tail_all : (conditions : List TailAsked) (item content tail : List ℕ) → IsOuter item content tail
    → AllHold (on_tail conditions tail) → AllHold (in_item conditions item)
tail_all [] item content tail o h = tt
tail_all (c ∷ more) item content tail o h =
    (tail_to item content tail c.holds o h.0, tail_all more item content tail o h.1)

pub tail_fails : (conditions : List TailAsked) (item content tail : List ℕ) (number : ℕ) → IsOuter item content tail
    → FirstFail (on_tail conditions tail) number → FirstFail (in_item conditions item) number
tail_fails [] item content tail number o f = absurd f
tail_fails (c ∷ more) item content tail number o (inl f) =
    inl (f.0, λ h. f.1 (tail_from item content tail c.holds o h))
tail_fails (c ∷ more) item content tail number o (inr f) =
    inr (tail_to item content tail c.holds o f.0, tail_fails more item content tail number o f.1)
