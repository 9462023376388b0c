-- Anchors of records are read exactly: their parts by shapes, and what has constraints and a key by its parts.
use Rattle.std.proofs.Common.{◌≡◌, ◌↔◌, ℕ, ◌<◌, ◌≤◌, leb, List, [], ◌∷◌, ◌++◌, length, map, Option, Some, None, refl, sym, ap}
use Rattle.std.proofs.Common.{subst, ◌∙◌, arith}
use Rattle.std.specs.Prelude.{IfSome, IfOk, Result, Ok, Err, option_map}
use Rattle.std.specs.List.{AllByRecursion, flat_map}
use Rattle.std.proofs.lemmas.Bool.{leb-true, le-leb}
use Rattle.std.proofs.lemmas.Option.{none-some}
use Rattle.der_core.specs.Element.{enc, IsTagged, HasRoom}
use Rattle.der_core.specs.Shapes.{IsFront, IsWhole, element, listed, text_if}
use Rattle.der_core.proofs.Components.{whole_element-front}
use Rattle.der_core.proofs.Shapes.{is_tag, element-front, sized-element-front, same-front, alone-whole, before-whole}
use Rattle.der_core.proofs.Shapes.{mapped-whole, optional-whole, tested-whole, anything-whole, octets-whole}
use Rattle.der_core.proofs.Shapes.{element-falls, listed-whole}
use Rattle.cert_fields.specs.Anchor.{TrustAnchor, HasParts}
use Rattle.cert_fields.specs.Constraints.{ContentConstraint, constraints_text}
use Rattle.cert_fields.proofs.AnchorLaws.{same_parts}
use Rattle.module_record.specs.ModuleRecord.{IsKeyText, IsKeptAnchor, tagged_constraints, anchor_contents, anchor_text}
use Rattle.module_record.specs.ModuleReading.{AnchorParts, short, constraints_in, anchor_of, anchor_at}
use Rattle.module_record.specs.ModuleReading.{IsMadeOf, AreMade, AreMadeOf}
use Rattle.module_record.proofs.KeyLaws.{sized-front}
use Rattle.module_record.proofs.ListLemmas.{Falls, behind, goes_on}
use Rattle.der_core.proofs.Numbers.{some_is}
use Rattle.std.proofs.Common.{append_assoc}

-- ---- parts

abbrev pub parts_contents : AnchorParts → List ℕ
parts_contents p = p.subject ++ (enc 0x04 p.key_id ++ (enc 0x04 p.key ++ text_if (enc 0xA0) p.constraints))

abbrev pub parts_text : AnchorParts → List ℕ
parts_text p = enc 0x30 (parts_contents p)

pub record ArePartsInside (p : AnchorParts) : Type 0 where
  pub subject : IsTagged 0x30 p.subject
  pub key_id : (0 < length p.key_id) × (length p.key_id ≤ 64)
  pub key : length p.key ≡ 60
  pub constraints : IfSome p.constraints (λ octets. length octets ≤ 2048)

abbrev pub AreParts : AnchorParts → Type 0
AreParts p = ArePartsInside p × HasRoom (parts_contents p)

constraints-front : IsFront (λ (octets : List ℕ). enc 0xA0 octets) (λ octets. length octets ≤ 2048)
    (element 0xA0 (short 2048))
constraints-front =
    same-front (λ octets h. (leb-true (length octets) 2048 h.1, refl))
    (λ octets h. (tt, le-leb (length octets) 2048 h))
    (element-front 0xA0 (is_tag 0xA0 refl) (λ octets h. omega (arith, leb-true (length octets) 2048 h.1))
    (tested-whole (λ octets. leb (length octets) 2048) anything-whole))

constraints-whole : IsWhole (λ (octets : List ℕ). enc 0xA0 octets) (λ octets. length octets ≤ 2048) constraints_in
unfolding constraints_in
constraints-whole = alone-whole constraints-front

tagged_some : (octets : List ℕ) → 0 < length (enc 0xA0 octets)
unfolding enc
tagged_some octets = omega arith

inside-whole : IsWhole parts_contents ArePartsInside anchor_of
unfolding anchor_of
inside-whole =
    mapped-whole
    (λ x. record { subject = x.0; key_id = x.1.0; key = x.1.1.0; constraints = x.1.1.1 })
    (λ x h. (record { subject = h.0; key_id = h.1.0; key = h.1.1.0; constraints = h.1.1.1 }, refl))
    (λ p h. ((p.subject, (p.key_id, (p.key, p.constraints))), (h.subject, (h.key_id, (h.key, h.constraints))), refl))
    (before-whole (whole_element-front 0x30)
    (before-whole (element-front 4 (is_tag 4 refl) (λ octets h. omega (arith, h.1)) octets-whole)
    (before-whole (sized-front 60 (omega arith))
    (optional-whole (λ octets h. tagged_some octets) constraints-whole))))

pub anchor-front : IsFront parts_text AreParts anchor_at
unfolding anchor_at
anchor-front = sized-element-front 48 (is_tag 48 refl) inside-whole

pub anchor_falls : Falls anchor_at
unfolding anchor_at
anchor_falls bytes x e = element-falls 48 anchor_of bytes x e

parts_some : (p : AnchorParts) → AreParts p → 0 < length (parts_text p)
unfolding enc
parts_some p h = omega arith

pub anchors-whole : IsWhole (flat_map parts_text) (AllByRecursion AreParts) (listed anchor_at)
anchors-whole = listed-whole parts_some anchor_falls anchor-front

-- ---- an anchor and its parts

pub parts_of : TrustAnchor → AnchorParts
parts_of a = record {
  subject = a.subject;
  key_id = a.key_id;
  key = a.key;
  constraints = option_map constraints_text a.constraints;
}

-- constraints in [0] are their text in it
pub tagged_text : (c : Option (List ContentConstraint))
    → text_if tagged_constraints c ≡ text_if (enc 0xA0) (option_map constraints_text c)
tagged_text None = refl
tagged_text (Some entries) = refl

parts_contents_of : (a : TrustAnchor) → parts_contents (parts_of a) ≡ anchor_contents a
unfolding parts_of
parts_contents_of a =
    ap (λ (last : List ℕ). a.subject ++ (enc 0x04 a.key_id ++ (enc 0x04 a.key ++ last))) (sym (tagged_text a.constraints))

pub parts_text_of : (a : TrustAnchor) → parts_text (parts_of a) ≡ anchor_text a
parts_text_of a = ap (enc 0x30) (parts_contents_of a)

-- an anchor has one list of parts
parts_are : (a : TrustAnchor) (p : AnchorParts) → IsMadeOf a p → p ≡ parts_of a
unfolding parts_of
parts_are a p h = λ i. record {
  subject = sym h.0.subject i;
  key_id = sym h.0.key_id i;
  key = sym h.0.key i;
  constraints = sym h.0.constraints i;
}

pub one_made : (a b : TrustAnchor) (p : AnchorParts) → IsMadeOf a p → IsMadeOf b p → a ≡ b
one_made a b p h k = same_parts a b p.subject p.key_id p.key p.constraints h.0 k.0

short_told : (c : Option (List ContentConstraint)) (text : Option (List ℕ)) → option_map constraints_text c ≡ text
    → IfSome text (λ octets. length octets ≤ 2048) → IfSome c (λ entries. length (constraints_text entries) ≤ 2048)
short_told None text is h = tt
short_told (Some entries) text is h =
    let P : Option (List ℕ) → Type 0 = λ t. IfSome t (λ octets. length octets ≤ 2048) in subst P (sym is) h

told_short : (c : Option (List ContentConstraint)) → IfSome c (λ entries. length (constraints_text entries) ≤ 2048)
    → IfSome (option_map constraints_text c) (λ octets. length octets ≤ 2048)
told_short None h = tt
told_short (Some entries) h = h

-- what is made of parts that are read is an anchor that a record keeps
kept_made : (a : TrustAnchor) (p : AnchorParts) → AreParts p → IsMadeOf a p → IsKeptAnchor a
kept_made a p are h = record {
  anchor = h.0.anchor;
  key = subst IsKeyText (sym h.0.key) h.1;
  constraints = short_told a.constraints p.constraints h.0.constraints are.0.constraints;
}

-- and an anchor that a record keeps is made of parts that are read
pub made_kept : (a : TrustAnchor) → IsKeptAnchor a → HasRoom (anchor_contents a)
    → AreParts (parts_of a) × IsMadeOf a (parts_of a)
unfolding parts_of
made_kept a kept room = (
  (
    record {
      subject = kept.anchor.subject;
      key_id = (kept.anchor.key_id.some, kept.anchor.key_id.most);
      key = kept.anchor.key;
      constraints = told_short a.constraints kept.constraints;
    },
    subst HasRoom (sym (parts_contents_of a)) room,
  ),
  (
    record {
      anchor = kept.anchor;
      subject = refl;
      key_id = refl;
      key = refl;
      constraints = refl;
    },
    kept.key,
  ),
)

-- ---- anchors and their parts

pub kept_all : (these : List TrustAnchor) (ps : List AnchorParts) → AllByRecursion AreParts ps → AreMade these ps
    → AllByRecursion IsKeptAnchor these × (flat_map anchor_text these ≡ flat_map parts_text ps)
kept_all [] [] are made = (tt, refl)
kept_all [] (p ∷ ps) are made = absurd made
kept_all (a ∷ these) [] are made = absurd made
kept_all (a ∷ these) (p ∷ ps) are made =
    let more = kept_all these ps are.1 made.1 in
    let text : anchor_text a ≡ parts_text p = sym (ap parts_text (parts_are a p made.0) ∙ parts_text_of a) in (
      (kept_made a p are.0 made.0, more.0),
      ap (λ (t : List ℕ). t ++ flat_map anchor_text these) text ∙ ap (λ (t : List ℕ). parts_text p ++ t) more.1,
    )

pub made_all : (these : List TrustAnchor) → AllByRecursion IsKeptAnchor these
    → AllByRecursion (λ a. HasRoom (anchor_contents a)) these
    → AllByRecursion AreParts (map parts_of these) × AreMade these (map parts_of these)
    × (flat_map parts_text (map parts_of these) ≡ flat_map anchor_text these)
made_all [] kept room = (tt, tt, refl)
made_all (a ∷ these) kept room =
    let one = made_kept a kept.0 room.0 in
    let more = made_all these kept.1 room.1 in (
      (one.0, more.0),
      (one.1, more.1),
      ap (λ (t : List ℕ). t ++ flat_map parts_text (map parts_of these)) (parts_text_of a)
          ∙ ap (λ (t : List ℕ). anchor_text a ++ t) more.2,
    )

pub one_list : (these those : List TrustAnchor) (ps : List AnchorParts) → AreMade these ps → AreMade those ps → these ≡ those
one_list [] [] ps made others = refl
one_list [] (b ∷ those) [] made others = absurd others
one_list [] (b ∷ those) (p ∷ ps) made others = absurd made
one_list (a ∷ these) [] [] made others = absurd made
one_list (a ∷ these) [] (p ∷ ps) made others = absurd others
one_list (a ∷ these) (b ∷ those) [] made others = absurd made
one_list (a ∷ these) (b ∷ those) (p ∷ ps) made others =
    ap (λ (x : TrustAnchor). x ∷ these) (one_made a b p made.0 others.0)
    ∙ ap (λ (xs : List TrustAnchor). b ∷ xs) (one_list these those ps made.1 others.1)

pub one_list_of : (these those : List TrustAnchor) (read : Option (List AnchorParts)) → AreMadeOf these read
    → AreMadeOf those read → these ≡ those
one_list_of these those None made others = absurd made
one_list_of these those (Some ps) made others = one_list these those ps made others

-- ---- in a loop

pub none_made : AreMade [] []
none_made = tt

-- one more
pub one_more : (these : List TrustAnchor) (ps : List AnchorParts) (a : TrustAnchor) (p : AnchorParts) → AreMade these ps
    → IsMadeOf a p → AreMade (these ++ a ∷ []) (ps ++ p ∷ [])
one_more [] [] a p made one = (one, tt)
one_more [] (q ∷ ps) a p made one = absurd made
one_more (b ∷ these) [] a p made one = absurd made
one_more (b ∷ these) (q ∷ ps) a p made one = (made.0, one_more these ps a p made.1 one)

-- of parts with others behind them of which no anchor is made, no anchors are made
pub none_after : (done more : List AnchorParts) (p : AnchorParts) → ((a : TrustAnchor) → IsMadeOf a p → ⊥)
    → (these : List TrustAnchor) → AreMade these (done ++ p ∷ more) → ⊥
none_after [] more p none [] made = made
none_after [] more p none (a ∷ these) made = none a made.0
none_after (q ∷ done) more p none [] made = made
none_after (q ∷ done) more p none (a ∷ these) made = none_after done more p none these made.1

-- what an anchor is made of, in other words
pub made_of : {E : Type 0} (result : Result (Option TrustAnchor) E) (name id key subject : List ℕ)
    (text constraints : Option (List ℕ)) → name ≡ subject → text ≡ constraints → IsKeyText key
    → IfOk result (λ answer. (a : TrustAnchor) → (answer ≡ Some a) ↔ HasParts a name id key text)
    → IfOk result (λ answer. (a : TrustAnchor) → (answer ≡ Some a)
    ↔ IsMadeOf a (record { subject = subject; key_id = id; key = key; constraints = constraints }))
made_of (Ok answer) name id key subject text constraints name_is text_is is_key made = λ a. (
  λ e. (
    subst (λ (n : List ℕ). HasParts a n id key constraints) name_is
        (subst (λ (t : Option (List ℕ)). HasParts a name id key t) text_is ((made a).0 e)),
    is_key,
  ),
  λ h. (made a).1
      (subst (λ (n : List ℕ). HasParts a n id key text) (sym name_is)
      (subst (λ (t : Option (List ℕ)). HasParts a subject id key t) (sym text_is) h.0)),
)
made_of (Err e) name id key subject text constraints name_is text_is is_key made = tt

-- no anchor is made of octets that are no key
pub no_key : (p : AnchorParts) → (IsKeyText p.key → ⊥) → (a : TrustAnchor) → IsMadeOf a p → ⊥
no_key p none a h = none h.1

-- the answers of the loop: nothing, where a part can't be read
pub not_read : (done : List TrustAnchor) (octets : List ℕ) → listed anchor_at octets ≡ None → (list : List TrustAnchor)
    → ◌≡◌ {A = Option (List TrustAnchor)} None (Some list) ↔ AreMadeOf list (listed anchor_at octets)
not_read done octets isnt list =
    (λ wrong. absurd (none-some list wrong), λ made. absurd (subst (AreMadeOf list) isnt made))

-- or where no anchor is made of one
pub not_made : (octets : List ℕ) (done : List AnchorParts) (left rest : List ℕ) (p : AnchorParts)
    (answer : Option TrustAnchor) → answer ≡ None → ((a : TrustAnchor) → (answer ≡ Some a) ↔ IsMadeOf a p)
    → anchor_at left ≡ Some (p, rest) → listed anchor_at octets ≡ behind done (listed anchor_at left)
    → (list : List TrustAnchor)
    → ◌≡◌ {A = Option (List TrustAnchor)} None (Some list) ↔ AreMadeOf list (listed anchor_at octets)
not_made octets done left rest p answer none made is so_far list =
    (λ wrong. absurd (none-some list wrong), λ h. absurd (by (listed anchor_at rest) (subst (AreMadeOf list) all h)))
  where
    all : listed anchor_at octets ≡ behind (done ++ p ∷ []) (listed anchor_at rest)
    all = goes_on anchor_at (listed anchor_at octets) done left rest p anchor_falls is so_far

    by : (more : Option (List AnchorParts)) → AreMadeOf list (behind (done ++ p ∷ []) more) → ⊥
    by None h = h
    by (Some ps) h =
        none_after done ps p (λ a of_p. none-some a (sym none ∙ (made a).1 of_p)) list
        (subst (AreMade list) (append_assoc done (p ∷ []) ps) h)

-- and those that were made, where all is read
pub all_made : (octets : List ℕ) (anchors : List TrustAnchor) (done : List AnchorParts) → AreMade anchors done
    → listed anchor_at octets ≡ Some done → (answer : List TrustAnchor) → answer ≡ anchors → (list : List TrustAnchor)
    → (Some answer ≡ Some list) ↔ AreMadeOf list (listed anchor_at octets)
all_made octets anchors done made is answer same list = (
  λ e. subst (AreMadeOf list) (sym is) (subst (λ (l : List TrustAnchor). AreMade l done)
      (sym same ∙ some_is answer list e) made),
  λ h. ap (λ (l : List TrustAnchor). Some l)
      (same ∙ one_list anchors list done made (subst (AreMadeOf list) is h)),
)
