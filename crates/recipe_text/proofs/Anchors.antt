-- The words of an anchor are read exactly.
use Rattle.std.proofs.Common.{◌≡◌, ℕ, suc, ◌<◌, ◌≤◌, List, [], ◌∷◌, ◌++◌, length, Option, Some, None, refl, sym, ◌∙◌, ap}
use Rattle.std.proofs.Common.{subst, arith, codes}
use Rattle.std.specs.Prelude.{◌↔◌, EachIndex, slice_index, IfSome, option_map}
use Rattle.std.proofs.lemmas.Option.{none-some}
use Rattle.cert_fields.specs.Anchor.{TrustAnchor, HasParts}
use Rattle.cert_fields.specs.Constraints.{ContentConstraint, AreConstraints, constraints_text}
use Rattle.der_core.specs.Element.{IsTagged}
use Rattle.der_core.proofs.Numbers.{some_bind, some_is}
use Rattle.module_record.specs.ModuleRecord.{IsKeyText}
use Rattle.recipe_text.specs.Lines.{IsHex, spaced}
use Rattle.recipe_text.specs.ModuleReading.{AnchorWords, IsShortHex, words_of}
use Rattle.recipe_text.specs.ModuleRecipe.{IsAnchorKey, IsAnchorConstraints, IsAnchorText}
use Rattle.recipe_text.specs.Reading.{cut, decoded}
use Rattle.recipe_text.specs.Words.{Exactly, IsHex64, IsNameWord}
use Rattle.recipe_text.proofs.Cuts.{Without, cut_takes, cut_again}
use Rattle.recipe_text.proofs.KeyLines.{hex_only, decoded-some, decoded-hex}
use Rattle.recipe_text.proofs.Sizes.{hex_size, name_contents_size}
use Rattle.recipe_text.proofs.WordLemmas.{nothing, just, said, same_said, unsaid, key_size, hex64_without}

-- ---- KEY

pub key_text_size : (octets : List ℕ) → IsKeyText octets → length octets ≡ 60
key_text_size octets h = ap length h.2 ∙ key_size h.0 h.1

key_decoded : (word v : List ℕ) → IsAnchorKey word v → decoded 60 word ≡ Some v
key_decoded word v h = decoded-hex 60 word v h.hex (key_text_size v h.text)

pub anchor_key_none : (word : List ℕ) → decoded 60 word ≡ None → Exactly (IsAnchorKey word) None
anchor_key_none word none = nothing (IsAnchorKey word) (λ v h. none-some v (sym none ∙ key_decoded word v h))

module _ (word octets : List ℕ) (is : decoded 60 word ≡ Some octets) where
  key_same : (v : List ℕ) → IsAnchorKey word v → v ≡ octets
  key_same v h = some_is v octets (sym (key_decoded word v h) ∙ is)

  pub anchor_key_bad : (IsKeyText octets → ⊥) → Exactly (IsAnchorKey word) None
  anchor_key_bad free = nothing (IsAnchorKey word) (λ v h. free (subst IsKeyText (key_same v h) h.text))

  pub anchor_key_some : IsKeyText octets → Exactly (IsAnchorKey word) (Some octets)
  anchor_key_some key =
      just (IsAnchorKey word) octets
      (record { hex = (decoded-some 60 word octets (omega arith) is).0; text = key }) key_same

-- ---- CCC

pub dash_is_no_hex : (word octets : List ℕ) → word ≡ codes "-" → IsHex word octets → ⊥
dash_is_no_hex word octets is hex = omega (arith, hex_size word octets hex, ap length is)

pub dash_read : (word : List ℕ) → word ≡ codes "-" → Exactly (IsShortHex word) (Some None)
dash_read word is = just (IsShortHex word) None is only
  where
    only : (v : Option (List ℕ)) → IsShortHex word v → v ≡ None
    only None h = refl
    only (Some octets) h = absurd (dash_is_no_hex word octets is h.0)

module _ (word : List ℕ) (other : word ≡ codes "-" → ⊥) where
  pub short_unread : Exactly (IsHex word) None → Exactly (IsShortHex word) None
  short_unread exact = nothing (IsShortHex word) free
    where
      free : (v : Option (List ℕ)) → IsShortHex word v → ⊥
      free None h = other h
      free (Some octets) h = unsaid (IsHex word) octets exact h.0

  module _ (octets : List ℕ) (exact : Exactly (IsHex word) (Some octets)) where
    pub short_long : 2048 < length octets → Exactly (IsShortHex word) None
    short_long long = nothing (IsShortHex word) free
      where
        free : (v : Option (List ℕ)) → IsShortHex word v → ⊥
        free None h = other h
        free (Some some) h = omega (arith, long, h.1, ap length (same_said (IsHex word) octets some exact h.0))

    pub short_read : length octets ≤ 2048 → Exactly (IsShortHex word) (Some (Some octets))
    short_read few = just (IsShortHex word) (Some octets) (said (IsHex word) octets exact, few) only
      where
        only : (v : Option (List ℕ)) → IsShortHex word v → v ≡ Some octets
        only None h = absurd (other h)
        only (Some some) h = ap (λ (o : List ℕ). Some o) (same_said (IsHex word) octets some exact h.0)

-- ---- the four words

pub name_without : (word : List ℕ)
    → EachIndex word (λ k. (0x21 ≤ slice_index word k) × (slice_index word k ≤ 0x7E)) → Without 32 word
name_without [] h = tt
name_without (o ∷ os) h =
    ((λ e. omega (arith, (h 0 (omega arith)).0, e)), name_without os (λ k lt. h (suc k) (omega (arith, lt))))

words_some : (text : List ℕ) (w : AnchorWords) → words_of text ≡ Some w
    → text ≡ spaced (w.name ∷ w.id ∷ w.key ∷ w.constraints ∷ [])
unfolding words_of
words_some text w e =
    let name = some_bind (cut 32 text) _ w e in
    let id = some_bind (cut 32 name.0.1) _ w name.2 in
    let key = some_bind (cut 32 id.0.1) _ w id.2 in
    let is = some_is _ w key.2 in
    subst (λ (x : AnchorWords). text ≡ spaced (x.name ∷ x.id ∷ x.key ∷ x.constraints ∷ [])) is
    ((cut_takes 32 text name.0 name.1).1
    ∙ ap (λ (r : List ℕ). name.0.0 ++ 32 ∷ r)
    ((cut_takes 32 name.0.1 id.0 id.1).1
    ∙ ap (λ (r : List ℕ). id.0.0 ++ 32 ∷ r) (cut_takes 32 id.0.1 key.0 key.1).1))

pub words_again : (text : List ℕ) (a : TrustAnchor) (h : IsAnchorText text a)
    → words_of text ≡ Some (record { name = h.name; id = h.id; key = h.key; constraints = h.constraints })
unfolding words_of
words_again text a h = ap words_of h.spelled ∙ rw (
  cut_again 32 h.name (spaced (h.id ∷ h.key ∷ h.constraints ∷ [])) (name_without h.name h.is_name.each),
  cut_again 32 h.id (spaced (h.key ∷ h.constraints ∷ [])) (hex64_without h.id a.key_id h.is_id),
  cut_again 32 h.key h.constraints (hex_only h.key a.key h.is_key.hex),
) refl

-- Each word says a part of the anchor.
record SaysAnchor (w : AnchorWords) (a : TrustAnchor) : Type 0 where
  is_name : IsNameWord w.name a.subject
  is_id : IsHex64 w.id a.key_id
  is_key : IsAnchorKey w.key a.key
  are_constraints : IsAnchorConstraints w.constraints a.constraints

pub no_words : (text : List ℕ) → words_of text ≡ None → Exactly (IsAnchorText text) None
no_words text none = nothing (IsAnchorText text) (λ a h. none-some _ (sym none ∙ words_again text a h))

to_constraints : (word : List ℕ) (o : Option (List ContentConstraint)) (octets : Option (List ℕ))
    → option_map constraints_text o ≡ octets → IsShortHex word octets → IfSome o AreConstraints
    → IsAnchorConstraints word o
to_constraints word None octets is h are = subst (IsShortHex word) (sym is) h
to_constraints word (Some entries) octets is h are =
    let t = subst (IsShortHex word) (sym is) h in (t.0, are, t.1)

from_constraints : (word : List ℕ) (o : Option (List ContentConstraint)) → IsAnchorConstraints word o
    → IsShortHex word (option_map constraints_text o) × IfSome o AreConstraints
from_constraints word None h = (h, tt)
from_constraints word (Some entries) h = ((h.0, h.2), h.1)

pub constraints_short : (word : List ℕ) (o : Option (List ContentConstraint)) → IsAnchorConstraints word o
    → IfSome o AreConstraints × IfSome o (λ entries. length (constraints_text entries) ≤ 2048)
constraints_short word None h = (tt, tt)
constraints_short word (Some entries) h = (h.1, h.2)

pub name_tagged : (word name : List ℕ) → IsNameWord word name → IsTagged 0x30 name
name_tagged word name h = record {
  contents = _;
  element = record {
    octet = omega arith;
    low_bits = omega arith;
    fits = omega (arith, name_contents_size word h.most);
  };
  text = h.stands;
}

module _ (text : List ℕ) (w : AnchorWords) (is : words_of text ≡ Some w) where
  says : (a : TrustAnchor) → IsAnchorText text a → SaysAnchor w a
  says a h =
      subst (λ (x : AnchorWords). SaysAnchor x a) (some_is _ w (sym (words_again text a h) ∙ is))
      (record { is_name = h.is_name; is_id = h.is_id; is_key = h.is_key; are_constraints = h.are_constraints })

  pub no_name : Exactly (IsNameWord w.name) None → Exactly (IsAnchorText text) None
  no_name exact =
      nothing (IsAnchorText text) (λ a h. unsaid (IsNameWord w.name) a.subject exact (says a h).is_name)

  pub no_id : Exactly (IsHex64 w.id) None → Exactly (IsAnchorText text) None
  no_id exact = nothing (IsAnchorText text) (λ a h. unsaid (IsHex64 w.id) a.key_id exact (says a h).is_id)

  pub no_key : Exactly (IsAnchorKey w.key) None → Exactly (IsAnchorText text) None
  no_key exact = nothing (IsAnchorText text) (λ a h. unsaid (IsAnchorKey w.key) a.key exact (says a h).is_key)

  pub no_constraints : Exactly (IsShortHex w.constraints) None → Exactly (IsAnchorText text) None
  no_constraints exact =
      nothing (IsAnchorText text) (λ a h.
      unsaid (IsShortHex w.constraints) (option_map constraints_text a.constraints) exact
      (from_constraints w.constraints a.constraints (says a h).are_constraints).0)

  module _ (subject id key : List ℕ) (octets : Option (List ℕ)) (a-name : Exactly (IsNameWord w.name) (Some subject))
      (an-id : Exactly (IsHex64 w.id) (Some id)) (a-key : Exactly (IsAnchorKey w.key) (Some key))
      (some-octets : Exactly (IsShortHex w.constraints) (Some octets)) where
    forth : (a : TrustAnchor) → HasParts a subject id key octets → IsAnchorText text a
    forth a p = record {
      name = w.name;
      id = w.id;
      key = w.key;
      constraints = w.constraints;
      is_name = subst (IsNameWord w.name) (sym p.subject) (said (IsNameWord w.name) subject a-name);
      is_id = subst (IsHex64 w.id) (sym p.key_id) (said (IsHex64 w.id) id an-id);
      is_key = subst (IsAnchorKey w.key) (sym p.key) (said (IsAnchorKey w.key) key a-key);
      are_constraints =
          to_constraints w.constraints a.constraints octets p.constraints
          (said (IsShortHex w.constraints) octets some-octets) p.anchor.constraints;
      spelled = words_some text w is;
    }

    back : (a : TrustAnchor) → SaysAnchor w a → HasParts a subject id key octets
    back a s =
        let read = from_constraints w.constraints a.constraints s.are_constraints in
        record {
          anchor = record {
            subject = name_tagged w.name a.subject s.is_name;
            key_id = record { some = s.is_id.some; most = s.is_id.most };
            key = key_text_size a.key s.is_key.text;
            constraints = read.1;
          };
          subject = same_said (IsNameWord w.name) subject a.subject a-name s.is_name;
          key_id = same_said (IsHex64 w.id) id a.key_id an-id s.is_id;
          key = same_said (IsAnchorKey w.key) key a.key a-key s.is_key;
          constraints =
              same_said (IsShortHex w.constraints) octets (option_map constraints_text a.constraints) some-octets
              read.0;
        }

    pub anchor_made : (r : Option TrustAnchor)
        → ((a : TrustAnchor) → (r ≡ Some a) ↔ HasParts a subject id key octets) → Exactly (IsAnchorText text) r
    anchor_made r kept a = (λ e. forth a ((kept a).0 e), λ h. (kept a).1 (back a (says a h)))
