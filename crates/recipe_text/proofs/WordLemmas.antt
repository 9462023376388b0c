-- Words are read exactly.
use Rattle.std.proofs.Common.{◌≡◌, ℕ, ◌<◌, ◌≤◌, List, length, Option, Some, None, Result, Ok, Err}
use Rattle.std.proofs.Common.{refl, sym, ◌∙◌, ap, subst, arith, length-append, Bool}
use Rattle.std.specs.Prelude.{◌↔◌, is_some, IsTrue, IfSome, IfOk, SomeIff}
use Rattle.std.proofs.lemmas.Bool.{false≢true}
use Rattle.std.proofs.lemmas.Option.{none-some}
use Rattle.der_core.specs.Integer.{IsInteger}
use Rattle.der_core.specs.Reads.{Reads}
use Rattle.der_core.proofs.Numbers.{some_is}
use Rattle.hex.specs.Hex.{decode_of}
use Rattle.hex.specs.declared.error.FromHexError.{FromHexError}
use Rattle.hss_chain.specs.Keys.{IsHssKey, hss_key_text}
use Rattle.hss_chain.specs.declared.key.HssKey.{HssKey}
use Rattle.packager.specs.PackagePlan.{IsCertificateText}
use Rattle.recipe_text.specs.Lines.{IsHex}
use Rattle.recipe_text.specs.Reading.{cut, decoded}
use Rattle.recipe_text.specs.PackageRecipe.{IsImageWord}
use Rattle.recipe_text.specs.Words.{Exactly, IsPair, IsHex64, IsKeyWord, IsSerialWord, IsCertificateWord}
use Rattle.recipe_text.specs.Words.{AreConstraintsText, IsConstraintsWord}
use Rattle.recipe_text.proofs.Cuts.{Without, cut_takes}
use Rattle.recipe_text.proofs.KeyLines.{hex_only, decoded-some, decoded-hex}
use Rattle.recipe_text.proofs.Names.{cut_is, not_cut}

-- ---- in general

pub nothing : {V : Type 0} (IsSaid : V → Type 0) → ((v : V) → IsSaid v → ⊥) → Exactly IsSaid None
nothing IsSaid none v = (λ e. absurd (none-some v e), λ said. absurd (none v said))

-- there is one thing that is said
pub just : {V : Type 0} (IsSaid : V → Type 0) (x : V) → IsSaid x → ((v : V) → IsSaid v → v ≡ x)
    → Exactly IsSaid (Some x)
just IsSaid x said one v = (
  λ e. subst IsSaid (some_is x v e) said,
  λ other. ap Some (sym (one v other)),
)

pub said : {V : Type 0} (IsSaid : V → Type 0) (x : V) → Exactly IsSaid (Some x) → IsSaid x
said IsSaid x exact = (exact x).0 refl

pub same_said : {V : Type 0} (IsSaid : V → Type 0) (x v : V) → Exactly IsSaid (Some x) → IsSaid v → v ≡ x
same_said IsSaid x v exact other = sym (some_is x v ((exact v).1 other))

pub unsaid : {V : Type 0} (IsSaid : V → Type 0) (v : V) → Exactly IsSaid None → IsSaid v → ⊥
unsaid IsSaid v exact other = none-some v ((exact v).1 other)

-- where there is a value, it is exact
pub if_exact : {V F : Type 0} (A B : V → Type 0) (r : Result (Option V) F)
    → ((o : Option V) → Exactly A o → Exactly B o) → IfOk r (λ o. Exactly A o) → IfOk r (λ o. Exactly B o)
if_exact A B (Ok o) change h = change o h
if_exact A B (Err f) change h = tt

-- what is said is what is said more loosely, and passes a test
module _ {V : Type 0} (A B T : V → Type 0) (out : (v : V) → B v → A v × T v) (into : (v : V) → A v → T v → B v) where
  pub tested_some : (x : V) → Exactly A (Some x) → T x → Exactly B (Some x)
  tested_some x exact t = just B x (into x (said A x exact) t) (λ v b. same_said A x v exact (out v b).0)

  pub tested_none : (x : V) → Exactly A (Some x) → (T x → ⊥) → Exactly B None
  tested_none x exact free =
      nothing B (λ v b. free (subst T (same_said A x v exact (out v b).0) (out v b).1))

  pub untested : Exactly A None → Exactly B None
  untested exact = nothing B (λ v b. unsaid A v exact (out v b).0)

-- what is said is a value in another form
module _ {V W : Type 0} (A : V → Type 0) (B : W → Type 0) (form : V → W) (into : (v : V) → A v → B (form v))
    (out : (w : W) → B w → (v : V) × A v × (w ≡ form v)) where
  pub formed_some : (x : V) → Exactly A (Some x) → Exactly B (Some (form x))
  formed_some x exact =
      just B (form x) (into x (said A x exact)) (λ w b.
      let o = out w b in
      o.2 ∙ ap form (same_said A x o.0 exact o.1))

  pub formed_none : Exactly A None → Exactly B None
  formed_none exact = nothing B (λ w b. let o = out w b in unsaid A o.0 exact o.1)

-- ---- HEX

same_ok : {V F : Type 0} (a b : V) → ◌≡◌ {A = Result V F} (Ok a) (Ok b) → a ≡ b
same_ok a b e = cc

err_ok : {V F : Type 0} (f : F) (b : V) → ◌≡◌ {A = Result V F} (Err f) (Ok b) → ⊥
err_ok f b e = cc

pub hex_some : (word octets : List ℕ) → 0 < length word → decode_of word ≡ Ok octets → Exactly (IsHex word) (Some octets)
hex_some word octets some is =
    just (IsHex word) octets (some, is) (λ v h. same_ok v octets (sym h.1 ∙ is))

pub hex_none : (word : List ℕ) (f : FromHexError) → decode_of word ≡ Err f → Exactly (IsHex word) None
hex_none word f is = nothing (IsHex word) (λ v h. err_ok f v (sym is ∙ h.1))

pub hex_empty : (word : List ℕ) → length word ≡ 0 → Exactly (IsHex word) None
hex_empty word none = nothing (IsHex word) (λ v h. omega (arith, h.0, none))

-- ---- certificates

-- whether something is read is whether there is a text
pub tells : {V : Type 0} (text : V → List ℕ) (IsValid : V → Type 0) (octets : List ℕ) (o : Option V) (b : Bool)
    → b ≡ is_some o → Reads text IsValid octets o → IsTrue b ↔ ((v : V) × IsValid v × (octets ≡ text v))
tells text IsValid octets None b is reads = (
  λ sure. absurd (false≢true (sym is ∙ sure)),
  λ t. absurd (none-some t.0 ((reads t.0).1 (t.1, t.2))),
)
tells text IsValid octets (Some v) b is reads = (λ sure. let r = (reads v).0 refl in (v, r.0, r.1), λ t. is)

-- ---- keys

pub key_size : (key : HssKey) → IsHssKey key → length (hss_key_text key) ≡ 60
key_size key valid = omega (arith, length-append key.top.id key.top.root, valid.top.id, valid.top.root)

pub key_none : (word : List ℕ) → decoded 60 word ≡ None → Exactly (IsKeyWord word) None
key_none word none =
    nothing (IsKeyWord word) (λ key h. none-some _ (sym none ∙ decoded-hex 60 word _ h.hex (key_size key h.valid)))

pub key_some : (word octets : List ℕ) (r : Option HssKey) → decoded 60 word ≡ Some octets
    → IfSome r (λ key. octets ≡ hss_key_text key) → IfSome r IsHssKey
    → ((key : HssKey) → IsHssKey key → octets ≡ hss_key_text key → r ≡ Some key) → Exactly (IsKeyWord word) r
key_some word octets None is read valid found =
    nothing (IsKeyWord word) (λ key h.
    none-some key (found key h.valid (some_is octets _ (sym is ∙ decoded-hex 60 word _ h.hex (key_size key h.valid)))))
key_some word octets (Some k) is read valid found =
    just (IsKeyWord word) k
    (record {
      valid = valid;
      hex = subst (IsHex word) read (decoded-some 60 word octets (omega arith) is).0;
    })
    (λ key h.
    sym (some_is k key (found key h.valid (some_is octets _ (sym is ∙ decoded-hex 60 word _ h.hex (key_size key h.valid))))))

-- ---- HEX that passes a test

serial_out : (word : List ℕ) (v : List ℕ) → IsSerialWord word v → IsHex word v × (IsInteger v × (length v ≤ 20))
serial_out word v h = (h.hex, (h.integer, h.most))

serial_into : (word : List ℕ) (v : List ℕ) → IsHex word v → IsInteger v × (length v ≤ 20) → IsSerialWord word v
serial_into word v hex t = record { hex = hex; integer = t.0; most = t.1 }

abbrev IsShortInteger : List ℕ → Type 0
IsShortInteger v = IsInteger v × (length v ≤ 20)

module _ (word : List ℕ) where
  pub serial_some : (x : List ℕ) → Exactly (IsHex word) (Some x) → IsShortInteger x → Exactly (IsSerialWord word) (Some x)
  serial_some = tested_some (IsHex word) (IsSerialWord word) IsShortInteger (serial_out word) (serial_into word)

  pub serial_none : (x : List ℕ) → Exactly (IsHex word) (Some x) → (IsShortInteger x → ⊥) → Exactly (IsSerialWord word) None
  serial_none = tested_none (IsHex word) (IsSerialWord word) IsShortInteger (serial_out word) (serial_into word)

  pub serial_unread : Exactly (IsHex word) None → Exactly (IsSerialWord word) None
  serial_unread = untested (IsHex word) (IsSerialWord word) IsShortInteger (serial_out word) (serial_into word)

certificate_out : (word : List ℕ) (v : List ℕ) → IsCertificateWord word v → IsHex word v × IsCertificateText v
certificate_out word v h = (h.hex, h.text)

certificate_into : (word : List ℕ) (v : List ℕ) → IsHex word v → IsCertificateText v → IsCertificateWord word v
certificate_into word v hex t = record { hex = hex; text = t }

module _ (word : List ℕ) where
  pub certificate_some : (x : List ℕ) → Exactly (IsHex word) (Some x) → IsCertificateText x → Exactly (IsCertificateWord word) (Some x)
  certificate_some = tested_some (IsHex word) (IsCertificateWord word) IsCertificateText (certificate_out word) (certificate_into word)

  pub certificate_none : (x : List ℕ) → Exactly (IsHex word) (Some x) → (IsCertificateText x → ⊥) → Exactly (IsCertificateWord word) None
  certificate_none = tested_none (IsHex word) (IsCertificateWord word) IsCertificateText (certificate_out word) (certificate_into word)

  pub certificate_unread : Exactly (IsHex word) None → Exactly (IsCertificateWord word) None
  certificate_unread = untested (IsHex word) (IsCertificateWord word) IsCertificateText (certificate_out word) (certificate_into word)

constraints_out : (word : List ℕ) (v : List ℕ) → IsConstraintsWord word v → IsHex word v × AreConstraintsText v
constraints_out word v h = (h.hex, h.text)

constraints_into : (word : List ℕ) (v : List ℕ) → IsHex word v → AreConstraintsText v → IsConstraintsWord word v
constraints_into word v hex t = record { hex = hex; text = t }

module _ (word : List ℕ) where
  pub constraints_some : (x : List ℕ) → Exactly (IsHex word) (Some x) → AreConstraintsText x → Exactly (IsConstraintsWord word) (Some x)
  constraints_some = tested_some (IsHex word) (IsConstraintsWord word) AreConstraintsText (constraints_out word) (constraints_into word)

  pub constraints_none : (x : List ℕ) → Exactly (IsHex word) (Some x) → (AreConstraintsText x → ⊥) → Exactly (IsConstraintsWord word) None
  constraints_none = tested_none (IsHex word) (IsConstraintsWord word) AreConstraintsText (constraints_out word) (constraints_into word)

  pub constraints_unread : Exactly (IsHex word) None → Exactly (IsConstraintsWord word) None
  constraints_unread = untested (IsHex word) (IsConstraintsWord word) AreConstraintsText (constraints_out word) (constraints_into word)

abbrev IsShortImage : List ℕ → Type 0
IsShortImage v = length v ≤ 16777216

image_out : (word : List ℕ) (v : List ℕ) → IsImageWord word v → IsHex word v × (length v ≤ 16777216)
image_out word v h = (h.hex, h.most)

image_into : (word : List ℕ) (v : List ℕ) → IsHex word v → length v ≤ 16777216 → IsImageWord word v
image_into word v hex t = record { hex = hex; most = t }

module _ (word : List ℕ) where
  pub image_some : (x : List ℕ) → Exactly (IsHex word) (Some x) → IsShortImage x → Exactly (IsImageWord word) (Some x)
  image_some = tested_some (IsHex word) (IsImageWord word) IsShortImage (image_out word) (image_into word)

  pub image_none : (x : List ℕ) → Exactly (IsHex word) (Some x) → (IsShortImage x → ⊥) → Exactly (IsImageWord word) None
  image_none = tested_none (IsHex word) (IsImageWord word) IsShortImage (image_out word) (image_into word)

  pub image_unread : Exactly (IsHex word) None → Exactly (IsImageWord word) None
  image_unread = untested (IsHex word) (IsImageWord word) IsShortImage (image_out word) (image_into word)

-- 1 to 64 octets of HEX
pub hex64_read : (word octets : List ℕ) (r : Option (List ℕ)) → Exactly (IsHex word) (Some octets)
    → SomeIff r ((0 < length octets) × (length octets ≤ 64)) octets → Exactly (IsHex64 word) r
hex64_read word octets None exact none =
    nothing (IsHex64 word) (λ v h.
    let same : v ≡ octets = same_said (IsHex word) octets v exact h.hex in
    none (subst (λ (o : List ℕ). (0 < length o) × (length o ≤ 64)) same (h.some, h.most)))
hex64_read word octets (Some x) exact some =
    just (IsHex64 word) x
    (record {
      hex = subst (IsHex word) (sym some.1) (said (IsHex word) octets exact);
      some = subst (λ (o : List ℕ). 0 < length o) (sym some.1) some.0.0;
      most = subst (λ (o : List ℕ). length o ≤ 64) (sym some.1) some.0.1;
    })
    (λ v h. same_said (IsHex word) octets v exact h.hex ∙ sym some.1)

pub hex64_unread : (word : List ℕ) → Exactly (IsHex word) None → Exactly (IsHex64 word) None
hex64_unread word exact = nothing (IsHex64 word) (λ v h. unsaid (IsHex word) v exact h.hex)

-- ---- two words

module _ {V W : Type 0} (A : List ℕ → V → Type 0) (B : List ℕ → W → Type 0)
    (no_space : (word : List ℕ) (v : V) → A word v → Without 32 word) (text : List ℕ) where
  pair_is : (first second : List ℕ) (x : V × W) → cut 32 text ≡ Some (first, second) → IsPair A B text x
      → A first x.0 × B second x.1
  pair_is first second x is p =
      let same = cut_is text first second p.0 p.1 is (no_space p.0 x.0 p.2) p.4 in
      (subst (λ (w : List ℕ). A w x.0) (sym same.0) p.2, subst (λ (w : List ℕ). B w x.1) (sym same.1) p.3)

  pub pair_uncut : cut 32 text ≡ None → Exactly (IsPair A B text) None
  pair_uncut none = nothing (IsPair A B text) (λ x p. not_cut text p.0 p.1 none (no_space p.0 x.0 p.2) p.4)

  module _ (first second : List ℕ) (is : cut 32 text ≡ Some (first, second)) where
    pub pair_no_first : Exactly (A first) None → Exactly (IsPair A B text) None
    pair_no_first exact =
        nothing (IsPair A B text) (λ x p. unsaid (A first) x.0 exact (pair_is first second x is p).0)

    pub pair_no_second : Exactly (B second) None → Exactly (IsPair A B text) None
    pair_no_second exact =
        nothing (IsPair A B text) (λ x p. unsaid (B second) x.1 exact (pair_is first second x is p).1)

    pub pair_some : (x : V) (y : W) → Exactly (A first) (Some x) → Exactly (B second) (Some y)
        → Exactly (IsPair A B text) (Some (x, y))
    pair_some x y exact-x exact-y =
        just (IsPair A B text) (x, y) (
          first,
          second,
          said (A first) x exact-x,
          said (B second) y exact-y,
          (cut_takes 32 text (first, second) is).1,
        )
        (λ v p.
        let q = pair_is first second v is p in
        let left : v.0 ≡ x = same_said (A first) x v.0 exact-x q.0 in
        let right : v.1 ≡ y = same_said (B second) y v.1 exact-y q.1 in
        λ i. (left i, right i))

pub hex64_without : (word octets : List ℕ) → IsHex64 word octets → Without 32 word
hex64_without word octets h = hex_only word octets h.hex
