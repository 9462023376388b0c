-- Key identifiers that are told, and what is above by them.
use Rattle.std.proofs.Common.{◌≡◌, ◌↔◌, ℕ, Bool, true, false, not, List, Option, None, Some, IsTrue, Decides, refl, sym, ap, subst, ◌∙◌}
use Rattle.std.specs.Prelude.{bytes_eq}
use Rattle.std.proofs.lemmas.Slice.Eq.{bytes_eq-Decides}
use Rattle.cert_fields.specs.Certificate.{Certificate}
use Rattle.cert_fields.specs.Anchor.{TrustAnchor}
use Rattle.cert_fields.specs.Extensions.{HasExtensions}
use Rattle.cert_fields.specs.declared.extensions.Extensions.{Extensions}
use Rattle.path_check.specs.Keys.{TellsKey}
use Rattle.path_check.specs.Above.{HasSubjectKey, HasAuthorityKey, IsAbove, IsAnchorAbove}

-- what `==` says of octets
pub equal : (xs ys : List ℕ) (r : Bool) → r ≡ bytes_eq xs ys → Decides r (xs ≡ ys)
equal xs ys r is = subst (λ b. Decides b (xs ≡ ys)) (sym is) (bytes_eq-Decides xs ys)

module _ (c : Certificate) (field : Extensions → Option (List ℕ)) (r : Option Extensions)
    (reads : (e : Extensions) → (r ≡ Some e) ↔ HasExtensions c e) where
  abbrev IsKey : List ℕ → Type 0
  IsKey key = (e : Extensions) × HasExtensions c e × (field e ≡ Some key)

  -- extensions that read tell a key identifier
  pub told_some : (x : Extensions) → r ≡ Some x → TellsKey IsKey (field x)
  told_some x is key = (
    λ has. same has.0 ((reads has.0).1 has.1) ∙ has.2,
    λ e. (x, (reads x).0 is, e),
  )
    where
      same : (e : Extensions) → r ≡ Some e → field x ≡ field e
      same e read = let both : Some x ≡ Some e = sym is ∙ read in let one : x ≡ e = cc in ap field one

  -- others tell none
  pub told_none : r ≡ None → TellsKey IsKey None
  told_none is key = (
    λ has. absurd (let e : None ≡ Some has.0 = sym is ∙ (reads has.0).1 has.1 in cc),
    λ e. absurd (let f : None ≡ Some key = e in cc),
  )

none_some : {A : Type 0} {x : A} → None ≡ Some x → ⊥
none_some e = cc

some_is : {A : Type 0} {x y : A} → Some x ≡ Some y → x ≡ y
some_is e = cc

module _ (IsKey : List ℕ → Type 0) where
  -- a key identifier agrees with the one that is told
  pub agrees_some : (key own : List ℕ) (r : Bool) → TellsKey IsKey (Some own) → r ≡ bytes_eq key own
      → IsTrue r ↔ ((other : List ℕ) → IsKey other → key ≡ other)
  agrees_some key own r told is = (
    λ t other there. (equal key own r is).0 t ∙ some_is ((told other).0 there),
    λ all. (equal key own r is).1 (all own ((told own).1 refl)),
  )

  -- and where none is there
  pub agrees_none : (key : List ℕ) → TellsKey IsKey None
      → IsTrue true ↔ ((other : List ℕ) → IsKey other → key ≡ other)
  agrees_none key told = (λ t other there. absurd (none_some ((told other).0 there)), λ all. refl)

  -- the certificate has the key identifier
  pub has_some : (key own : List ℕ) (r : Bool) → TellsKey IsKey (Some own) → r ≡ bytes_eq own key → IsTrue r ↔ IsKey key
  has_some key own r told is = (
    λ t. (told key).1 (ap Some ((equal own key r is).0 t)),
    λ there. (equal own key r is).1 (some_is ((told key).0 there)),
  )

  pub has_none : (key : List ℕ) → TellsKey IsKey None → IsTrue false ↔ IsKey key
  has_none key told = (λ t. absurd (let e : false ≡ true = t in cc), λ there. absurd (none_some ((told key).0 there)))

module _ (child candidate : Certificate) (names : candidate.signed.subject ≡ child.signed.issuer) where
  -- a candidate of that name is above where the key identifiers agree
  pub above_some : (key : List ℕ) {P : Type 0} → TellsKey (HasAuthorityKey child) (Some key)
      → (P ↔ ((own : List ℕ) → HasSubjectKey candidate own → key ≡ own)) → P ↔ IsAbove child candidate
  above_some key told agrees = (
    λ p. record { names = names; keys = λ given own is there. sym (some_is ((told given).0 is)) ∙ agrees.0 p own there },
    λ above. agrees.1 (λ own there. above.keys key own ((told key).1 refl) there),
  )

  pub above_none : TellsKey (HasAuthorityKey child) None → IsTrue true ↔ IsAbove child candidate
  above_none told = (
    λ t. record { names = names; keys = λ given own is there. absurd (none_some ((told given).0 is)) },
    λ above. refl,
  )

module _ (child : Certificate) (anchor : TrustAnchor) (names : anchor.subject ≡ child.signed.issuer) where
  -- the same of an anchor
  pub anchor_above_some : (key : List ℕ) (r : Bool) → TellsKey (HasAuthorityKey child) (Some key)
      → r ≡ bytes_eq key anchor.key_id → IsTrue r ↔ IsAnchorAbove child anchor
  anchor_above_some key r told is = (
    λ t. record {
      names = names;
      keys = λ given own has same. sym (some_is ((told given).0 has)) ∙ (equal key anchor.key_id r is).0 t ∙ sym same;
    },
    λ above. (equal key anchor.key_id r is).1 (above.keys key anchor.key_id ((told key).1 refl) refl),
  )

  pub anchor_above_none : TellsKey (HasAuthorityKey child) None → IsTrue true ↔ IsAnchorAbove child anchor
  anchor_above_none told = (
    λ t. record { names = names; keys = λ given own is there. absurd (none_some ((told given).0 is)) },
    λ above. refl,
  )

-- octets that `!=` doesn't tell apart
pub not_different : (xs ys : List ℕ) (r : Bool) → r ≡ not (bytes_eq xs ys) → r ≡ false → xs ≡ ys
not_different xs ys r is isnt = by (bytes_eq xs ys) refl (sym is ∙ isnt)
  where
    by : (b : Bool) → bytes_eq xs ys ≡ b → not b ≡ false → xs ≡ ys
    by true e f = (bytes_eq-Decides xs ys).0 e
    by false e f = absurd (let g : true ≡ false = f in cc)

-- a test that answers false
pub untrue : {P : Type 0} {b : Bool} → b ≡ false → (IsTrue b ↔ P) → ¬ P
untrue isnt tells p = let e : true ≡ false = sym (tells.1 p) ∙ isnt in cc
