-- Members that are signed, one after the other.
use Rattle.std.proofs.Common.{◌≡◌, ◌↔◌, ◌≤◌, ◌+◌, ◌-◌, ℕ, zero, suc, Bool, true, false, List, [], ◌∷◌, None, Some, IsTrue, length, map, take, drop, slice_get, length-drop, refl, sym, ap, subst, ◌∙◌, arith}
use Rattle.std.proofs.lemmas.List.{take_all}
use Rattle.cert_fields.specs.Anchor.{TrustAnchor}
use Rattle.cert_fields.specs.Certificate.{Certificate}
use Rattle.hss_chain.specs.declared.key.HssKey.{HssKey}
use Rattle.path_check.specs.HssCertificate.{IsSignedBy}
use Rattle.path_check.specs.Conditions.{IsKeyAbove, AreSigned}

add_one : (n : ℕ) → n + 1 ≡ suc n
add_one n = omega arith

none_some : {A : Type 0} {x : A} → None ≡ Some x → ⊥
none_some e = cc

some_is : {A : Type 0} {x y : A} → Some x ≡ Some y → x ≡ y
some_is e = cc

drop_one : {A : Type 0} (xs : List A) (n : ℕ) (x : A) → slice_get xs n ≡ Some x → drop n xs ≡ x ∷ drop (n + 1) xs
drop_one xs n x is = by xs n is ∙ ap (λ m. x ∷ drop m xs) (sym (add_one n))
  where
    by : (ys : List _) (m : ℕ) → slice_get ys m ≡ Some x → drop m ys ≡ x ∷ drop (suc m) ys
    by [] m is = absurd (none_some is)
    by (y ∷ ys) zero is = let same : y ≡ x = some_is is in ap (λ z. z ∷ ys) same
    by (y ∷ ys) (suc m) is = by ys m is

map_drop : {A B : Type 0} (f : A → B) (n : ℕ) (xs : List A) → map f (drop n xs) ≡ drop n (map f xs)
map_drop f zero xs = refl
map_drop f (suc n) [] = refl
map_drop f (suc n) (x ∷ xs) = map_drop f n xs

-- the members above one, as they are seen
pub above_view : {A B : Type 0} (f : A → B) (n : ℕ) (xs : List A)
    → map f (take (length xs - n) (drop n xs)) ≡ drop n (map f xs)
above_view f n xs = ap (map f) (take_all (length xs - n) (drop n xs) (
    let size = length-drop n xs in omega (arith, size)
    )) ∙ map_drop f n xs

module _ (anchor : TrustAnchor) where
  -- the member is signed by the key above it
  abbrev pub IsSignedAbove : Certificate → List Certificate → Type 0
  IsSignedAbove c above = (key : HssKey) × IsKeyAbove anchor above key × IsSignedBy key c

  -- those that are left behind a member that is signed
  pub signed_more : (ms : List Certificate) (n : ℕ) (c : Certificate) (r : Bool) → slice_get ms n ≡ Some c → r ≡ true
      → (IsTrue r ↔ IsSignedAbove c (drop (n + 1) ms))
      → (AreSigned anchor ms ↔ AreSigned anchor (drop n ms)) → AreSigned anchor ms ↔ AreSigned anchor (drop (n + 1) ms)
  signed_more ms n c r is holds tells same = (
    λ all. (subst (AreSigned anchor) (drop_one ms n c is) (same.0 all)).1,
    λ rest. same.1 (subst (AreSigned anchor) (sym (drop_one ms n c is)) (tells.0 holds, rest)),
  )

  pub signed_not : (ms : List Certificate) (n : ℕ) (c : Certificate) (r : Bool) → slice_get ms n ≡ Some c → r ≡ false
      → (IsTrue r ↔ IsSignedAbove c (drop (n + 1) ms))
      → (AreSigned anchor ms ↔ AreSigned anchor (drop n ms)) → IsTrue false ↔ AreSigned anchor ms
  signed_not ms n c r is fails tells same = (
    λ t. absurd (let e : false ≡ true = t in cc),
    λ all.
        let one = (subst (AreSigned anchor) (drop_one ms n c is) (same.0 all)).0 in
        let e : true ≡ false = sym (tells.1 one) ∙ fails in cc,
  )

  drop_past : (ms : List Certificate) (n : ℕ) → length ms ≤ n → drop n ms ≡ []
  drop_past [] zero past = refl
  drop_past [] (suc n) past = refl
  drop_past (m ∷ ms) zero past = absurd (omega (arith, past))
  drop_past (m ∷ ms) (suc n) past = drop_past ms n (let fewer : length ms ≤ n = omega (arith, past) in fewer)

  pub signed_all : (ms : List Certificate) (n : ℕ) → length ms ≤ n
      → (AreSigned anchor ms ↔ AreSigned anchor (drop n ms)) → IsTrue true ↔ AreSigned anchor ms
  signed_all ms n past same =
      (λ t. same.1 (subst (AreSigned anchor) (sym (drop_past ms n past)) tt), λ all. refl)

-- no member is above
pub none_above : {A : Type 0} (xs : List A) → length xs ≤ 0 → xs ≡ []
none_above [] none = refl
none_above (x ∷ xs) none = absurd (omega (arith, none))
