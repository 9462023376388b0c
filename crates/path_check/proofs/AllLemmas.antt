-- What holds of each element of a list, as a loop finds it.
use Rattle.std.proofs.Common.{◌≡◌, ◌↔◌, ◌≤◌, ◌+◌, ℕ, zero, suc, true, false, List, [], ◌∷◌, None, Some, length, map, take, slice_get, option_map, IsTrue, sym, ap, subst, ◌∙◌, arith}
use Rattle.std.specs.List.{AllByRecursion}
use Rattle.std.proofs.lemmas.List.{take_all}
use Rattle.std.proofs.lemmas.Option.{slice_get-map}

some_is : {A : Type 0} {x y : A} → Some x ≡ Some y → x ≡ y
some_is e = cc

none_some : {A : Type 0} {x : A} → None ≡ Some x → ⊥
none_some e = cc

add_one : (n : ℕ) → n + 1 ≡ suc n
add_one n = omega arith

module _ {A : Type 0} (P : A → Type 0) where
  -- it holds of the element at a place
  pub all_at : (xs : List A) (i : ℕ) (x : A) → AllByRecursion P xs → slice_get xs i ≡ Some x → P x
  all_at [] i x all is = absurd (none_some is)
  all_at (y ∷ ys) zero x all is = subst P (some_is is) all.0
  all_at (y ∷ ys) (suc i) x all is = all_at ys i x all.1 is

  next : (xs : List A) (n : ℕ) (x : A) → AllByRecursion P (take n xs) → slice_get xs n ≡ Some x → P x
      → AllByRecursion P (take (suc n) xs)
  next [] n x all is holds = absurd (none_some is)
  next (y ∷ ys) zero x all is holds = (subst P (sym (some_is is)) holds, tt)
  next (y ∷ ys) (suc n) x all is holds = (all.0, next ys n x all.1 is holds)

  -- it holds of one more
  pub all_more : (xs : List A) (n : ℕ) (x : A) → AllByRecursion P (take n xs) → slice_get xs n ≡ Some x → P x
      → AllByRecursion P (take (n + 1) xs)
  all_more xs n x all is holds = subst (λ m. AllByRecursion P (take m xs)) (sym (add_one n)) (next xs n x all is holds)

  -- it holds of each, as far as the end
  pub all_whole : (xs : List A) (n : ℕ) → length xs ≤ n → AllByRecursion P (take n xs) → AllByRecursion P xs
  all_whole xs n past all = subst (AllByRecursion P) (take_all n xs past) all

-- the element at a place, as it is seen
pub at_view : {A B : Type 0} (view : A → B) (xs : List A) (i : ℕ) (x : A) → slice_get xs i ≡ Some x
    → slice_get (map view xs) i ≡ Some (view x)
at_view view xs i x is = slice_get-map view xs i ∙ ap (option_map view) is

-- one of which it doesn't hold
pub not_all : {A : Type 0} (P : A → Type 0) (xs : List A) (i : ℕ) (x : A) → slice_get xs i ≡ Some x → ¬ P x
    → IsTrue false ↔ AllByRecursion P xs
not_all P xs i x is fails =
    (λ t. absurd (let e : false ≡ true = t in cc), λ all. absurd (fails (all_at P xs i x all is)))
