-- The first element of a list that fails a test.
use Rattle.std.proofs.Common.{◌≡◌, ℕ, zero, suc, ◌+◌, ◌<◌, Bool, true, false, ◌||◌, not, nat_lt, cond, List, [], ◌∷◌, length, slice_get, position, Option, None, Some, option_map, Contains, refl, sym, ap, subst, ◌∙◌, true≢false, arith}
use Rattle.std.proofs.lemmas.Bool.Decides.{nat_tests}
use Rattle.std.specs.List.{AllByRecursion, list_any, position_or_len}
use Rattle.dependency_check.specs.Dependencies.{FailsFirstAt}

-- what holds of all holds of the element at a place
pub all_at : {A : Type 0} (P : A → Type 0) (xs : List A) (place : ℕ) (x : A) → AllByRecursion P xs
    → slice_get xs place ≡ Some x → P x
all_at P [] place x all h = absurd (let n : None ≡ Some x = h in cc)
all_at P (y ∷ ys) zero x all h = let is : y ≡ x = cc in subst P is all.0
all_at P (y ∷ ys) (suc place) x all h = all_at P ys place x all.1 h

-- what holds at each place holds of all
pub all_from : {A : Type 0} (P : A → Type 0) (xs : List A) → ((i : ℕ) (x : A) → slice_get xs i ≡ Some x → P x)
    → AllByRecursion P xs
all_from P [] each = tt
all_from P (x ∷ xs) each = (each zero x refl, all_from P xs (λ i y h. each (suc i) y h))

-- what follows of each element follows of all
pub all_then : {A : Type 0} (P Q : A → Type 0) (xs : List A) → ((x : A) → P x → Q x) → AllByRecursion P xs
    → AllByRecursion Q xs
all_then P Q [] follows all = tt
all_then P Q (x ∷ xs) follows all = (follows x all.0, all_then P Q xs follows all.1)

-- where P fails of one, it doesn't hold of all
pub not_all : {A : Type 0} (P : A → Type 0) (xs : List A) (place : ℕ) → FailsFirstAt P xs place → AllByRecursion P xs
    → ⊥
not_all P xs place failing all = failing.fails (all_at P xs place failing.element all failing.there)

module _ {A : Type 0} (test : A → Bool) where
  position-cons : (x : A) (xs : List A)
      → position test (x ∷ xs) ≡ cond (test x) (Some 0) (option_map suc (position test xs))
  position-cons x xs = by (test x)
    where
      shifted : (m n : ℕ) (b : Bool) → nat_lt m n ≡ b
          → cond (nat_lt (1 + m) (suc n)) (Some (1 + m)) None ≡ option_map suc (cond b (Some m) None)
      shifted m n true h =
          let g : nat_lt (1 + m) (suc n) ≡ true = grind (arith, nat_tests) in
          ap (λ c. cond c (Some (1 + m)) None) g ∙ ap Some (omega arith)
      shifted m n false h =
          let g : nat_lt (1 + m) (suc n) ≡ false = grind (arith, nat_tests) in ap (λ c. cond c (Some (1 + m)) None) g

      by : (b : Bool) → cond (nat_lt (cond (not b) (1 + position_or_len test xs) 0) (suc (length xs)))
          (Some (cond (not b) (1 + position_or_len test xs) 0)) None
          ≡ cond b (Some 0) (option_map suc (position test xs))
      by true = let g : nat_lt 0 (suc (length xs)) ≡ true = grind (arith, nat_tests) in ap (λ c. cond c (Some 0) None) g
      by false = shifted (position_or_len test xs) (length xs) (nat_lt (position_or_len test xs) (length xs)) refl

module _ {A : Type 0} (test : A → Bool) where
  -- where no element fails the test, all pass it
  pub all_pass : (xs : List A) → position (λ x. not (test x)) xs ≡ None → AllByRecursion (λ x. test x ≡ true) xs
  all_pass [] h = tt
  all_pass (x ∷ xs) h = by (all_pass xs) (test x) refl (sym (position-cons (λ x. not (test x)) x xs) ∙ h)
    where
      none : (o : Option ℕ) → option_map suc o ≡ None → o ≡ None
      none None h = refl
      none (Some i) h = cc

      by : (position (λ x. not (test x)) xs ≡ None → AllByRecursion (λ x. test x ≡ true) xs) → (b : Bool) → test x ≡ b
          → cond (not b) (Some 0) (option_map suc (position (λ x. not (test x)) xs)) ≡ None
          → (test x ≡ true) × AllByRecursion (λ x. test x ≡ true) xs
      by rest true passes h = (passes, rest (none (position (λ x. not (test x)) xs) h))
      by rest false fails h = absurd (let n : Some 0 ≡ None = h in cc)

  -- and where one does, the first that does is at that place
  pub fails_first : (xs : List A) (place : ℕ) → position (λ x. not (test x)) xs ≡ Some place
      → FailsFirstAt (λ x. test x ≡ true) xs place
  fails_first [] place h = absurd (let n : None ≡ Some place = h in cc)
  fails_first (x ∷ xs) place h = by (fails_first xs) (test x) refl (sym (position-cons (λ x. not (test x)) x xs) ∙ h)
    where
      pred : (o : Option ℕ) → option_map suc o ≡ Some place → (i : ℕ) × (o ≡ Some i) × (place ≡ suc i)
      pred None h = absurd (let n : None ≡ Some place = h in cc)
      pred (Some i) h = (i, refl, cc)

      by : ((place : ℕ) → position (λ x. not (test x)) xs ≡ Some place → FailsFirstAt (λ x. test x ≡ true) xs place)
          → (b : Bool) → test x ≡ b
          → cond (not b) (Some 0) (option_map suc (position (λ x. not (test x)) xs)) ≡ Some place
          → FailsFirstAt (λ x. test x ≡ true) (x ∷ xs) place
      by rest true passes h =
          let at = pred (position (λ x. not (test x)) xs) h in
          let later = rest at.0 at.1 in
          subst (FailsFirstAt (λ x. test x ≡ true) (x ∷ xs)) (sym at.2) (record {
            element = later.element;
            there = later.there;
            fails = later.fails;
            before = before later;
          })
        where
          before : {i : ℕ} → FailsFirstAt (λ x. test x ≡ true) xs i → (j : ℕ) (y : A) → j < suc i
              → slice_get (x ∷ xs) j ≡ Some y → test y ≡ true
          before later zero y low h = let is : x ≡ y = cc in sym (ap test is) ∙ passes
          before later (suc j) y low h = later.before j y (omega arith) h
      by rest false failing h =
          let is : 0 ≡ place = cc in
          subst (FailsFirstAt (λ x. test x ≡ true) (x ∷ xs)) is (record {
            element = x;
            there = refl;
            fails = λ passes. true≢false (sym passes ∙ failing);
            before = λ i y low. absurd (omega arith);
          })

  -- an element that passes
  pub record Passes (xs : List A) : Type 0 where
    pub element : A
    pub among : Contains xs element
    pub passes : test element ≡ true

  pub one_passes : (xs : List A) → list_any test xs ≡ true → Passes xs
  one_passes [] h = absurd (true≢false (sym h))
  one_passes (x ∷ xs) h = by (one_passes xs) (test x) refl h
    where
      by : (list_any test xs ≡ true → Passes xs) → (b : Bool) → test x ≡ b → (b || list_any test xs) ≡ true
          → Passes (x ∷ xs)
      by rest true is h = record { element = x; among = (0, omega arith, refl); passes = is }
      by rest false is h =
          let later = rest h in
          record {
            element = later.element;
            among = (suc later.among.0, omega arith, later.among.2);
            passes = later.passes;
          }

  -- where none does, all fail
  pub none_passes : (xs : List A) → list_any test xs ≡ false → AllByRecursion (λ x. test x ≡ false) xs
  none_passes [] h = tt
  none_passes (x ∷ xs) h = by (none_passes xs) (test x) refl h
    where
      by : (list_any test xs ≡ false → AllByRecursion (λ x. test x ≡ false) xs) → (b : Bool) → test x ≡ b
          → (b || list_any test xs) ≡ false
          → (test x ≡ false) × AllByRecursion (λ x. test x ≡ false) xs
      by rest true is h = absurd (true≢false h)
      by rest false is h = (is, rest h)
