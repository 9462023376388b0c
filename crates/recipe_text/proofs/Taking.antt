-- A place is filled with what a line says, or the line is refused.
use Rattle.std.proofs.Common.{◌≡◌, ℕ, ◌≤◌, Bool, true, false, not, ◌&&◌, List, [], ◌∷◌, ◌++◌, length, map, Option, Some, None}
use Rattle.std.proofs.Common.{refl, sym, ◌∙◌, ap, subst, arith, inl, inr, length-append}
use Rattle.std.proofs.lemmas.List.{length-map, map-append}
use Rattle.std.specs.Prelude.{is_some, option_map, nat_lt, Result, Ok, Err, IfOk}
use Rattle.std.specs.Option.{option_to_list}
use Rattle.std.proofs.lemmas.Bool.{cases_lt, lt-ltb, le-ltb}
use Rattle.std.proofs.lemmas.Option.{none-some}
use Rattle.der_core.proofs.Numbers.{some_is}
use Rattle.recipe_text.specs.Taking.{Takes}
use Rattle.recipe_text.specs.Words.{Exactly}

-- what is said in other words is taken as well
pub takes_same : {E P : Type 0} (A B : E → Type 0) (IsFit : P → Type 0) (grow : P → E → P) (p q : P) (good : Bool)
    → ((e : E) → A e → B e) → ((e : E) → B e → A e) → Takes A IsFit grow p q good → Takes B IsFit grow p q good
takes_same A B IsFit grow p q true forth back t =
    (t.0, forth t.0 t.1, (λ f said. t.2 f (back f said)), t.3, t.4)
takes_same A B IsFit grow p q false forth back t = λ e said fit. t e (back e said) fit

pub if_ok_takes : {E P F : Type 0} (A B : E → Type 0) (IsFit : P → Type 0) (grow : P → E → P) (p q : P)
    (r : Result Bool F) → ((e : E) → A e → B e) → ((e : E) → B e → A e) → IfOk r (Takes A IsFit grow p q)
    → IfOk r (Takes B IsFit grow p q)
if_ok_takes A B IsFit grow p q (Ok good) forth back t = takes_same A B IsFit grow p q good forth back t
if_ok_takes A B IsFit grow p q (Err f) forth back t = tt

-- nothing is said
pub takes_none : {E P : Type 0} (A : E → Type 0) (IsFit : P → Type 0) (grow : P → E → P) (p q : P) (good : Bool)
    → good ≡ false → ((e : E) → A e → ⊥) → Takes A IsFit grow p q good
takes_none A IsFit grow p q good is none =
    subst (Takes A IsFit grow p q) (sym is) (λ e said fit. none e said)

-- ---- lists that have one item at most

one_at_most : {V : Type 0} (o : Option V) → length (option_to_list o) ≤ 1
one_at_most None = omega arith
one_at_most (Some v) = omega arith

pub two_items : {V : Type 0} (xs : List V) (v w : V) → xs ≡ v ∷ [] → length (xs ++ w ∷ []) ≤ 1 → ⊥
two_items xs v w is few =
    let both : length (v ∷ w ∷ []) ≤ 1 = subst (λ (ys : List _). length (ys ++ w ∷ []) ≤ 1) is few in
    omega (arith, both)

pub is_some-map : {T V : Type 0} (f : T → V) (o : Option T) → is_some (option_map f o) ≡ is_some o
is_some-map f None = refl
is_some-map f (Some x) = refl

-- ---- what a line of one kind says

module _ {E P V : Type 0} (IsSaid : E → Type 0) (IsFit : P → Type 0) (grow : P → E → P) (IsWord : V → Type 0)
    (entry : V → E) (here : (v : V) → IsWord v → IsSaid (entry v))
    (only : (e : E) → IsSaid e → (v : V) × IsWord v × (e ≡ entry v)) where
  -- a value that is there is the one that is said
  one_said : (v : V) → Exactly IsWord (Some v) → (e : E) → IsSaid e → e ≡ entry v
  one_said v exact e said =
      let o = only e said in
      o.2 ∙ ap entry (sym (some_is v o.0 ((exact o.0).1 o.1)))

  none_said : Exactly IsWord None → (e : E) → IsSaid e → ⊥
  none_said exact e said = let o = only e said in none-some o.0 ((exact o.0).1 o.1)

  -- with a value that may stand, the line is taken
  pub taken : (v : V) (p q : P) → Exactly IsWord (Some v) → q ≡ grow p (entry v) → IsFit q
      → Takes IsSaid IsFit grow p q true
  taken v p q exact is fits = (entry v, here v ((exact v).0 refl), one_said v exact, is, fits)

  pub refused : (value : Option V) (p q : P) → Exactly IsWord value
      → ((v : V) → value ≡ Some v → IsFit (grow p (entry v)) → ⊥) → Takes IsSaid IsFit grow p q false
  refused None p q exact full = λ e said fits. none_said exact e said
  refused (Some v) p q exact full =
      λ e said fits. full v refl (subst (λ (x : E). IsFit (grow p x)) (one_said v exact e said) fits)

  -- a place that is filled once: its list xs, and all with another list there
  module _ (p : P) (xs : List V) (put : List V → P) (grows : (v : V) → put (xs ++ v ∷ []) ≡ grow p (entry v)) where
    pub once : (fits : (ys : List V) → length ys ≤ 1 → IsFit (put ys))
        → (count : (v : V) → IsFit (grow p (entry v)) → length (xs ++ v ∷ []) ≤ 1)
        → (old value new : Option V) (good : Bool) → xs ≡ option_to_list old
        → good ≡ (not (is_some old) && is_some value) → (good ≡ true → new ≡ value) → Exactly IsWord value
        → Takes IsSaid IsFit grow p (put (option_to_list new)) good
    once fits count None (Some v) new good same is filled exact =
        let put-is : put (option_to_list new) ≡ grow p (entry v) =
        ap (λ (o : Option V). put (option_to_list o)) (filled is)
        ∙ ap (λ (ys : List V). put (ys ++ v ∷ [])) (sym same) ∙ grows v in
        subst (Takes IsSaid IsFit grow p (put (option_to_list new))) (sym is)
        (taken v p (put (option_to_list new)) exact put-is (fits (option_to_list new) (one_at_most new)))
    once fits count None None new good same is filled exact =
        subst (Takes IsSaid IsFit grow p (put (option_to_list new))) (sym is)
        (refused None p (put (option_to_list new)) exact (λ v free fit. none-some v free))
    once fits count (Some u) value new good same is filled exact =
        subst (Takes IsSaid IsFit grow p (put (option_to_list new))) (sym is)
        (refused value p (put (option_to_list new)) exact (λ v some fit. two_items xs u v same (count v fit)))

    -- the same, where a test has to hold as well
    pub once_when : (also : Bool) (old value : Option V) (good : Bool)
        → ((v : V) → value ≡ Some v → also ≡ true → IsFit (put (v ∷ [])))
        → ((v : V) → IsFit (grow p (entry v)) → length (xs ++ v ∷ []) ≤ 1)
        → ((v : V) → value ≡ Some v → also ≡ false → IsFit (grow p (entry v)) → ⊥) → xs ≡ option_to_list old
        → good ≡ (also && (not (is_some old) && is_some value)) → Exactly IsWord value
        → Takes IsSaid IsFit grow p (put (option_to_list value)) good
    once_when false old value good fits count unlike same is exact =
        subst (Takes IsSaid IsFit grow p (put (option_to_list value))) (sym is)
        (refused value p (put (option_to_list value)) exact (λ v some fit. unlike v some refl fit))
    once_when true None (Some v) good fits count unlike same is exact =
        let put-is : put (v ∷ []) ≡ grow p (entry v) =
        ap (λ (ys : List V). put (ys ++ v ∷ [])) (sym same) ∙ grows v in
        subst (Takes IsSaid IsFit grow p (put (v ∷ []))) (sym is)
        (taken v p (put (v ∷ [])) exact put-is (fits v refl refl))
    once_when true None None good fits count unlike same is exact =
        subst (Takes IsSaid IsFit grow p (put [])) (sym is)
        (refused None p (put []) exact (λ v free fit. none-some v free))
    once_when true (Some u) value good fits count unlike same is exact =
        subst (Takes IsSaid IsFit grow p (put (option_to_list value))) (sym is)
        (refused value p (put (option_to_list value)) exact (λ v some fit. two_items xs u v same (count v fit)))

    -- a list that is filled up to a limit
    pub below : (most : ℕ) → (fits : (ys : List V) → length ys ≤ most → IsFit (put ys))
        → (count : (v : V) → IsFit (grow p (entry v)) → length (xs ++ v ∷ []) ≤ most)
        → (value : Option V) (new : List V) (good : Bool) → good ≡ (nat_lt (length xs) most && is_some value)
        → (good ≡ true → new ≡ xs ++ option_to_list value) → Exactly IsWord value
        → Takes IsSaid IsFit grow p (put new) good
    below most fits count (Some v) new good is added exact = elim (cases_lt (length xs) most) [
      | inl lt ↦
          let sure : good ≡ true = is ∙ ap (λ b. b && true) (lt-ltb (length xs) most lt) in
          let new-is : new ≡ xs ++ v ∷ [] = added sure in
          let size : length new ≤ most = omega (arith, lt, ap length new-is, length-append xs (v ∷ [])) in
          subst (Takes IsSaid IsFit grow p (put new)) (sym sure)
          (taken v p (put new) exact (ap put new-is ∙ grows v) (fits new size))
      | inr le ↦
          let free : good ≡ false = is ∙ ap (λ b. b && true) (le-ltb (length xs) most le) in
          subst (Takes IsSaid IsFit grow p (put new)) (sym free)
          (refused (Some v) p (put new) exact (λ w some fit.
          omega (arith, le, count w fit, length-append xs (w ∷ []))))
    ]
    below most fits count None new good is added exact =
        let free : good ≡ false = is ∙ and_false (nat_lt (length xs) most) in
        subst (Takes IsSaid IsFit grow p (put new)) (sym free)
        (refused None p (put new) exact (λ v some fit. none-some v some))
      where
        and_false : (b : Bool) → (b && false) ≡ false
        and_false true = refl
        and_false false = refl

-- the same over values that are seen by a view
pub once_seen : {T V : Type 0} (f : T → V) (old value : Option T) (good : Bool)
    → good ≡ (not (is_some old) && is_some value)
    → good ≡ (not (is_some (option_map f old)) && is_some (option_map f value))
once_seen f old value good is =
    is ∙ ap (λ b. not b && is_some value) (sym (is_some-map f old))
    ∙ ap (λ b. not (is_some (option_map f old)) && b) (sym (is_some-map f value))

-- a list that is seen by a view
pub below_seen : {E P T W : Type 0} (IsSaid : E → Type 0) (IsFit : P → Type 0) (grow : P → E → P) (IsWord : T → Type 0)
    (entry : T → E) (here : (v : T) → IsWord v → IsSaid (entry v))
    (only : (e : E) → IsSaid e → (v : T) × IsWord v × (e ≡ entry v)) (view : T → W) (p : P) (xs : List W)
    (put : List W → P) → ((v : T) → put (xs ++ view v ∷ []) ≡ grow p (entry v)) → (most : ℕ)
    → ((ys : List W) → length ys ≤ most → IsFit (put ys))
    → ((v : T) → IsFit (grow p (entry v)) → length (xs ++ view v ∷ []) ≤ most)
    → (old new : List T) (value : Option T) (good : Bool) → xs ≡ map view old
    → good ≡ (nat_lt (length old) most && is_some value) → (good ≡ true → new ≡ old ++ option_to_list value)
    → Exactly IsWord value → Takes IsSaid IsFit grow p (put (map view new)) good
below_seen IsSaid IsFit grow IsWord entry here only view p xs put grows most fits count old new (Some v) good same is
    added exact = elim (cases_lt (length old) most) [
      | inl lt ↦
          let sure : good ≡ true = is ∙ ap (λ b. b && true) (lt-ltb (length old) most lt) in
          let new-is : new ≡ old ++ v ∷ [] = added sure in
          let seen : map view new ≡ xs ++ view v ∷ [] =
          ap (map view) new-is ∙ map-append view old (v ∷ []) ∙ ap (λ (ys : List _). ys ++ view v ∷ []) (sym same) in
          let size : length (map view new) ≤ most =
          omega (arith, lt, ap length seen, length-append xs (view v ∷ []), ap length same, length-map old view) in
          subst (Takes IsSaid IsFit grow p (put (map view new))) (sym sure)
          (taken IsSaid IsFit grow IsWord entry here only v p (put (map view new)) exact (ap put seen ∙ grows v)
          (fits (map view new) size))
      | inr le ↦
          let free : good ≡ false = is ∙ ap (λ b. b && true) (le-ltb (length old) most le) in
          subst (Takes IsSaid IsFit grow p (put (map view new))) (sym free)
          (refused IsSaid IsFit grow IsWord entry here only (Some v) p (put (map view new)) exact (λ w some fit.
          omega (arith, le, count w fit, length-append xs (view w ∷ []), ap length same, length-map old view)))
    ]
below_seen IsSaid IsFit grow IsWord entry here only view p xs put grows most fits count old new None good same is
    added exact =
    let free : good ≡ false = is ∙ and_no (nat_lt (length old) most) in
    subst (Takes IsSaid IsFit grow p (put (map view new))) (sym free)
    (refused IsSaid IsFit grow IsWord entry here only None p (put (map view new)) exact (λ v some fit. none-some v some))
  where
    and_no : (b : Bool) → (b && false) ≡ false
    and_no true = refl
    and_no false = refl

pub added_seen : {T V : Type 0} (f : T → V) (old new : List T) (value : Option T) (most : ℕ) (good : Bool)
    → good ≡ (nat_lt (length old) most && is_some value) → (good ≡ true → new ≡ old ++ option_to_list value)
    → (good ≡ (nat_lt (length (map f old)) most && is_some (option_map f value)))
    × (good ≡ true → map f new ≡ map f old ++ option_to_list (option_map f value))
added_seen f old new value most good is added = (
  is ∙ ap (λ n. nat_lt n most && is_some value) (sym (length-map old f))
      ∙ ap (λ b. nat_lt (length (map f old)) most && b) (sym (is_some-map f value)),
  λ sure. ap (map f) (added sure) ∙ map-append f old (option_to_list value)
      ∙ ap (λ (ys : List _). map f old ++ ys) (listed value),
)
  where
    listed : (o : Option _) → map f (option_to_list o) ≡ option_to_list (option_map f o)
    listed None = refl
    listed (Some v) = refl
