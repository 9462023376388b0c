-- What `put` does to a list of things that have package names.
use Rattle.std.proofs.Common.{◌≡◌, ℕ, zero, suc, Bool, true, false, ◌||◌, cond, List, [], ◌∷◌, ◌++◌, map, length, slice_get, Some, None, is_some, ◌⊎◌, inl, inr, refl, sym, ap, subst, ◌∙◌, true≢false, if◌then◌else◌}
use Rattle.std.specs.List.{AllByRecursion, IsDistinct, list_any, find}
use Rattle.package_attrs.specs.declared.name.PackageName.{PackageName}
use Rattle.config_table.specs.Names.{is_same}
use Rattle.config_table.specs.Keys.{is_same-equivalence}
use Rattle.config_table.specs.State.{put}
use Rattle.config_table.proofs.SameLemmas.{is_same-left, is_same-right}

-- what two things that name one package make names it too
pub record JoinsNames {X : Type 0} (name : X → PackageName) (join : X → X → X) : Type 0 where
  pub joined : (old new : X) → is_same (name new) (name old) ≡ true → (q : PackageName)
      → is_same (name (join old new)) q ≡ is_same (name old) q

module _ {X : Type 0} (name : X → PackageName) (join : X → X → X) (joins : JoinsNames name join) where
  apart_from : PackageName → List X → Type 0
  apart_from q xs = AllByRecursion (λ y. is_same q y ≡ false) (map name xs)

  apart_swap : (p q : PackageName) (xs : List X) → ((c : PackageName) → is_same p c ≡ is_same q c) → apart_from q xs
      → apart_from p xs
  unfolding apart_from
  apart_swap p q [] alike h = tt
  apart_swap p q (x ∷ xs) alike h = (alike (name x) ∙ h.0, apart_swap p q xs alike h.1)

  -- a thing stays apart from the things of other packages
  apart_put : (q : PackageName) (new : X) (xs : List X) → is_same q (name new) ≡ false → apart_from q xs
      → apart_from q (put name join new xs)
  unfolding apart_from
  apart_put q new [] apart h = (apart, tt)
  apart_put q new (x ∷ xs) apart h = by (apart_put q new xs apart h.1) (is_same (name new) (name x)) refl
    where
      by : apart_from q (put name join new xs) → (b : Bool) → is_same (name new) (name x) ≡ b
          → AllByRecursion (λ y. is_same q y ≡ false)
          (map name (if b then join x new ∷ xs else x ∷ put name join new xs))
      by rest true same = (
        is_same-equivalence.symm q (name (join x new)) ∙ joins.joined x new same q
            ∙ is_same-equivalence.symm (name x) q ∙ h.0,
        h.1,
      )
      by rest false other = (h.0, rest)

  -- names stay distinct
  pub distinct_put : (new : X) (xs : List X) → IsDistinct is_same (map name xs)
      → IsDistinct is_same (map name (put name join new xs))
  unfolding IsDistinct apart_from
  distinct_put new [] d = (tt, tt)
  distinct_put new (x ∷ xs) d = by (distinct_put new xs d.1) (is_same (name new) (name x)) refl
    where
      by : IsDistinct is_same (map name (put name join new xs)) → (b : Bool) → is_same (name new) (name x) ≡ b
          → IsDistinct is_same (map name (if b then join x new ∷ xs else x ∷ put name join new xs))
      by rest true same = (apart_swap (name (join x new)) (name x) xs (joins.joined x new same) d.0, d.1)
      by rest false other = (apart_put (name x) new xs (is_same-equivalence.symm (name x) (name new) ∙ other) d.0, rest)

  -- what stands at a place stays there, or is joined with what is put
  pub record IsKept (xs : List X) (place : ℕ) (x : X) : Type 0 where
    pub after : X
    pub there : slice_get xs place ≡ Some after
    pub same : is_same (name after) (name x) ≡ true

  pub place_put : (new : X) (xs : List X) (place : ℕ) (x : X) → slice_get xs place ≡ Some x
      → IsKept (put name join new xs) place x
  place_put new [] place x h = absurd (none_is_some h)
    where
      none_is_some : {x : X} → None ≡ Some x → ⊥
      none_is_some e = cc
  place_put new (y ∷ ys) place x h =
      by (λ place h. place_put new ys place x h) (is_same (name new) (name y)) refl place h
    where
      by : ((place : ℕ) → slice_get ys place ≡ Some x → IsKept (put name join new ys) place x) → (b : Bool)
          → is_same (name new) (name y) ≡ b → (place : ℕ) → slice_get (y ∷ ys) place ≡ Some x
          → IsKept (if b then join y new ∷ ys else y ∷ put name join new ys) place x
      by rest true same zero h = record {
        after = join y new;
        there = refl;
        same = joins.joined y new same (name x) ∙ first h;
      }
        where
          first : Some y ≡ Some x → is_same (name y) (name x) ≡ true
          first e =
              let y_is : y ≡ x = cc in
              subst (λ z. is_same (name z) (name x) ≡ true) (sym y_is) (is_same-equivalence.refl (name x))
      by rest true same (suc place) h = record { after = x; there = h; same = is_same-equivalence.refl (name x) }
      by rest false other zero h = record { after = x; there = h; same = is_same-equivalence.refl (name x) }
      by rest false other (suc place) h = let kept = rest place h in record {
        after = kept.after;
        there = kept.there;
        same = kept.same;
      }

  -- a test that joining keeps true finds something still
  pub any_put : (test : X → Bool)
      → ((old new : X) → is_same (name new) (name old) ≡ true → test old ≡ true → test (join old new) ≡ true)
      → (new : X) (xs : List X)
      → list_any test xs ≡ true → list_any test (put name join new xs) ≡ true
  any_put test keeps new [] h = absurd (true≢false (sym h))
  any_put test keeps new (x ∷ xs) h = by (any_put test keeps new xs) (is_same (name new) (name x)) refl (test x) refl h
    where
      by : (list_any test xs ≡ true → list_any test (put name join new xs) ≡ true) → (b : Bool)
          → is_same (name new) (name x) ≡ b → (t : Bool) → test x ≡ t → t || list_any test xs ≡ true
          → list_any test (if b then join x new ∷ xs else x ∷ put name join new xs) ≡ true
      by rest true same true passes h = ap (λ c. c || list_any test xs) (keeps x new same passes)
      by rest true same false fails h = ap (λ l. test (join x new) || l) h ∙ or_true (test (join x new))
        where
          or_true : (b : Bool) → (b || true) ≡ true
          or_true true = refl
          or_true false = refl
      by rest false other true passes h = ap (λ c. c || list_any test (put name join new xs)) passes
      by rest false other false fails h = ap (λ c. c || list_any test (put name join new xs)) fails ∙ rest h

  -- the thing of a package is found still, as it was or joined with what is put
  pub record IsFound (q : PackageName) (new : X) (xs : List X) (x : X) : Type 0 where
    pub after : X
    pub found : find (λ y. is_same q (name y)) xs ≡ Some after
    pub is : (after ≡ x) ⊎ (after ≡ join x new)

  pub find_put : (q : PackageName) (new : X) (xs : List X) (x : X) → find (λ y. is_same q (name y)) xs ≡ Some x
      → IsFound q new (put name join new xs) x
  find_put q new [] x h = absurd (none_is_some h)
    where
      none_is_some : {x : X} → None ≡ Some x → ⊥
      none_is_some e = cc
  find_put q new (y ∷ ys) x h = by (find_put q new ys x) (is_same (name new) (name y)) refl (is_same q (name y)) refl h
    where
      by : (find (λ y. is_same q (name y)) ys ≡ Some x → IsFound q new (put name join new ys) x) → (b : Bool)
          → is_same (name new) (name y) ≡ b → (t : Bool) → is_same q (name y) ≡ t
          → cond t (Some y) (find (λ y. is_same q (name y)) ys) ≡ Some x
          → IsFound q new (if b then join y new ∷ ys else y ∷ put name join new ys) x
      by rest true same true here h =
          let y_is : y ≡ x = cc in
          let still : is_same q (name (join y new)) ≡ true =
          is_same-equivalence.symm q (name (join y new)) ∙ joins.joined y new same q
          ∙ is_same-equivalence.symm (name y) q ∙ here in
          record {
            after = join y new;
            found = ap (λ c. cond c (Some (join y new)) (find (λ y. is_same q (name y)) ys)) still;
            is = inr (ap (λ z. join z new) y_is);
          }
      by rest true same false there h =
          let still : is_same q (name (join y new)) ≡ false =
          is_same-equivalence.symm q (name (join y new)) ∙ joins.joined y new same q
          ∙ is_same-equivalence.symm (name y) q ∙ there in
          record {
            after = x;
            found = ap (λ c. cond c (Some (join y new)) (find (λ y. is_same q (name y)) ys)) still ∙ h;
            is = inl refl;
          }
      by rest false other true here h = record {
        after = x;
        found = ap (λ c. cond c (Some y) (find (λ y. is_same q (name y)) (put name join new ys))) here ∙ h;
        is = inl refl;
      }
      by rest false other false there h =
          let kept = rest h in
          record {
            after = kept.after;
            found = ap (λ c. cond c (Some y) (find (λ y. is_same q (name y)) (put name join new ys))) there
                ∙ kept.found;
            is = kept.is;
          }

-- something passes where something is found
pub list_any-is_some : {X : Type 0} (test : X → Bool) (xs : List X) → list_any test xs ≡ is_some (find test xs)
list_any-is_some test [] = refl
list_any-is_some test (x ∷ xs) = by (list_any-is_some test xs) (test x)
  where
    by : list_any test xs ≡ is_some (find test xs) → (b : Bool)
        → (b || list_any test xs) ≡ is_some (cond b (Some x) (find test xs))
    by rest true = refl
    by rest false = rest

-- a thing whose package isn't there goes last
pub put-new : {X : Type 0} (name : X → PackageName) (join : X → X → X) (new : X) (xs : List X)
    → list_any (λ x. is_same (name new) (name x)) xs ≡ false → put name join new xs ≡ xs ++ new ∷ []
put-new name join new [] h = refl
put-new name join new (x ∷ xs) h = by (put-new name join new xs) (is_same (name new) (name x)) h
  where
    by : (list_any (λ x. is_same (name new) (name x)) xs ≡ false → put name join new xs ≡ xs ++ new ∷ []) → (b : Bool)
        → (b || list_any (λ x. is_same (name new) (name x)) xs) ≡ false
        → (if b then join x new ∷ xs else x ∷ put name join new xs) ≡ x ∷ (xs ++ new ∷ [])
    by rest true h = absurd (true≢false h)
    by rest false h = ap (λ l. x ∷ l) (rest h)

-- a look-up once a thing is put in the place of its own
pub find_placed : {X : Type 0} (name : X → PackageName) (q : PackageName) (new : X) (xs : List X)
    → find (λ x. is_same q (name x)) (put name (λ old new. new) new xs)
    ≡ (if is_same q (name new) then Some new else find (λ x. is_same q (name x)) xs)
find_placed name q new [] = refl
find_placed name q new (x ∷ xs) = by (find_placed name q new xs) (is_same (name new) (name x)) refl
  where
    by : find (λ x. is_same q (name x)) (put name (λ old new. new) new xs)
        ≡ (if is_same q (name new) then Some new else find (λ x. is_same q (name x)) xs)
        → (b : Bool) → is_same (name new) (name x) ≡ b
        → find (λ x. is_same q (name x)) (if b then new ∷ xs else x ∷ put name (λ old new. new) new xs)
        ≡ (if is_same q (name new) then Some new
        else cond (is_same q (name x)) (Some x) (find (λ x. is_same q (name x)) xs))
    by rest true same = here (is_same q (name new)) refl
      where
        here : (b : Bool) → is_same q (name new) ≡ b
            → cond b (Some new) (find (λ x. is_same q (name x)) xs)
            ≡ (if b then Some new else cond (is_same q (name x)) (Some x) (find (λ x. is_same q (name x)) xs))
        here true is = refl
        here false is =
            ap (λ c. cond c (Some x) (find (λ x. is_same q (name x)) xs))
            (sym (sym (is_same-right (name new) (name x) q same) ∙ is))
    by rest false other =
        ap (cond (is_same q (name x)) (Some x)) rest ∙ there (is_same q (name x)) refl (is_same q (name new)) refl
      where
        there : (b : Bool) → is_same q (name x) ≡ b → (c : Bool) → is_same q (name new) ≡ c
            → cond b (Some x) (if c then Some new else find (λ x. is_same q (name x)) xs)
            ≡ (if c then Some new else cond b (Some x) (find (λ x. is_same q (name x)) xs))
        there true is true too = absurd (true≢false (sym (sym (is_same-left q (name new) (name x) too) ∙ is) ∙ other))
        there true is false too = refl
        there false is true too = refl
        there false is false too = refl

-- putting commutes with a function that keeps names and what two things make
pub map_put : {X Y : Type 0} (name : Y → PackageName) (join : X → X → X) (join' : Y → Y → Y) (g : X → Y)
    → ((old new : X) → g (join old new) ≡ join' (g old) (g new))
    → (new : X) (xs : List X) → map g (put (λ x. name (g x)) join new xs) ≡ put name join' (g new) (map g xs)
map_put name join join' g joins new [] = refl
map_put name join join' g joins new (x ∷ xs) =
    by (map_put name join join' g joins new xs) (is_same (name (g new)) (name (g x)))
  where
    by : map g (put (λ x. name (g x)) join new xs) ≡ put name join' (g new) (map g xs) → (b : Bool)
        → map g (if b then join x new ∷ xs else x ∷ put (λ x. name (g x)) join new xs)
        ≡ (if b then join' (g x) (g new) ∷ map g xs else g x ∷ put name join' (g new) (map g xs))
    by rest true = ap (λ y. y ∷ map g xs) (joins x new)
    by rest false = ap (λ ys. g x ∷ ys) rest

-- putting adds a thing where its package isn't there
pub length-put : {X : Type 0} (name : X → PackageName) (join : X → X → X) (new : X) (xs : List X)
    → length (put name join new xs)
    ≡ (if list_any (λ x. is_same (name new) (name x)) xs then length xs else suc (length xs))
length-put name join new [] = refl
length-put name join new (x ∷ xs) = by (length-put name join new xs) (is_same (name new) (name x))
  where
    by : length (put name join new xs)
        ≡ (if list_any (λ x. is_same (name new) (name x)) xs then length xs else suc (length xs))
        → (b : Bool) → length (if b then join x new ∷ xs else x ∷ put name join new xs)
        ≡ (if b || list_any (λ x. is_same (name new) (name x)) xs then suc (length xs) else suc (suc (length xs)))
    by rest true = refl
    by rest false = ap suc rest ∙ inside (list_any (λ x. is_same (name new) (name x)) xs)
      where
        inside : (c : Bool) → suc (if c then length xs else suc (length xs))
            ≡ (if c then suc (length xs) else suc (suc (length xs)))
        inside true = refl
        inside false = refl
