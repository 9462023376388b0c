-- Which value a listed one covers beside itself.
use Rattle.std.proofs.Common.{◌≡◌, ◌<◌, ◌≤◌, ◌+◌, ℕ, zero, suc, Bool, true, false, ◌&&◌, ◌||◌, List, [], ◌∷◌, ◌++◌, length, map}
use Rattle.std.proofs.Common.{Bor, Option, Some, None, refl, sym, ap, ap₂, subst, ◌∙◌, arith, inl, inr, append_assoc, drop}
use Rattle.std.specs.Prelude.{Contains, IsPermutation, bytes_eq, nat_eq, nat_le, slice_index_or}
use Rattle.std.specs.Bool.{Decides}
use Rattle.std.specs.List.{AllByRecursion, list_all, list_any}
use Rattle.std.specs.Option.{unwrap_or}
use Rattle.std.proofs.lemmas.Bool.{false≢true}
use Rattle.std.proofs.lemmas.Option.{none-some}
use Rattle.der_core.proofs.Numbers.{some_is}
use Rattle.std.proofs.lemmas.Bool.Decides.{Decides-and, Decides-eqb, Decides-like, nat_tests, same_from_decides}
use Rattle.std.proofs.lemmas.List.{drop_more, get_or-map, get_or_default, length-map}
use Rattle.std.proofs.lemmas.List.Elements.{Contains-append_cases, Contains-append_left, Contains-append_right}
use Rattle.std.proofs.lemmas.List.Sorted.{Contains-permutation, IsPermutation-sym, list_any-IsPermutation}
use Rattle.std.proofs.lemmas.Slice.Eq.{bytes_eq-Decides}
use Rattle.package_attrs.specs.AttributeTypes.{firmware_package_id, target_hardware_ids}
use Rattle.package_attrs.specs.Covers.{are_among, is_late, preferred_of}
use Rattle.package_attrs.specs.ListReading.{targets_of}
use Rattle.constraint_meet.specs.Covers.{covers}
use Rattle.constraint_meet.specs.Places.{Key}
use Rattle.constraint_meet.proofs.TestLemmas.{all_tell, any_tells}
use Rattle.explain_text.specs.Keys.{AreOf, are_listed, is_key, is_late_name, key_list, types_from, types_in, versions_in}
use Rattle.explain_text.specs.Ordered.{lent}
use Rattle.explain_text.proofs.Elements.{contains_map, contains_none, contains_unmap, each_of, holds_of}

-- ---- tests of lists

-- what each test tells, the tests tell of all
every : {X : Type 0} (P : X → Type 0) → ((x : X) → P x) → (xs : List X) → AllByRecursion P xs
every P all [] = tt
every P all (x ∷ xs) = (all x, every P all xs)

pub any_is : {X : Type 0} (p : X → Bool) (xs : List X) → Decides (list_any p xs) ((x : X) × Contains xs x × (p x ≡ true))
any_is p xs =
    any_tells p (λ x. p x ≡ true) xs (every (λ x. Decides (p x) (p x ≡ true)) (λ x. (λ e. e, λ e. e)) xs)

-- lists of the same elements
pub any_alike : {X : Type 0} (p : X → Bool) (xs ys : List X) → ((x : X) → Contains xs x → Contains ys x)
    → ((x : X) → Contains ys x → Contains xs x) → list_any p xs ≡ list_any p ys
any_alike p xs ys to from =
    same_from_decides (list_any p xs) (list_any p ys) (any_is p xs)
    (Decides-like (list_any p ys) (λ f. (f.0, from f.0 f.1, f.2)) (λ f. (f.0, to f.0 f.1, f.2)) (any_is p ys))

pub any_same : {X : Type 0} (p q : X → Bool) → ((x : X) → p x ≡ q x) → (xs : List X) → list_any p xs ≡ list_any q xs
any_same p q same [] = refl
any_same p q same (x ∷ xs) = ap₂ (λ (a b : Bool). a || b) (same x) (any_same p q same xs)

pub any_never : {X : Type 0} (p : X → Bool) → ((x : X) → p x ≡ false) → (xs : List X) → list_any p xs ≡ false
any_never p never [] = refl
any_never p never (x ∷ xs) = rw (never x) (any_never p never xs)

le_tells : (m n : ℕ) → Decides (nat_le m n) (m ≤ n)
le_tells m n = (λ e. grind (e, arith, nat_tests), λ h. grind (h, arith, nat_tests))

-- whether a key is there
pub key_tells : (keys : List Key) (id : List ℕ) (number : ℕ) → Decides (is_key keys id number) (Contains keys (id, number))
key_tells keys id number =
    Decides-like (is_key keys id number)
    (λ f. subst (Contains keys) (ap₂ (λ (t : List ℕ) (n : ℕ). (t, n)) f.2.0 f.2.1) f.1)
    (λ at. ((id, number), at, (refl, refl)))
    (any_tells (λ (key : Key). bytes_eq key.0 id && nat_eq key.1 number) (λ (key : Key). (key.0 ≡ id) × (key.1 ≡ number)) keys
    (every (λ (key : Key). Decides (bytes_eq key.0 id && nat_eq key.1 number) ((key.0 ≡ id) × (key.1 ≡ number)))
    (λ key. Decides-and (bytes_eq key.0 id) (nat_eq key.1 number) (bytes_eq-Decides key.0 id) (Decides-eqb key.1 number))
    keys))

-- whether one of no greater number is
pub up_to_tells : (keys : List Key) (id : List ℕ) (number : ℕ)
    → Decides (list_any (λ key. bytes_eq key.0 id && nat_le key.1 number) keys)
    ((key : Key) × Contains keys key × ((key.0 ≡ id) × (key.1 ≤ number)))
up_to_tells keys id number =
    any_tells (λ (key : Key). bytes_eq key.0 id && nat_le key.1 number) (λ (key : Key). (key.0 ≡ id) × (key.1 ≤ number)) keys
    (every (λ (key : Key). Decides (bytes_eq key.0 id && nat_le key.1 number) ((key.0 ≡ id) × (key.1 ≤ number)))
    (λ key. Decides-and (bytes_eq key.0 id) (nat_le key.1 number) (bytes_eq-Decides key.0 id) (le_tells key.1 number))
    keys)

-- ---- package identifiers

-- whether a value is late is told by the names that are kept
pub late_in : (id : List ℕ) (version : ℕ) (values : List (List ℕ))
    → list_any (λ (key : Key). bytes_eq key.0 id && nat_le key.1 version) (versions_in values)
    ≡ list_any (λ one. is_late (preferred_of one) (Some (id, version))) values
late_in id version [] = refl
late_in id version (v ∷ more) = by (preferred_of v) (late_in id version more)
  where
    by : (o : Option Key)
        → list_any (λ (key : Key). bytes_eq key.0 id && nat_le key.1 version) (versions_in more)
        ≡ list_any (λ one. is_late (preferred_of one) (Some (id, version))) more
        → list_any (λ (key : Key). bytes_eq key.0 id && nat_le key.1 version) (key_list o ++ versions_in more)
        ≡ (is_late o (Some (id, version)) || list_any (λ one. is_late (preferred_of one) (Some (id, version))) more)
    by None later = later
    by (Some key) later = ap (λ (b : Bool). (bytes_eq key.0 id && nat_le key.1 version) || b) later

pub late_by : (values : List (List ℕ)) (keys : List Key) → IsPermutation (versions_in values) keys → (value id : List ℕ)
    (version : ℕ) → preferred_of value ≡ Some (id, version)
    → list_any (λ (key : Key). bytes_eq key.0 id && nat_le key.1 version) keys ≡ is_late_name values value
late_by values keys same value id version is =
    sym (list_any-IsPermutation (λ (key : Key). bytes_eq key.0 id && nat_le key.1 version) (versions_in values) keys same)
    ∙ late_in id version values
    ∙ ap (λ (o : Option Key). list_any (λ one. is_late (preferred_of one) o) values) (sym is)

pub never_late : (values : List (List ℕ)) (value : List ℕ) → preferred_of value ≡ None → false ≡ is_late_name values value
never_late values value is =
    sym (any_never (λ one. is_late (preferred_of one) (preferred_of value))
    (λ one. ap (λ (o : Option Key). is_late (preferred_of one) o) is ∙ none_late (preferred_of one)) values)
  where
    none_late : (o : Option Key) → is_late o None ≡ false
    none_late None = refl
    none_late (Some least) = refl

-- ---- hardware types

-- the value at a place lists this type
abbrev pub Names : ℕ → List (List ℕ) → Key → Type 0
Names start values key =
    (k : ℕ) × (v : List ℕ) × (k < length values) × (slice_index_or values k v ≡ v) × (key.1 ≡ start + k)
    × Contains (types_in v) key.0

pub names_of : (start : ℕ) (values : List (List ℕ)) (key : Key) → Contains (types_from start values) key
    → Names start values key
names_of start [] key at = absurd (contains_none key at)
names_of start (v ∷ more) key at =
    elim (Contains-append_cases (map (λ (id : List ℕ). (id, start)) (types_in v)) (types_from (suc start) more) key at) [
      | inl here ↦
          let found = contains_unmap (λ (id : List ℕ). (id, start)) (types_in v) key here in (
            zero,
            v,
            omega arith,
            refl,
            ap (λ (k : Key). k.1) (sym found.2) ∙ omega arith,
            subst (Contains (types_in v)) (ap (λ (k : Key). k.0) found.2) found.1,
          )
      | inr later ↦
          let (k, w, within, is, place, lists) = names_of (suc start) more key later in
          (suc k, w, omega (arith, within), is, omega (arith, place), lists)
    ]

pub of_names : (start : ℕ) (values : List (List ℕ)) (k : ℕ) (v id : List ℕ) → k < length values
    → slice_index_or values k v ≡ v → Contains (types_in v) id → Contains (types_from start values) (id, start + k)
of_names start [] k v id within is lists = absurd (omega (arith, within))
of_names start (w ∷ more) zero v id within is lists =
    let place : start + 0 ≡ start = omega arith in
    rw place
    (Contains-append_left (map (λ (t : List ℕ). (t, start)) (types_in w)) (types_from (suc start) more) (id, start)
    (contains_map (λ (t : List ℕ). (t, start)) (types_in w) id
    (subst (λ (u : List ℕ). Contains (types_in u) id) (sym is) lists)))
of_names start (w ∷ more) (suc k) v id within is lists =
    let place : start + suc k ≡ suc start + k = omega arith in
    rw place
    (Contains-append_right (map (λ (t : List ℕ). (t, start)) (types_in w)) (types_from (suc start) more)
    (id, suc start + k) (of_names (suc start) more k v id (omega (arith, within)) is lists))

-- a value lists each of these
abbrev pub ListsEach : List (List ℕ) → List ℕ → Type 0
ListsEach those v = (these : List (List ℕ)) × (targets_of v ≡ Some these) × AllByRecursion (Contains these) those

among_tells : (these : List (List ℕ)) (target : List ℕ)
    → Decides (list_any (λ one. bytes_eq one target) these) (Contains these target)
among_tells these target =
    Decides-like (list_any (λ one. bytes_eq one target) these)
    (λ f. subst (Contains these) ((bytes_eq-Decides f.0 target).0 f.2) f.1)
    (λ at. (target, at, (bytes_eq-Decides target target).1 refl))
    (any_is (λ one. bytes_eq one target) these)

each_tells : (those : List (List ℕ)) (v : List ℕ) → Decides (are_among (targets_of v) (Some those)) (ListsEach those v)
each_tells those v = by (targets_of v) refl
  where
    by : (o : Option (List (List ℕ))) → targets_of v ≡ o → Decides (are_among o (Some those)) (ListsEach those v)
    by None is = (λ e. absurd (false≢true e), λ f. absurd (none-some f.0 (sym is ∙ f.1)))
    by (Some these) is =
        let tells = all_tell (λ target. list_any (λ one. bytes_eq one target) these) (Contains these) those
        (every (λ target. Decides (list_any (λ one. bytes_eq one target) these) (Contains these target)) (among_tells these)
        those) in (
          λ e. (these, is, tells.0 e),
          λ f.
              tells.1
              (subst (λ (ts : List (List ℕ)). AllByRecursion (Contains ts) those) (some_is f.0 these (sym f.1 ∙ is)) f.2),
        )

module _ (values : List (List ℕ)) (keys : List Key) (same : IsPermutation (types_from 0 values) keys) where
  at_place : (id : List ℕ) (place : ℕ) → Contains keys (id, place) → Names 0 values (id, place)
  at_place id place at =
      names_of 0 values (id, place)
      (Contains-permutation keys (types_from 0 values) (id, place) (IsPermutation-sym (types_from 0 values) keys same) at)

  module _ (those : List (List ℕ)) (id : List ℕ) (one : Contains those id) (places : List Key) (are : AreOf keys id places) where
    abbrev AtOne : Type 0
    AtOne = (key : Key) × Contains places key × AllByRecursion (λ t. Contains keys (t, key.1)) those

    to : AtOne → (v : List ℕ) × Contains values v × ListsEach those v
    to (key, at, all) = by (at_place key.0 key.1 ((are key).0 at).0)
      where
        by : Names 0 values (key.0, key.1) → (v : List ℕ) × Contains values v × ListsEach those v
        by (k, v, within, is, place, lists) = (v, (k, within, is), by_list (targets_of v) refl)
          where
            also : (t : List ℕ) → Contains those t → Contains (types_in v) t
            also t in_those = elsewhere (at_place t key.1 (holds_of (λ u. Contains keys (u, key.1)) those t all in_those))
              where
                elsewhere : Names 0 values (t, key.1) → Contains (types_in v) t
                elsewhere (j, w, within', is', place', lists') =
                    let here : j ≡ k = omega (arith, place, place') in
                    let value : w ≡ v = sym (subst (λ (i : ℕ). slice_index_or values i w ≡ w) here is')
                    ∙ get_or_default values k w v within ∙ is in
                    subst (λ (u : List ℕ). Contains (types_in u) t) value lists'

            by_list : (o : Option (List (List ℕ))) → targets_of v ≡ o → ListsEach those v
            by_list None none =
                absurd (contains_none id
                (subst (λ (o : Option (List (List ℕ))). Contains (unwrap_or o []) id) none (also id one)))
            by_list (Some these) some = (
              these,
              some,
              each_of (Contains these) those
                  (λ t in_those. subst (λ (o : Option (List (List ℕ))). Contains (unwrap_or o []) t) some (also t in_those)),
            )

    from : (v : List ℕ) × Contains values v × ListsEach those v → AtOne
    from (v, (k, within, is), (these, some, all)) =
        ((id, k), (are (id, k)).1 (kept id one, refl), each_of (λ t. Contains keys (t, k)) those kept)
      where
        kept : (t : List ℕ) → Contains those t → Contains keys (t, k)
        kept t in_those =
            let place : 0 + k ≡ k = omega arith in
            subst (λ (i : ℕ). Contains keys (t, i)) place
            (Contains-permutation (types_from 0 values) keys (t, 0 + k) same
            (of_names 0 values k v t within is
            (subst (λ (o : Option (List (List ℕ))). Contains (unwrap_or o []) t) (sym some)
            (holds_of (Contains these) those t all in_those))))

    pub listed_by : list_any (λ (key : Key). list_all (λ t. is_key keys t key.1) those) places
        ≡ list_any (λ one. are_among (targets_of one) (Some those)) values
    listed_by =
        same_from_decides (list_any (λ (key : Key). list_all (λ t. is_key keys t key.1) those) places)
        (list_any (λ one. are_among (targets_of one) (Some those)) values)
        (Decides-like (list_any (λ (key : Key). list_all (λ t. is_key keys t key.1) those) places) to from
        (any_tells (λ (key : Key). list_all (λ t. is_key keys t key.1) those)
        (λ (key : Key). AllByRecursion (λ t. Contains keys (t, key.1)) those) places
        (every (λ (key : Key). Decides (list_all (λ t. is_key keys t key.1) those)
        (AllByRecursion (λ t. Contains keys (t, key.1)) those))
        (λ key. all_tell (λ t. is_key keys t key.1) (λ t. Contains keys (t, key.1)) those
        (every (λ t. Decides (is_key keys t key.1) (Contains keys (t, key.1))) (λ t. key_tells keys t key.1) those))
        places)))
        (any_tells (λ one. are_among (targets_of one) (Some those)) (ListsEach those) values
        (every (λ one. Decides (are_among (targets_of one) (Some those)) (ListsEach those one)) (each_tells those) values))

-- those of one value more
pub types_more : (values : List (Bor (List ℕ))) (i place : ℕ) (d : Bor (List ℕ)) (keys : List Key) → place ≡ i
    → i < length values → keys ++ types_from place (drop place (lent values))
    ≡ (keys ++ map (λ id. (id, place)) (types_in (slice_index_or values i d).now))
    ++ types_from (place + 1) (drop (place + 1) (lent values))
types_more values i place d keys same within =
    ap (λ (vs : List (List ℕ)). keys ++ types_from place vs)
    (drop_more (lent values) place d.now
    (omega (arith, same, within, length-map values (λ (v : Bor (List ℕ)). v.now)))
    ∙ ap (λ (v : List ℕ). v ∷ drop (place + 1) (lent values)) value)
    ∙ ap (λ (next : ℕ). keys ++ (map (λ (id : List ℕ). (id, place)) (types_in (slice_index_or values i d).now)
    ++ types_from next (drop (place + 1) (lent values)))) next
    ∙ sym (append_assoc keys (map (λ (id : List ℕ). (id, place)) (types_in (slice_index_or values i d).now))
    (types_from (place + 1) (drop (place + 1) (lent values))))
  where
    next : suc place ≡ place + 1
    next = omega arith

    value : slice_index_or (lent values) place d.now ≡ (slice_index_or values i d).now
    value =
        subst (λ (k : ℕ). slice_index_or (lent values) k d.now ≡ (slice_index_or values i d).now) (sym same)
        (get_or-map (λ (v : Bor (List ℕ)). v.now) values i d d.now within)

pub never_listed : (values : List (List ℕ)) (value : List ℕ) → targets_of value ≡ None → false ≡ are_listed values value
never_listed values value is =
    sym (any_never (λ one. are_among (targets_of one) (targets_of value))
    (λ one. ap (λ (o : Option (List (List ℕ))). are_among (targets_of one) o) is ∙ by (targets_of one)) values)
  where
    by : (o : Option (List (List ℕ))) → are_among o None ≡ false
    by None = refl
    by (Some these) = refl

-- ---- the three together

split : (p t e l a E L A : Bool)
    → ((e || ((p && (e || l)) || (t && (e || a)))) || (E || ((p && L) || (t && A))))
    ≡ ((e || E) || ((p && (l || L)) || (t && (a || A))))
split p t true l a E L A = refl
split false false false l a E L A = refl
split true false false true a true L A = refl
split true false false true a false L A = refl
split true false false false a E L A = refl
split false true false l true true L A = refl
split false true false l true false L A = refl
split false true false l false E L A = refl
split true true false true a true L A = refl
split true true false true a false L A = refl
split true true false false true true L A = refl
split true true false false true false true A = refl
split true true false false true false false A = refl
split true true false false false E L A = refl

pub covers_by : (kind value : List ℕ) (values : List (List ℕ))
    → list_any (λ one. covers kind one value) values
    ≡ (list_any (λ one. bytes_eq one value) values
    || ((bytes_eq kind firmware_package_id && is_late_name values value)
    || (bytes_eq kind target_hardware_ids && are_listed values value)))
covers_by kind value [] = by (bytes_eq kind firmware_package_id) (bytes_eq kind target_hardware_ids)
  where
    by : (p t : Bool) → false ≡ (false || ((p && false) || (t && false)))
    by true true = refl
    by true false = refl
    by false true = refl
    by false false = refl
covers_by kind value (one ∷ more) =
    ap (λ (b : Bool). covers kind one value || b) (covers_by kind value more)
    ∙ split (bytes_eq kind firmware_package_id) (bytes_eq kind target_hardware_ids) (bytes_eq one value)
    (is_late (preferred_of one) (preferred_of value)) (are_among (targets_of one) (targets_of value))
    (list_any (λ one. bytes_eq one value) more) (is_late_name more value) (are_listed more value)
