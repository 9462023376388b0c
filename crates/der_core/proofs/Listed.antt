-- Values one after the other: read one more, read to the end, and read exactly.
use Rattle.std.proofs.Common.{◌≡◌, ℕ, zero, suc, ◌<◌, ◌≤◌, eqb}
use Rattle.std.proofs.Common.{List, [], ◌∷◌, ◌++◌, length, Option, Some, None, refl, sym, ap}
use Rattle.std.proofs.Common.{subst, ◌∙◌, arith, inl, inr}
use Rattle.std.specs.List.{flat_map, AllByRecursion}
use Rattle.std.proofs.lemmas.Bool.{eq-eqb, ne_eqb, cases_Bool}
use Rattle.std.proofs.lemmas.Option.{none-some}
use Rattle.der_core.specs.Reading.{◌>>?◌}
use Rattle.der_core.specs.Shapes.{Front}
use Rattle.der_core.specs.Shapes.{listed_within, listed, IsFront, IsWhole}
use Rattle.der_core.proofs.Digits.{AreOctets, AreOctets-right}
use Rattle.der_core.proofs.Numbers.{some_bind, some_is}

listed_turns : {V : Type 0} (front : Front V)
    → ((bytes : List ℕ) (x : V × List ℕ) → front bytes ≡ Some x → length x.1 < length bytes)
    → (turns more : ℕ) (bytes : List ℕ) → length bytes ≤ turns → length bytes ≤ more
    → listed_within turns front bytes ≡ listed_within more front bytes
listed_turns front falls zero zero bytes le le' = refl
listed_turns front falls zero (suc more) bytes le le' = rw (eq-eqb (length bytes) 0 (omega (arith, le))) refl
listed_turns front falls (suc turns) zero bytes le le' = rw (eq-eqb (length bytes) 0 (omega (arith, le'))) refl
listed_turns {V} front falls (suc turns) (suc more) bytes le le' = elim (cases_Bool (eqb (length bytes) 0)) [
  | inl is ↦ rw is refl
  | inr isnt ↦
      rw isnt (by_case
      (λ x less. listed_turns front falls turns more x.1 (omega (arith, less, le)) (omega (arith, less, le')))
      (front bytes) refl)
]
  where
    by_case :
        ((x : V × List ℕ) → length x.1 < length bytes
        → listed_within turns front x.1 ≡ listed_within more front x.1) → (r : Option (V × List ℕ))
        → front bytes ≡ r
        → (r >>? λ x. listed_within turns front x.1 >>? λ vs. Some (x.0 ∷ vs)) ≡
        (r >>? λ x. listed_within more front x.1 >>? λ vs. Some (x.0 ∷ vs))
    by_case rest None is = refl
    by_case rest (Some x) is = rw (rest x (falls bytes x is)) refl

-- one value more at the front, as a loop reads it
pub listed_more : {V : Type 0} (front : Front V)
    → ((bytes : List ℕ) (x : V × List ℕ) → front bytes ≡ Some x → length x.1 < length bytes)
    → (bytes : List ℕ) (x : V × List ℕ) → front bytes ≡ Some x
    → listed front bytes ≡ (listed front x.1 >>? λ vs. Some (x.0 ∷ vs))
unfolding listed
listed_more {V} front falls bytes x is = go bytes (falls bytes x is) is
  where
    go : (bytes : List ℕ) → length x.1 < length bytes → front bytes ≡ Some x
        → listed_within (length bytes) front bytes ≡ (listed_within (length x.1) front x.1 >>? λ vs. Some (x.0 ∷ vs))
    go [] less is = absurd (omega (arith, less))
    go (b ∷ bs) less is =
        rw (
          ne_eqb (suc (length bs)) 0 (λ e. omega arith),
          is,
          listed_turns front falls (length bs) (length x.1) x.1 (omega (arith, less)) (omega arith),
        ) refl

pub listed_none : {V : Type 0} (front : Front V) (bytes : List ℕ) → 0 < length bytes → front bytes ≡ None
    → listed front bytes ≡ None
unfolding listed
listed_none front [] some is = absurd (omega (arith, some))
listed_none front (b ∷ bs) some is = rw (ne_eqb (suc (length bs)) 0 (λ e. omega arith), is) refl

pub listed_end : {V : Type 0} (front : Front V) → listed front [] ≡ Some []
unfolding listed
listed_end front = refl

pub listed-whole : {V : Type 0} {text : V → List ℕ} {IsValid : V → Type 0} {read : Front V}
    → ((v : V) → IsValid v → 0 < length (text v))
    → ((bytes : List ℕ) (x : V × List ℕ) → read bytes ≡ Some x → length x.1 < length bytes)
    → IsFront text IsValid read → IsWhole (flat_map text) (AllByRecursion IsValid) (listed read)
listed-whole {V} {text} {IsValid} {read} some falls laws =
    record { takes = λ bytes vs octets e. takes (length bytes) bytes vs (omega arith) octets e; again = again }
  where
    step : (b : ℕ) (bs : List ℕ) (vs : List V) → AreOctets (b ∷ bs) → listed read (b ∷ bs) ≡ Some vs
        → ((x : V × List ℕ) (ws : List V) → length x.1 < suc (length bs) → AreOctets x.1
        → listed read x.1 ≡ Some ws → AllByRecursion IsValid ws × (x.1 ≡ flat_map text ws))
        → (r : Option (V × List ℕ)) → read (b ∷ bs) ≡ r → AllByRecursion IsValid vs × (b ∷ bs ≡ flat_map text vs)
    step b bs vs octets e rest None is = absurd (none-some vs (sym (listed_none read (b ∷ bs) (omega arith) is) ∙ e))
    step b bs vs octets e rest (Some x) is =
        let r = some_bind (listed read x.1) (λ ws. Some (x.0 ∷ ws)) vs
        (sym (listed_more read falls (b ∷ bs) x is) ∙ e) in
        let t = laws.takes (b ∷ bs) x octets is in
        let u = rest x r.0 (falls (b ∷ bs) x is) (AreOctets-right (text x.0) x.1 (subst AreOctets t.1 octets)) r.1 in
        subst (λ (y : List V). AllByRecursion IsValid y × (b ∷ bs ≡ flat_map text y))
        (some_is (x.0 ∷ r.0) vs r.2) ((t.0, u.0), t.1 ∙ ap (λ (z : List ℕ). text x.0 ++ z) u.1)

    takes : (n : ℕ) (bytes : List ℕ) (vs : List V) → length bytes ≤ n → AreOctets bytes
        → listed read bytes ≡ Some vs → AllByRecursion IsValid vs × (bytes ≡ flat_map text vs)
    takes n [] vs le octets e =
        subst (λ (x : List V). AllByRecursion IsValid x × ([] ≡ flat_map text x))
        (some_is [] vs (sym (listed_end read) ∙ e)) (tt, refl)
    takes zero (b ∷ bs) vs le octets e = absurd (omega (arith, le))
    takes (suc n) (b ∷ bs) vs le octets e =
        step b bs vs octets e (λ x ws less are is. takes n x.1 ws (omega (arith, less, le)) are is)
        (read (b ∷ bs)) refl

    again : (vs : List V) → AllByRecursion IsValid vs → listed read (flat_map text vs) ≡ Some vs
    again [] valid = listed_end read
    again (v ∷ vs) valid =
        listed_more read falls (text v ++ flat_map text vs) (v, flat_map text vs)
        (laws.again v (flat_map text vs) valid.0) ∙ rw (again vs valid.1) refl
