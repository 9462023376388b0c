-- Octets that read as subidentifiers spell them, and what spells subidentifiers reads as them.
use Rattle.std.proofs.Common.{◌≡◌, ℕ, zero, suc, ◌+◌, ◌-◌, ◌*◌, ◌/◌, ◌%◌, ◌^◌, ◌<◌, ◌≤◌, Bool, true, false}
use Rattle.std.proofs.Common.{cond, eqb, ltb, ◌&&◌, ◌||◌, List, [], ◌∷◌, ◌++◌, map, length, get_or, Option}
use Rattle.std.proofs.Common.{Some, None, refl, sym, ap, subst, ◌∙◌, append_assoc, arith, inl, inr}
use Rattle.std.specs.Prelude.{is_some, IsTrue, ◌↔◌, Result, Ok, Err, IfOk}
use Rattle.std.specs.List.{AllByRecursion}
use Rattle.std.specs.Int.Digits.{digits_of, number_from_digits_after, AllBelowBase}
use Rattle.std.proofs.lemmas.Bool.{cases_lt, ltb-false, ltb-true, lt-ltb, le-ltb, eqb-false, eq-eqb, ne_eqb}
use Rattle.std.proofs.lemmas.Bool.{cases_eq, or_parts, and_cases, and_parts}
use Rattle.std.proofs.lemmas.Option.{cond_some}
use Rattle.std.proofs.lemmas.Int.Digits.{number_digits_of, all_below_base_digits_of, first_digits_of, number_after_ge}
use Rattle.std.proofs.lemmas.List.{map_push, append-nil}
use Rattle.std.proofs.lemmas.Nat.{div-mul-add, mod-mul-add}
use Rattle.der_core.specs.Objects.{subidentifier, oid_contents, AreSmall, IsOid}
use Rattle.der_core.specs.Reading.{◌>>?◌, subidentifier_step, subidentifiers_after, subidentifiers_of, oid_of}
use Rattle.der_core.proofs.Digits.{AreOctets, AreOctets-tail, digits_more}
use Rattle.der_core.proofs.Numbers.{some_bind, some_is, some_guard}

-- ---- one octet after the other, as a loop does

pub stops : (n o : ℕ) (os : List ℕ) → subidentifier_step n o ≡ None
    → is_some (subidentifiers_after n (o ∷ os)) ≡ false
unfolding subidentifiers_after
stops n o os e = rw e refl

pub goes_on : (n o m : ℕ) (os : List ℕ) → subidentifier_step n o ≡ Some m
    → is_some (subidentifiers_after n (o ∷ os)) ≡ is_some (subidentifiers_after m os)
unfolding subidentifiers_after subidentifier_step
goes_on n o m os e =
    let g = some_guard ((eqb n 0 && eqb o 128) || ltb (2 ^ 121 - 1) n)
    (cond (ltb o 128) (Some 0) (Some (n * 128 + (o - 128)))) m e in
    elim (cases_lt o 128) [
      | inl lt ↦
          let is : Some 0 ≡ Some m = rw (lt-ltb o 128 lt) at g.1 in
          subst (λ (k : ℕ). is_some (subidentifiers_after n (o ∷ os)) ≡ is_some (subidentifiers_after k os))
          (some_is 0 m is) (rw (g.0, lt-ltb o 128 lt) (last (subidentifiers_after 0 os)))
      | inr le ↦
          let is : Some (n * 128 + (o - 128)) ≡ Some m = rw (le-ltb o 128 le) at g.1 in
          subst (λ (k : ℕ). is_some (subidentifiers_after n (o ∷ os)) ≡ is_some (subidentifiers_after k os))
          (some_is _ m is) (rw (g.0, le-ltb o 128 le) refl)
    ]
  where
    last : (r : Option (List ℕ)) → is_some (r >>? λ ss. Some ((n * 128 + o) ∷ ss)) ≡ is_some r
    last (Some ss) = refl
    last None = refl

pub ends : (n : ℕ) → is_some (subidentifiers_after n []) ≡ eqb n 0
unfolding subidentifiers_after
ends n = by_case (eqb n 0)
  where
    by_case : (b : Bool) → is_some (cond {A = Option (List ℕ)} b (Some []) None) ≡ b
    by_case true = refl
    by_case false = refl

-- ---- both directions

-- the octets of a number whose last octet is still to come
abbrev begun : ℕ → List ℕ
begun n = map (λ d. 128 + d) (digits_of 128 n)

subidentifier_of : (n o : ℕ) → o < 128 → subidentifier (n * 128 + o) ≡ begun n ++ o ∷ []
unfolding subidentifier
subidentifier_of n o lt = rw (div-mul-add n 128 o lt, mod-mul-add n 128 o lt) refl

begun_more : (n d : ℕ) → d < 128 → 0 < n + d → begun (n * 128 + d) ≡ begun n ++ (128 + d) ∷ []
begun_more n d lt pos =
    ap (map (λ k. 128 + k)) (digits_more 128 n d (omega arith) lt pos) ∙ map_push (λ k. 128 + k) (digits_of 128 n) d

abbrev Taken : ℕ → List ℕ → List ℕ → Type 0
Taken n os ss = AllByRecursion (λ s. s < 2 ^ 128) ss × (begun n ++ os ≡ oid_contents ss)

take_last : (n o : ℕ) (os ss : List ℕ) → o < 128 → n ≤ 2 ^ 121 - 1
    → (subidentifiers_after 0 os >>? λ ss. Some ((n * 128 + o) ∷ ss)) ≡ Some ss
    → ((k : ℕ) (ts : List ℕ) → subidentifiers_after k os ≡ Some ts → Taken k os ts) → Taken n (o ∷ os) ss
take_last n o os ss lt small e rec =
    let b = some_bind (subidentifiers_after 0 os) (λ ss. Some ((n * 128 + o) ∷ ss)) ss e in
    let t = rec 0 b.0 b.1 in
    subst (λ (x : List ℕ). Taken n (o ∷ os) x) (some_is ((n * 128 + o) ∷ b.0) ss b.2) (
      (omega arith, t.0),
      rw (subidentifier_of n o lt, append_assoc (begun n) (o ∷ []) (oid_contents b.0))
          (ap (λ (x : List ℕ). begun n ++ o ∷ x) t.1),
    )

take_more : (n o : ℕ) (os ss : List ℕ) → 128 ≤ o → o < 256 → (eqb n 0 && eqb o 128) ≡ false
    → subidentifiers_after (n * 128 + (o - 128)) os ≡ Some ss
    → ((k : ℕ) (ts : List ℕ) → subidentifiers_after k os ≡ Some ts → Taken k os ts) → Taken n (o ∷ os) ss
take_more n o os ss le octet test e rec =
    let t = rec (n * 128 + (o - 128)) ss e in
    let pos : 0 < n + (o - 128) = elim (and_cases (eqb n 0) (eqb o 128) test) [
      | inl a ↦
          let ne = eqb-false n 0 a in
          elim (cases_lt 0 n) [ inl l ↦ omega arith | inr z ↦ absurd (ne (omega arith)) ]
      | inr b ↦
          let ne = eqb-false o 128 b in
          elim (cases_lt 128 o) [ inl l ↦ omega arith | inr z ↦ absurd (ne (omega arith)) ]
    ] in
    let is-o : 128 + (o - 128) ≡ o = omega arith in
    let more : begun (n * 128 + (o - 128)) ≡ begun n ++ o ∷ [] =
    begun_more n (o - 128) (omega arith) pos ∙ ap (λ (k : ℕ). begun n ++ k ∷ []) is-o in
    (t.0, sym (append_assoc (begun n) (o ∷ []) os) ∙ ap (λ (x : List ℕ). x ++ os) (sym more) ∙ t.1)

take_step : (n o m : ℕ) (os ss : List ℕ) → o < 256 → subidentifier_step n o ≡ Some m
    → cond (ltb o 128) (subidentifiers_after 0 os >>? λ ss. Some ((n * 128 + o) ∷ ss))
    (subidentifiers_after m os) ≡ Some ss
    → ((k : ℕ) (ts : List ℕ) → subidentifiers_after k os ≡ Some ts → Taken k os ts) → Taken n (o ∷ os) ss
unfolding subidentifier_step
take_step n o m os ss octet step e rec =
    let g = some_guard ((eqb n 0 && eqb o 128) || ltb (2 ^ 121 - 1) n)
    (cond (ltb o 128) (Some 0) (Some (n * 128 + (o - 128)))) m step in
    let tests = or_parts (eqb n 0 && eqb o 128) (ltb (2 ^ 121 - 1) n) g.0 in
    elim (cases_lt o 128) [
      | inl lt ↦ take_last n o os ss lt (ltb-false _ _ tests.1) (rw (lt-ltb o 128 lt) at e) rec
      | inr le ↦
          let is : Some (n * 128 + (o - 128)) ≡ Some m = rw (le-ltb o 128 le) at g.1 in
          let e' : subidentifiers_after m os ≡ Some ss = rw (le-ltb o 128 le) at e in
          take_more n o os ss le octet tests.0 (ap (λ (k : ℕ). subidentifiers_after k os) (some_is _ _ is) ∙ e') rec
    ]

subidentifiers_take : (n : ℕ) (os ss : List ℕ) → AreOctets os → subidentifiers_after n os ≡ Some ss → Taken n os ss
unfolding subidentifiers_after
subidentifiers_take n [] ss octets e = elim (cases_eq n 0) [
  | inl z ↦
      let e' : Some [] ≡ Some ss = rw (eq-eqb n 0 z) at e in
      subst (λ (x : List ℕ). Taken n [] x) (some_is [] ss e') (tt, rw z refl)
  | inr nz ↦ let wrong : None ≡ Some ss = rw (ne_eqb n 0 nz) at e in absurd cc
]
subidentifiers_take n (o ∷ os) ss octets e =
    let step = some_bind (subidentifier_step n o)
    (λ m. cond (ltb o 128) (subidentifiers_after 0 os >>? λ ss. Some ((n * 128 + o) ∷ ss)) (subidentifiers_after m os))
    ss e in
    take_step n o step.0 os ss (octets 0) step.1 step.2
    (λ k ts h. subidentifiers_take k os ts (AreOctets-tail o os octets) h)

-- ---- what spells subidentifiers

last_again : (n o : ℕ) (rest : List ℕ) → o < 128 → n ≤ 2 ^ 121 - 1
    → subidentifiers_after n (o ∷ rest) ≡ (subidentifiers_after 0 rest >>? λ ss. Some ((n * 128 + o) ∷ ss))
unfolding subidentifiers_after subidentifier_step
last_again n o rest lt small =
    let other : eqb o 128 ≡ false = ne_eqb o 128 (λ e. omega arith) in
    rw (other, and_false (eqb n 0), le-ltb (2 ^ 121 - 1) n small, lt-ltb o 128 lt) refl
  where
    and_false : (b : Bool) → (b && false) ≡ false
    and_false true = refl
    and_false false = refl

-- digits that are not the last
front_again : (n : ℕ) (ds rest : List ℕ) → AllBelowBase 128 ds → 0 < n + get_or ds 0 1
    → number_from_digits_after 128 n ds ≤ 2 ^ 121 - 1
    → subidentifiers_after n (map (λ d. 128 + d) ds ++ rest) ≡ subidentifiers_after
    (number_from_digits_after 128 n ds) rest
unfolding subidentifiers_after subidentifier_step
front_again n [] rest below pos small = refl
front_again n (d ∷ ds) rest below pos small =
    let grows : n * 128 + d ≤ number_from_digits_after 128 (n * 128 + d) ds =
    number_after_ge 128 (n * 128 + d) ds (omega arith) in
    let rest-is = front_again (n * 128 + d) ds rest below.1 (omega arith) small in
    let test : (eqb n 0 && eqb (128 + d) 128) ≡ false = elim (cases_lt 0 n) [
      | inl lt ↦ rw (ne_eqb n 0 (λ e. omega arith)) refl
      | inr z ↦ rw (ne_eqb (128 + d) 128 (λ e. omega arith)) (and_false (eqb n 0))
    ] in
    let minus : (128 + d) - 128 ≡ d = omega arith in
    rw (test, le-ltb (2 ^ 121 - 1) n (omega arith), le-ltb (128 + d) 128 (omega arith), minus) rest-is
  where
    and_false : (b : Bool) → (b && false) ≡ false
    and_false true = refl
    and_false false = refl

none_again : subidentifiers_after 0 [] ≡ Some []
unfolding subidentifiers_after
none_again = refl

pub subidentifiers_again : (ss : List ℕ) → AllByRecursion (λ s. s < 2 ^ 128) ss
    → subidentifiers_after 0 (oid_contents ss) ≡ Some ss
unfolding subidentifier
subidentifiers_again [] small = none_again
subidentifiers_again (s ∷ ss) small =
    let whole : s / 128 * 128 + s % 128 ≡ s = omega arith in
    let high : s / 128 ≤ 2 ^ 121 - 1 = omega (arith, small.0) in
    let number : number_from_digits_after 128 0 (digits_of 128 (s / 128)) ≡ s / 128 =
    number_digits_of 128 (s / 128) (omega arith) in
    let regrouped : (map (λ d. 128 + d) (digits_of 128 (s / 128)) ++ (s % 128) ∷ []) ++ oid_contents ss ≡ map
    (λ d. 128 + d) (digits_of 128 (s / 128)) ++ ((s % 128) ∷ oid_contents ss)
    = append_assoc (map (λ d. 128 + d) (digits_of 128 (s / 128))) ((s % 128) ∷ []) (oid_contents ss) in
    ap (subidentifiers_after 0) regrouped
    ∙ front_again 0 (digits_of 128 (s / 128)) ((s % 128) ∷ oid_contents ss)
    (all_below_base_digits_of 128 (s / 128) (omega arith)) (omega (arith, first (s / 128)))
    (omega (arith, number))
    ∙ ap (λ (k : ℕ). subidentifiers_after k ((s % 128) ∷ oid_contents ss)) number
    ∙ last_again (s / 128) (s % 128) (oid_contents ss) (omega arith) high
    ∙ rw (subidentifiers_again ss small.1, whole) refl
  where
    none : (ds : List ℕ) → 0 < get_or ds 0 0 → 0 < get_or ds 0 1
    none [] h = omega arith
    none (d ∷ ds) h = h

    first : (n : ℕ) → 0 < get_or (digits_of 128 n) 0 1
    first zero = omega arith
    first (suc n) = none (digits_of 128 (suc n)) (first_digits_of 128 (suc n) (omega arith) (omega arith))

pub oid_contents-one : (ss ss' : List ℕ) → AreSmall ss → AreSmall ss' → oid_contents ss ≡ oid_contents ss' → ss ≡ ss'
oid_contents-one ss ss' small small' e =
    some_is ss ss' (sym (subidentifiers_again ss small) ∙ ap subidentifiers_of e ∙ subidentifiers_again ss' small')

-- ---- identifiers

pub is_oid : (octets : List ℕ) → AreOctets octets → 0 < length octets → length octets ≤ 64
    → is_some (subidentifiers_of octets) ≡ true → IsOid octets
is_oid octets are some most test = by_case (subidentifiers_of octets) refl test
  where
    by_case : (r : Option (List ℕ)) → subidentifiers_of octets ≡ r → is_some r ≡ true → IsOid octets
    by_case None is test = absurd cc
    by_case (Some ss) is test =
        let t = subidentifiers_take 0 octets ss are is in
        record { some = some; most = most; spelled = (ss, t.0, t.1) }

pub IsOid-read : (octets : List ℕ) → IsOid octets → is_some (subidentifiers_of octets) ≡ true
IsOid-read octets h = rw (ap subidentifiers_of h.spelled.2 ∙ subidentifiers_again h.spelled.0 h.spelled.1) refl

pub oid_take : (octets id : List ℕ) → AreOctets octets → oid_of octets ≡ Some id → IsOid id × (octets ≡ id)
unfolding oid_of
oid_take octets id are e =
    let g = cond_some
    (is_some (subidentifiers_of octets) && (ltb 0 (length octets) && ltb (length octets) 65)) octets id e in
    let a = and_parts (is_some (subidentifiers_of octets)) (ltb 0 (length octets) && ltb (length octets) 65) g.0 in
    let b = and_parts (ltb 0 (length octets)) (ltb (length octets) 65) a.1 in
    (subst IsOid g.1 (is_oid octets are (ltb-true _ _ b.0) (omega (arith, ltb-true _ _ b.1)) a.0), g.1)

pub oid_again : (id : List ℕ) → IsOid id → oid_of id ≡ Some id
unfolding oid_of
oid_again id h = rw (IsOid-read id h, lt-ltb 0 (length id) h.some, lt-ltb (length id) 65 (omega (arith, h.most))) refl

pub oid_none : (octets : List ℕ) → AreOctets octets → (IsOid octets → ⊥) → oid_of octets ≡ None
oid_none octets are never = by_case (oid_of octets) refl
  where
    by_case : (r : Option (List ℕ)) → oid_of octets ≡ r → r ≡ None
    by_case None is = refl
    by_case (Some id) is = let t = oid_take octets id are is in absurd (never (rw t.1 t.0))

pub is_identifier : (octets : List ℕ) (b : Bool) → AreOctets octets → b ≡ is_some (oid_of octets)
    → IsTrue b ↔ IsOid octets
is_identifier octets b are e =
    (λ yes. by_case (oid_of octets) refl (sym e ∙ yes), λ h. e ∙ rw (oid_again octets h) refl)
  where
    by_case : (r : Option (List ℕ)) → oid_of octets ≡ r → is_some r ≡ true → IsOid octets
    by_case None is test = absurd cc
    by_case (Some id) is test = let t = oid_take octets id are is in rw t.1 t.0

-- what is read from an identifier's octets spells them
numbers_are : (octets numbers : List ℕ) → IsOid octets → subidentifiers_of octets ≡ Some numbers
    → AreSmall numbers × (octets ≡ oid_contents numbers)
numbers_are octets numbers h e =
    let same : h.spelled.0 ≡ numbers =
    some_is h.spelled.0 numbers
    (sym (subidentifiers_again h.spelled.0 h.spelled.1) ∙ ap subidentifiers_of (sym h.spelled.2) ∙ e) in
    subst (λ (ss : List ℕ). AreSmall ss × (octets ≡ oid_contents ss)) same (h.spelled.1, h.spelled.2)

pub numbers_spell : {R E : Type 0} (octets lent : List ℕ) (items : R → List ℕ) (r : Result R E) → IsOid octets
    → lent ≡ octets
    → IfOk r (λ numbers. subidentifiers_of lent ≡ Some (items numbers))
    → IfOk r (λ numbers. AreSmall (items numbers) × (octets ≡ oid_contents (items numbers)))
numbers_spell octets lent items (Ok numbers) h same e =
    numbers_are octets (items numbers) h (ap subidentifiers_of (sym same) ∙ e)
numbers_spell octets lent items (Err f) h same e = tt

-- ---- the list of subidentifiers, as a loop makes it: what was read before, and what is still read

abbrev pub with_front : List ℕ → Option (List ℕ) → Option (List ℕ)
with_front front read = read >>? λ ss. Some (front ++ ss)

pub stuck : (total front os : List ℕ) (n o : ℕ) → is_some (subidentifiers_of total) ≡ true
    → subidentifiers_of total ≡ with_front front (subidentifiers_after n (o ∷ os)) → subidentifier_step n o ≡ None → ⊥
unfolding subidentifiers_after
stuck total front os n o some so_far none = let nothing : subidentifiers_of total ≡ None =
    so_far ∙ rw none refl in let wrong : is_some (subidentifiers_of total) ≡ false = rw nothing refl in cc

pub one_more : (front os : List ℕ) (n o m : ℕ) → o < 128 → subidentifier_step n o ≡ Some m
    → with_front front (subidentifiers_after n (o ∷ os)) ≡ with_front (front ++ (n * 128 + o) ∷ [])
    (subidentifiers_after m os)
unfolding subidentifiers_after subidentifier_step
one_more front os n o m lt e =
    let g = some_guard ((eqb n 0 && eqb o 128) || ltb (2 ^ 121 - 1) n)
    (cond (ltb o 128) (Some 0) (Some (n * 128 + (o - 128)))) m e in
    let is : Some 0 ≡ Some m = rw (lt-ltb o 128 lt) at g.1 in
    subst (λ
    (k : ℕ). with_front front (subidentifiers_after n (o ∷ os)) ≡ with_front (front ++ (n * 128 + o) ∷ [])
    (subidentifiers_after k os)) (some_is 0 m is)
    (rw (g.0, lt-ltb o 128 lt) (regroup (subidentifiers_after 0 os)))
  where
    regroup : (r : Option (List ℕ))
        → with_front front (r >>? λ ss. Some ((n * 128 + o) ∷ ss)) ≡ with_front (front ++ (n * 128 + o) ∷ []) r
    regroup (Some ss) = ap (λ (x : List ℕ). Some x) (sym (append_assoc front ((n * 128 + o) ∷ []) ss))
    regroup None = refl

pub same_one : (front os : List ℕ) (n o m : ℕ) → 128 ≤ o → subidentifier_step n o ≡ Some m
    → with_front front (subidentifiers_after n (o ∷ os)) ≡ with_front front (subidentifiers_after m os)
unfolding subidentifiers_after
same_one front os n o m le e = rw (e, le-ltb o 128 le) refl

pub all_read : (total front : List ℕ) (n : ℕ) → is_some (subidentifiers_of total) ≡ true
    → subidentifiers_of total ≡ with_front front (subidentifiers_after n []) → subidentifiers_of total ≡ Some front
unfolding subidentifiers_after
all_read total front n some so_far = elim (cases_eq n 0) [
  | inl z ↦ so_far ∙ rw (eq-eqb n 0 z) (ap (λ (x : List ℕ). Some x) (append-nil front))
  | inr nz ↦
      let nothing : subidentifiers_of total ≡ None = so_far ∙ rw (ne_eqb n 0 nz) refl in
      let wrong : is_some (subidentifiers_of total) ≡ false = rw nothing refl in absurd cc
]
