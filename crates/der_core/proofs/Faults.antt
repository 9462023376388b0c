-- When no element stands at the front, and why.
use Rattle.std.proofs.Common.{◌≡◌, ℕ, zero, suc, ◌-◌, ◌%◌, ◌<◌, ◌≤◌, ◌≢◌, Bool, true, false, cond, eqb, ltb}
use Rattle.std.proofs.Common.{◌&&◌, ◌||◌, List, [], ◌∷◌, ◌++◌, length, take, drop, replicate, Result, Ok, Err}
use Rattle.std.proofs.Common.{refl, sym, ap, ◌∙◌, append_assoc, arith, inl, inr}
use Rattle.std.specs.Int.Digits.{number_from_digits}
use Rattle.std.specs.Prelude.{IfOk, IfErr, MatchResult}
use Rattle.std.proofs.Common.{Bor}
use Rattle.std.proofs.lemmas.Bool.{cases_lt, ltb-false, le-ltb, eqb-false, or_parts, cases_Bool}
use Rattle.std.proofs.lemmas.List.{length-append, length-replicate, append-nil, take_at}
use Rattle.der_core.specs.declared.fault.DerFault.{DerFault}
use Rattle.der_core.specs.declared.fault.DerFault.TheVariants.{Short, Malformed}
use Rattle.der_core.specs.Element.{length_octets, enc, IsElement, HasElement, BeginsElement}
use Rattle.der_core.specs.Reading.{◌>>=◌, FirstElement, long_length_at, length_at, contents_at, element_at}
use Rattle.der_core.specs.Tlv.{IsFault}
use Rattle.der_core.proofs.Digits.{AreOctets, AreOctets-tail}
use Rattle.der_core.proofs.Element.{element_takes, element_again, length_takes, length_again}

pub no_element : (bytes : List ℕ) (e : DerFault) → element_at bytes ≡ Err e → HasElement bytes → ⊥
no_element bytes e fault (tag, contents, rest, h, text) =
    let ok : element_at bytes ≡ Ok (tag, (contents, rest)) = rw text (element_again tag contents rest h) in cc

-- ---- what is malformed stays so

long_malformed : (k : ℕ) (bytes more : List ℕ) → long_length_at k bytes ≡ Err Malformed
    → long_length_at k (bytes ++ more) ≡ Err Malformed
unfolding long_length_at
long_malformed k [] more e = absurd cc
long_malformed k (d ∷ ds) more e = elim (cases_Bool (eqb d 0 || (eqb k 1 && ltb d 128))) [
  | inl is ↦ rw is refl
  | inr isnt ↦ absurd (late _ (ltb (suc (length ds)) k) (rw isnt at e))
]
  where
    late : (x : ℕ × List ℕ) (b : Bool) → cond b (Err Short) (Ok x) ≡ Err Malformed → ⊥
    late x true e = cc
    late x false e = cc

pub length_malformed : (bytes more : List ℕ) → length_at bytes ≡ Err Malformed → length_at (bytes ++ more) ≡ Err Malformed
unfolding length_at
length_malformed [] more e = absurd cc
length_malformed (b ∷ bs) more e = elim (cases_Bool (ltb b 128)) [
  | inl is ↦ let wrong : ◌≡◌ {A = Result (ℕ × List ℕ) DerFault} (Ok (b, bs)) (Err Malformed) = rw is at e in absurd cc
  | inr isnt ↦ let e' = rw isnt at e in elim (cases_Bool (eqb b 128 || ltb 132 b)) [
    | inl is ↦ rw (isnt, is) refl
    | inr isnt' ↦ rw (isnt, isnt') (long_malformed (b - 128) bs more (rw isnt' at e'))
  ]
]

pub element_malformed : (bytes more : List ℕ) → element_at bytes ≡ Err Malformed
    → element_at (bytes ++ more) ≡ Err Malformed
unfolding element_at contents_at
element_malformed [] more e = absurd cc
element_malformed (tag ∷ bytes) more e = elim (cases_Bool (eqb (tag % 32) 31)) [
  | inl is ↦ rw is refl
  | inr isnt ↦ rw isnt (rw (length_malformed bytes more (first (length_at bytes) (rw isnt at e))) refl)
]
  where
    late : (x : FirstElement) (b : Bool) → cond b (Err Short) (Ok x) ≡ Err Malformed → ⊥
    late x true e = cc
    late x false e = cc

    first : (r : Result (ℕ × List ℕ) DerFault) → (r >>= contents_at tag) ≡ Err Malformed → r ≡ Err Malformed
    first (Ok n) e = absurd (late _ (ltb (length n.1) n.0) e)
    first (Err f) e = cc

-- ---- what is short can go on to be an element

pub octets_append : (xs ys : List ℕ) → AreOctets xs → AreOctets ys → AreOctets (xs ++ ys)
octets_append [] ys h g i = g i
octets_append (x ∷ xs) ys h g zero = h 0
octets_append (x ∷ xs) ys h g (suc i) = octets_append xs ys (AreOctets-tail x xs h) g i

octets_zeros : (n : ℕ) → AreOctets (replicate n 0)
octets_zeros zero i = omega arith
octets_zeros (suc n) zero = omega arith
octets_zeros (suc n) (suc i) = octets_zeros n i

abbrev pub GoesOn : {X : Type 0} → (List ℕ → Result X DerFault) → List ℕ → Type 0
GoesOn {X} read bytes = (more : List ℕ) × (x : X) × AreOctets more × (read (bytes ++ more) ≡ Ok x)

long_short : (k : ℕ) (bytes : List ℕ) → 0 < k → long_length_at k bytes ≡ Err Short → GoesOn (long_length_at k) bytes
unfolding long_length_at
long_short k [] pos e =
    let long : ltb (suc (length {A = ℕ} (replicate k 0))) k ≡ false =
    le-ltb _ _ (omega (arith, length-replicate {A = ℕ} k 0)) in (
      128 ∷ replicate k 0,
      (number_from_digits 256 (take k (128 ∷ replicate k 0)), drop k (128 ∷ replicate k 0)),
      octets_append (128 ∷ []) (replicate k 0) one (octets_zeros k),
      rw (and_right (eqb k 1), long) refl,
    )
  where
    and_right : (b : Bool) → (b && false) ≡ false
    and_right true = refl
    and_right false = refl

    one : AreOctets (128 ∷ [])
    one zero = omega arith
    one (suc i) = omega arith
long_short k (d ∷ ds) pos e = elim (cases_Bool (eqb d 0 || (eqb k 1 && ltb d 128))) [
  | inl is ↦ let wrong : ◌≡◌ {A = Result (ℕ × List ℕ) DerFault} (Err Malformed) (Err Short) = rw is at e in absurd cc
  | inr isnt ↦
      let long : ltb (suc (length (ds ++ replicate k 0))) k ≡ false =
      le-ltb _ _ (omega (arith, length-append ds (replicate k 0), length-replicate {A = ℕ} k 0)) in (
        replicate k 0,
        (number_from_digits 256 (take k (d ∷ (ds ++ replicate k 0))), drop k (d ∷ (ds ++ replicate k 0))),
        octets_zeros k,
        rw (isnt, long) refl,
      )
]

length_goes : (b : ℕ) (bs : List ℕ) → ltb b 128 ≡ false → (eqb b 128 || ltb 132 b) ≡ false
    → GoesOn (long_length_at (b - 128)) bs → GoesOn length_at (b ∷ bs)
unfolding length_at
length_goes b bs isnt isnt' g = (g.0, g.1, g.2, rw (isnt, isnt') g.3)

pub length_short : (bytes : List ℕ) → length_at bytes ≡ Err Short → GoesOn length_at bytes
unfolding length_at
length_short [] e = (0 ∷ [], (0, []), octets_zeros 1, refl)
length_short (b ∷ bs) e = elim (cases_Bool (ltb b 128)) [
  | inl is ↦ let wrong : ◌≡◌ {A = Result (ℕ × List ℕ) DerFault} (Ok (b, bs)) (Err Short) = rw is at e in absurd cc
  | inr isnt ↦ let e' = rw isnt at e in elim (cases_Bool (eqb b 128 || ltb 132 b)) [
    | inl is' ↦ let wrong : ◌≡◌ {A = Result (ℕ × List ℕ) DerFault} (Err Malformed) (Err Short) =
        rw is' at e' in absurd cc
    | inr isnt' ↦
        let ne : b ≢ 128 = eqb-false b 128 (or_parts (eqb b 128) (ltb 132 b) isnt').0 in
        let pos : 0 < b - 128 =
        elim (cases_lt 128 b) [
          | inl lt ↦ omega arith
          | inr ge ↦
              absurd (ne (omega (arith, ltb-false b 128 isnt)))
        ] in
        length_goes b bs isnt isnt' (long_short (b - 128) bs pos (rw isnt' at e'))
  ]
]

length_extends : (bytes more : List ℕ) (n : ℕ) (rest : List ℕ) → AreOctets bytes
    → length_at bytes ≡ Ok (n, rest) → length_at (bytes ++ more) ≡ Ok (n, rest ++ more)
length_extends bytes more n rest octets e =
    let t = length_takes bytes n rest octets e in
    rw (t.1, append_assoc (length_octets n) rest more) (length_again n (rest ++ more) t.0)

element_goes : (tag : ℕ) (bytes more : List ℕ) (n : ℕ) (rest : List ℕ) → eqb (tag % 32) 31 ≡ false
    → AreOctets bytes → AreOctets more → length_at (bytes ++ more) ≡ Ok (n, rest) → GoesOn element_at (tag ∷ bytes)
unfolding element_at contents_at
element_goes tag bytes more n rest isnt octets octets' e =
    let long : ltb (length (rest ++ replicate n 0)) n ≡ false =
    le-ltb _ _ (omega (arith, length-append rest (replicate n 0), length-replicate {A = ℕ} n 0)) in (
      more ++ replicate n 0,
      (tag, (take n (rest ++ replicate n 0), drop n (rest ++ replicate n 0))),
      octets_append more (replicate n 0) octets' (octets_zeros n),
      rw (
        isnt,
        ← append_assoc bytes more (replicate n 0),
        length_extends (bytes ++ more) (replicate n 0) n rest (octets_append bytes more octets octets') e,
        long,
      ) refl,
    )

length_none : length_at (0 ∷ []) ≡ Ok (0, [])
unfolding length_at
length_none = refl

element_short_goes : (bytes : List ℕ) → AreOctets bytes → element_at bytes ≡ Err Short → GoesOn element_at bytes
unfolding element_at contents_at
element_short_goes [] octets e = (0 ∷ 0 ∷ [], (0, ([], [])), octets_zeros 2, rw length_none refl)
element_short_goes (tag ∷ bytes) octets e = elim (cases_Bool (eqb (tag % 32) 31)) [
  | inl is ↦ let wrong : ◌≡◌ {A = Result FirstElement DerFault} (Err Malformed) (Err Short) = rw is at e in absurd cc
  | inr isnt ↦ by_length (length_at bytes) refl isnt (rw isnt at e)
]
  where
    by_length : (r : Result (ℕ × List ℕ) DerFault) → length_at bytes ≡ r → eqb (tag % 32) 31 ≡ false
        → (r >>= contents_at tag) ≡ Err Short → GoesOn element_at (tag ∷ bytes)
    by_length (Ok n) was isnt e =
        element_goes tag bytes [] n.0 n.1 isnt (AreOctets-tail tag bytes octets) (octets_zeros 0)
        (rw (append-nil bytes) was)
    by_length (Err Malformed) was isnt e = absurd cc
    by_length (Err Short) was isnt e =
        let g = length_short bytes was in
        element_goes tag bytes g.0 g.1.0 g.1.1 isnt (AreOctets-tail tag bytes octets) g.2 g.3

-- an element at the front of what goes on stands in the octets, or goes past their end
cut_short : (bytes more text rest : List ℕ) → bytes ++ more ≡ text ++ rest → (length text ≤ length bytes → ⊥)
    → bytes ++ take (length text - length bytes) more ≡ text
cut_short [] more text rest e long =
    let all : length text - 0 ≡ length text = omega arith in rw (e, all) (take_at text rest (length text) refl)
cut_short (b ∷ bs) more [] rest e long = absurd (long (omega arith))
cut_short (b ∷ bs) more (t ∷ ts) rest e long =
    let same : b ≡ t = cc in
    let below : suc (length ts) - suc (length bs) ≡ length ts - length bs = omega arith in
    rw (same, below) (ap (λ (x : List ℕ). t ∷ x) (cut_short bs more ts rest (cc) (λ le. long (omega arith))))

stands_whole : (bytes more text rest : List ℕ) → bytes ++ more ≡ text ++ rest → length text ≤ length bytes
    → bytes ≡ text ++ drop (length text) bytes
stands_whole bytes more [] rest e le = refl
stands_whole [] more (t ∷ ts) rest e le = absurd (omega (arith, le))
stands_whole (b ∷ bs) more (t ∷ ts) rest e le =
    let same : b ≡ t = cc in
    rw same (ap (λ (x : List ℕ). t ∷ x) (stands_whole bs more ts rest (cc) (omega arith)))

pub is_fault : (bytes : List ℕ) (fault : DerFault) → AreOctets bytes → element_at bytes ≡ Err fault
    → IsFault fault bytes
is_fault bytes Malformed octets e = (no_element bytes Malformed e, λ begun. malformed begun)
  where
    malformed : BeginsElement bytes → ⊥
    malformed (tag, contents, more, h, text) =
        no_element (bytes ++ more) Malformed (element_malformed bytes more e)
        (tag, contents, [], h, text ∙ sym (append-nil (enc tag contents)))
is_fault bytes Short octets e =
    let g = element_short_goes bytes octets e in
    let t = element_takes (bytes ++ g.0) g.1 (octets_append bytes g.0 octets g.2) g.3 in
    let text = enc g.1.0 g.1.1.0 in
    let whole : length (enc g.1.0 g.1.1.0) ≤ length bytes → ⊥ =
    λ le. no_element bytes Short e
    (g.1.0, g.1.1.0, _, t.0, stands_whole bytes g.0 (enc g.1.0 g.1.1.0) g.1.1.1 t.1 le) in
    (no_element bytes Short e, (g.1.0, g.1.1.0, _, t.0, cut_short bytes g.0 (enc g.1.0 g.1.1.0) g.1.1.1 t.1 whole))

-- ---- the clauses of a reader that answers as `element_at` does
abbrev pub Lent : Type 0
Lent = ℕ × Bor (List ℕ) × Bor (List ℕ)

pub is_found : (bytes : List ℕ) (r : Result Lent DerFault) → AreOctets bytes
    → MatchResult r (λ x. element_at bytes ≡ Ok (x.0, (x.1.now, x.2.now))) (λ e. element_at bytes ≡ Err e)
    → IfOk r (λ x. IsElement x.0 x.1.now × (bytes ≡ enc x.0 x.1.now ++ x.2.now))
is_found bytes (Ok x) octets e = element_takes bytes (x.0, (x.1.now, x.2.now)) octets e
is_found bytes (Err f) octets e = tt

pub is_refused : (bytes : List ℕ) (r : Result Lent DerFault) → AreOctets bytes
    → MatchResult r (λ x. element_at bytes ≡ Ok (x.0, (x.1.now, x.2.now))) (λ e. element_at bytes ≡ Err e)
    → IfErr r (λ fault. IsFault fault bytes)
is_refused bytes (Ok x) octets e = tt
is_refused bytes (Err f) octets e = is_fault bytes f octets e
