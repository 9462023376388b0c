-- What is read as a head is one, a head is read, and why none is.
use Rattle.std.proofs.Common.{◌≡◌, ℕ, ◌%◌, ◌<◌, eqb, List, [], ◌∷◌, ◌++◌, Result, Ok, Err, refl, ap, subst, arith, inl, inr}
use Rattle.std.proofs.lemmas.Bool.{cases_Bool, cases_lt, eqb-false, ne_eqb}
use Rattle.der_core.specs.declared.fault.DerFault.{DerFault}
use Rattle.der_core.specs.declared.fault.DerFault.TheVariants.{Short, Malformed}
use Rattle.der_core.specs.Element.{length_octets}
use Rattle.der_core.specs.Head.{head_octets, IsHead, BeginsWith, BeginsWithLength, IsNoHead, IsNoLength, head_at}
use Rattle.std.specs.Prelude.{IfOk, IfErr, MatchResult}
use Rattle.std.proofs.Common.{Bor, ◌^◌}
use Rattle.der_core.specs.Reading.{◌>>=◌, length_at}
use Rattle.der_core.proofs.Digits.{AreOctets, AreOctets-tail}
use Rattle.der_core.proofs.Element.{guard, bind_ok, ok_is, length_takes, length_again}
use Rattle.der_core.proofs.Faults.{length_malformed, length_short, octets_append}

pub head_takes : (bytes : List ℕ) (x : ℕ × (ℕ × List ℕ)) → AreOctets bytes → head_at bytes ≡ Ok x
    → IsHead x.0 x.1.0 × (bytes ≡ head_octets x.0 x.1.0 ++ x.1.1)
unfolding head_at
head_takes [] x octets e = absurd cc
head_takes (tag ∷ bytes) x octets e =
    let g = guard (eqb (tag % 32) 31) Malformed (length_at bytes >>= λ n. Ok (tag, n)) x e in
    let n = bind_ok (length_at bytes) (λ n. Ok (tag, n)) x g.1 in
    let t = length_takes bytes n.0.0 n.0.1 (AreOctets-tail tag bytes octets) n.1 in
    let is : (tag, n.0) ≡ x = ok_is {E = DerFault} (tag, n.0) x n.2 in
    let ne = eqb-false (tag % 32) 31 g.0 in
    let bits : tag % 32 < 31 = elim (cases_lt (tag % 32) 31) [ inl lt ↦ lt | inr le ↦ absurd (ne (omega arith)) ] in
    subst (λ (y : ℕ × (ℕ × List ℕ)). IsHead y.0 y.1.0 × (tag ∷ bytes ≡ (y.0 ∷ length_octets y.1.0) ++ y.1.1)) is
    (record { octet = octets 0; low_bits = bits; fits = t.0 }, ap (λ (y : List ℕ). tag ∷ y) t.1)

pub head_again : (tag size : ℕ) (rest : List ℕ) → IsHead tag size
    → head_at (head_octets tag size ++ rest) ≡ Ok (tag, (size, rest))
unfolding head_at
head_again tag size rest h =
    rw (ne_eqb (tag % 32) 31 (λ e. omega (arith, h.low_bits, e)), length_again size rest h.fits) refl

no_head_once : (octets : List ℕ) (fault : DerFault) → head_at octets ≡ Err fault
    → (tag : ℕ) × (size : ℕ) × BeginsWith octets tag size → ⊥
no_head_once octets fault e (tag, size, b) =
    let ok : head_at octets ≡ Ok (tag, (size, b.rest)) = rw b.text (head_again tag size b.rest b.head) in cc

pub head_malformed : (bytes more : List ℕ) → head_at bytes ≡ Err Malformed → head_at (bytes ++ more) ≡ Err Malformed
unfolding head_at
head_malformed [] more e = absurd cc
head_malformed (tag ∷ bytes) more e = elim (cases_Bool (eqb (tag % 32) 31)) [
  | inl is ↦ rw is refl
  | inr isnt ↦ rw isnt (rw (length_malformed bytes more (first (length_at bytes) (rw isnt at e))) refl)
]
  where
    first : (r : Result (ℕ × List ℕ) DerFault)
        → ◌≡◌ {A = Result (ℕ × (ℕ × List ℕ)) DerFault} (r >>= λ n. Ok (tag, n)) (Err Malformed) → r ≡ Err Malformed
    first (Ok n) e = absurd cc
    first (Err f) e = cc

head_short : (bytes : List ℕ) → AreOctets bytes → head_at bytes ≡ Err Short
    → (more : List ℕ) × (tag : ℕ) × (size : ℕ) × BeginsWith (bytes ++ more) tag size
unfolding head_at length_octets
head_short [] octets e =
    (0 ∷ 0 ∷ [], 0, 0, record { head = record { octet = omega arith; low_bits = omega arith; fits = omega arith }; rest = []; text = refl })
head_short (tag ∷ bytes) octets e = elim (cases_Bool (eqb (tag % 32) 31)) [
  | inl is ↦ let wrong : ◌≡◌ {A = Result (ℕ × (ℕ × List ℕ)) DerFault} (Err Malformed) (Err Short) =
      rw is at e in absurd cc
  | inr isnt ↦
      let g = length_short bytes (first (length_at bytes) (rw isnt at e)) in
      let ok : head_at (tag ∷ (bytes ++ g.0)) ≡ Ok (tag, g.1) = rw (isnt, g.3) refl in
      let all : AreOctets (tag ∷ (bytes ++ g.0)) = octets_append (tag ∷ bytes) g.0 octets g.2 in
      let t = head_takes (tag ∷ (bytes ++ g.0)) (tag, g.1) all ok in
      (g.0, tag, g.1.0, record { head = t.0; rest = g.1.1; text = t.1 })
]
  where
    first : (r : Result (ℕ × List ℕ) DerFault)
        → ◌≡◌ {A = Result (ℕ × (ℕ × List ℕ)) DerFault} (r >>= λ n. Ok (tag, n)) (Err Short) → r ≡ Err Short
    first (Ok n) e = absurd cc
    first (Err f) e = cc

pub head_fault : (bytes : List ℕ) (fault : DerFault) → AreOctets bytes → head_at bytes ≡ Err fault
    → IsNoHead fault bytes
head_fault bytes Short octets e = let m = head_short bytes octets e in (no_head_once bytes Short e, (m.0, (m.1, m.2, m.3)))
head_fault bytes Malformed octets e =
    λ more begun. no_head_once (bytes ++ more) Malformed (head_malformed bytes more e) begun

-- ---- lengths alone

no_length_once : (octets : List ℕ) (fault : DerFault) → length_at octets ≡ Err fault
    → (size : ℕ) × BeginsWithLength octets size → ⊥
no_length_once octets fault e (size, b) =
    let ok : length_at octets ≡ Ok (size, b.rest) = rw b.text (length_again size b.rest b.fits) in cc

pub length_fault : (bytes : List ℕ) (fault : DerFault) → AreOctets bytes → length_at bytes ≡ Err fault
    → IsNoLength fault bytes
length_fault bytes Short octets e =
    let g = length_short bytes e in
    let t = length_takes (bytes ++ g.0) g.1.0 g.1.1 (octets_append bytes g.0 octets g.2) g.3 in
    (no_length_once bytes Short e, (g.0, (g.1.0, record { fits = t.0; rest = g.1.1; text = t.1 })))
length_fault bytes Malformed octets e =
    λ more begun. no_length_once (bytes ++ more) Malformed (length_malformed bytes more e) begun

-- ---- the clauses of the readers

pub heads_found : (bytes : List ℕ) (r : Result (ℕ × ℕ × Bor (List ℕ)) DerFault) → AreOctets bytes
    → MatchResult r (λ x. head_at bytes ≡ Ok (x.0, (x.1, x.2.now))) (λ e. head_at bytes ≡ Err e)
    → IfOk r (λ x. IsHead x.0 x.1 × (bytes ≡ head_octets x.0 x.1 ++ x.2.now))
heads_found bytes (Ok x) octets e = head_takes bytes (x.0, (x.1, x.2.now)) octets e
heads_found bytes (Err f) octets e = tt

pub heads_refused : (bytes : List ℕ) (r : Result (ℕ × ℕ × Bor (List ℕ)) DerFault) → AreOctets bytes
    → MatchResult r (λ x. head_at bytes ≡ Ok (x.0, (x.1, x.2.now))) (λ e. head_at bytes ≡ Err e)
    → IfErr r (λ fault. IsNoHead fault bytes)
heads_refused bytes (Ok x) octets e = tt
heads_refused bytes (Err f) octets e = head_fault bytes f octets e

pub lengths_found : (bytes : List ℕ) (r : Result (ℕ × Bor (List ℕ)) DerFault) → AreOctets bytes
    → MatchResult r (λ x. length_at bytes ≡ Ok (x.0, x.1.now)) (λ e. length_at bytes ≡ Err e)
    → IfOk r (λ x. (x.0 < 2 ^ 32) × (bytes ≡ length_octets x.0 ++ x.1.now))
lengths_found bytes (Ok x) octets e = length_takes bytes x.0 x.1.now octets e
lengths_found bytes (Err f) octets e = tt

pub lengths_refused : (bytes : List ℕ) (r : Result (ℕ × Bor (List ℕ)) DerFault) → AreOctets bytes
    → MatchResult r (λ x. length_at bytes ≡ Ok (x.0, x.1.now)) (λ e. length_at bytes ≡ Err e)
    → IfErr r (λ fault. IsNoLength fault bytes)
lengths_refused bytes (Ok x) octets e = tt
lengths_refused bytes (Err f) octets e = length_fault bytes f octets e
