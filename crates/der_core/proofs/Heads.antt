-- Octets that declare no length: what begins with tag 30 (hex) so far, and what does not.
use Rattle.std.proofs.Common.{◌≡◌, ℕ, suc, ◌-◌, ◌%◌, ◌<◌, ◌≤◌, ◌≢◌, eqb, ltb, ◌&&◌, ◌||◌, List, [], ◌∷◌, ◌++◌, length, Result, Ok, Err, refl, sym, subst, ◌∙◌, arith, inl, inr}
use Rattle.std.proofs.lemmas.Bool.{cases_Bool, ltb-true, ltb-false, or_parts}
use Rattle.der_core.specs.declared.fault.DerFault.{DerFault}
use Rattle.der_core.specs.declared.fault.DerFault.TheVariants.{Short, Malformed}
use Rattle.der_core.specs.Element.{length_octets}
use Rattle.der_core.specs.Reading.{◌>>=◌, length_at, long_length_at}
use Rattle.der_core.specs.Items.{BeginsSequence}
use Rattle.der_core.specs.Progress.{Declares}
use Rattle.der_core.specs.Splitter.{IsFirstTag, IsHeadFault}
use Rattle.der_core.specs.Head.{BeginsWith, IsNoHead, head_at}
use Rattle.der_core.proofs.Sequences.{a_head, begins_front, begins_from_declares, declares_begun}

not_fault : (x : ℕ × List ℕ) (f : DerFault) → ◌≡◌ {A = Result (ℕ × List ℕ) DerFault} (Ok x) (Err f) → ⊥
not_fault x f e = cc

-- digits of a length that are not all there are three at most
long_short_length : (k : ℕ) (octets : List ℕ) → k ≤ 4 → long_length_at k octets ≡ Err Short → length octets < 4
unfolding long_length_at
long_short_length k [] most e = omega arith
long_short_length k (d ∷ ds) most e = elim (cases_Bool (eqb d 0 || (eqb k 1 && ltb d 128))) [
  | inl is ↦ let wrong : ◌≡◌ {A = Result (ℕ × List ℕ) DerFault} (Err Malformed) (Err Short) = rw is at e in absurd cc
  | inr isnt ↦ elim (cases_Bool (ltb (suc (length ds)) k)) [
    | inl few ↦ omega (arith, ltb-true (suc (length ds)) k few)
    | inr many ↦ absurd (not_fault _ Short (rw many at (rw isnt at e)))
  ]
]

-- with the octet that counts them four at most
short_length : (octets : List ℕ) → length_at octets ≡ Err Short → length octets < 5
unfolding length_at
short_length [] e = omega arith
short_length (b ∷ bs) e = elim (cases_Bool (ltb b 128)) [
  | inl is ↦ absurd (not_fault _ Short (rw is at e))
  | inr isnt ↦ let e' = rw isnt at e in elim (cases_Bool (eqb b 128 || ltb 132 b)) [
    | inl is ↦ let wrong : ◌≡◌ {A = Result (ℕ × List ℕ) DerFault} (Err Malformed) (Err Short) =
        rw is at e' in absurd cc
    | inr isnt' ↦ omega (
      arith,
      long_short_length (b - 128) bs
          (omega (arith, ltb-false 132 b (or_parts (eqb b 128) (ltb 132 b) isnt').1)) (rw isnt' at e'),
    )
  ]
]

-- a head that is not all there has five octets at most
short_head : (octets : List ℕ) → head_at octets ≡ Err Short → length octets < 6
unfolding head_at
short_head [] e = omega arith
short_head (tag ∷ octets) e = elim (cases_Bool (eqb (tag % 32) 31)) [
  | inl is ↦ let wrong : ◌≡◌ {A = Result (ℕ × (ℕ × List ℕ)) DerFault} (Err Malformed) (Err Short) =
      rw is at e in absurd cc
  | inr isnt ↦ omega (arith, short_length octets (first (length_at octets) (rw isnt at e)))
]
  where
    first : (r : Result (ℕ × List ℕ) DerFault)
        → ◌≡◌ {A = Result (ℕ × (ℕ × List ℕ)) DerFault} (r >>= λ n. Ok (tag, n)) (Err Short) → r ≡ Err Short
    first (Ok n) e = absurd cc
    first (Err f) e = cc

pub no_octets : IsHeadFault Short []
unfolding length_octets
no_octets =
    let declares : Declares (0x30 ∷ 0 ∷ []) 0 = record { head = a_head 0 (omega arith); rest = []; text = refl } in (
      begins_front [] (0x30 ∷ 0 ∷ []) (begins_from_declares (0x30 ∷ 0 ∷ []) 0 declares),
      omega arith,
      λ size d. let t = d.text in cc,
    )

pub other_tag : (tag : ℕ) (octets : List ℕ) → tag ≢ 0x30 → BeginsSequence (tag ∷ octets) → ⊥
other_tag tag octets other b = let t = (declares_begun (tag ∷ octets) b).text in other (cc)

-- a head has the tag that stands first
tag_is : (tag : ℕ) (octets : List ℕ) (tag' size : ℕ) → BeginsWith (tag ∷ octets) tag' size → tag ≡ tag'
tag_is tag octets tag' size b = let t = b.text in cc

declares_from : (octets : List ℕ) (tag size : ℕ) → IsFirstTag 0x30 octets → BeginsWith octets tag size
    → Declares octets size
declares_from [] tag size first b = let t = b.text in absurd cc
declares_from (o ∷ os) tag size first b =
    let same : tag ≡ 0x30 = sym (tag_is o os tag size b) ∙ first (omega arith) in
    subst (λ (t : ℕ). BeginsWith (o ∷ os) t size) same b

-- octets that another tag begins
pub sequence_other : (octets : List ℕ) → (IsFirstTag 0x30 octets → ⊥) → IsHeadFault Malformed octets
sequence_other [] other = absurd (other (λ some. absurd (omega (arith, some))))
sequence_other (o ∷ os) other = other_tag o os (λ is. other (λ some. is))

pub sequence_fault : (octets : List ℕ) (fault : DerFault) → IsFirstTag 0x30 octets → IsNoHead fault octets
    → head_at octets ≡ Err fault → IsHeadFault fault octets
sequence_fault octets Malformed first none e = λ b.
    none b.more (0x30, length b.whole.sequence.contents, declares_begun octets b)
sequence_fault [] Short first none e = no_octets
sequence_fault (o ∷ os) Short first none e =
    let more = none.1 in
    let d : Declares (o ∷ (os ++ more.0)) more.1.1 =
    declares_from (o ∷ (os ++ more.0)) more.1.0 more.1.1 (λ some. first (omega arith)) more.1.2 in (
      begins_front (o ∷ os) more.0 (begins_from_declares (o ∷ (os ++ more.0)) more.1.1 d),
      short_head (o ∷ os) e,
      λ size d'. none.0 (0x30, size, d'),
    )
