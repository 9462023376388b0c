-- A SEQUENCE at the front of octets: what its head declares, and how many octets it has.
use Rattle.std.proofs.Common.{◌≡◌, ℕ, suc, ◌+◌, ◌-◌, ◌^◌, ◌<◌, ◌≤◌, List, [], ◌∷◌, ◌++◌, length, take, drop, replicate, Result, Ok, sym, ap, subst, ◌∙◌, append_assoc, arith, inl, inr}
use Rattle.std.proofs.lemmas.Bool.{cases_lt, lt-ltb, le-ltb}
use Rattle.std.proofs.lemmas.Int.Digits.{length-digits_of-le}
use Rattle.std.proofs.lemmas.List.{take-append-drop, length-append, length-take, length-replicate, append-nil}
use Rattle.std.proofs.Math.Seq.{take-append-add}
use Rattle.der_core.specs.declared.fault.DerFault.{DerFault}
use Rattle.der_core.specs.Element.{length_octets, enc}
use Rattle.der_core.specs.Head.{IsHead}
use Rattle.der_core.specs.Reading.{length_at}
use Rattle.der_core.specs.Items.{IsSequence, HasSequence, BeginsSequence}
use Rattle.der_core.specs.Progress.{Declares, sequence_size}
use Rattle.der_core.proofs.Element.{ok_is, length_again}
use Rattle.der_core.proofs.Places.{length-enc}

-- ---- fronts

pub begins_front : (octets more : List ℕ) → BeginsSequence (octets ++ more) → BeginsSequence octets
begins_front octets more b =
    record { more = more ++ b.more; whole = subst HasSequence (append_assoc octets more b.more) b.whole }

pub has_more : (octets more : List ℕ) → HasSequence octets → HasSequence (octets ++ more)
has_more octets more h = record {
  item = h.item;
  rest = h.rest ++ more;
  sequence = h.sequence;
  text = ap (λ (x : List ℕ). x ++ more) h.text ∙ append_assoc h.item h.rest more;
}

pub begins_from_has : (octets : List ℕ) → HasSequence octets → BeginsSequence octets
begins_from_has octets h = record { more = []; whole = has_more octets [] h }

pub has_from_is : (octets : List ℕ) → IsSequence octets → HasSequence octets
has_from_is octets s = record { item = octets; rest = []; sequence = s; text = sym (append-nil octets) }

-- ---- the head of a SEQUENCE

pub a_head : (size : ℕ) → size < 2 ^ 32 → IsHead 0x30 size
a_head size fits = record { octet = omega arith; low_bits = omega arith; fits = fits }

-- one to five length octets
pub length_octets_most : (size : ℕ) → size < 2 ^ 32
    → (0 < length (length_octets size)) × (length (length_octets size) ≤ 5)
unfolding length_octets
length_octets_most size fits = elim (cases_lt size 128) [
  | inl lt ↦ rw (lt-ltb size 128 lt) (omega arith, omega arith)
  | inr le ↦ rw (le-ltb size 128 le)
      (omega arith, omega (arith, length-digits_of-le 256 4 size (omega arith) (omega arith)))
]

pub declares_more : (octets more : List ℕ) (size : ℕ) → Declares octets size → Declares (octets ++ more) size
declares_more octets more size d = record {
  head = d.head;
  rest = d.rest ++ more;
  text = ap (λ (x : List ℕ). x ++ more) d.text
      ∙ ap (λ (x : List ℕ). 0x30 ∷ x) (append_assoc (length_octets size) d.rest more);
}

-- octets declare one length at most
pub declares_once : (octets : List ℕ) (size other : ℕ) → Declares octets size → Declares octets other → size ≡ other
declares_once octets size other d e =
    let tails : length_octets size ++ d.rest ≡ length_octets other ++ e.rest =
    tail _ _ (sym d.text ∙ e.text) in
    same size other d.rest e.rest
    (sym (length_again size d.rest d.head.fits) ∙ ap length_at tails ∙ length_again other e.rest e.head.fits)
  where
    tail : (xs ys : List ℕ) → 0x30 ∷ xs ≡ 0x30 ∷ ys → xs ≡ ys
    tail xs ys e = cc

    same : (m n : ℕ) (xs ys : List ℕ) → ◌≡◌ {A = Result (ℕ × List ℕ) DerFault} (Ok (m, xs)) (Ok (n, ys)) → m ≡ n
    same m n xs ys e = ap (λ (p : ℕ × List ℕ). p.0) (ok_is {E = DerFault} (m, xs) (n, ys) e)

-- the head stands in the first six octets
pub declares_first : (octets : List ℕ) (size : ℕ) → Declares octets size → Declares (take 6 octets) size
declares_first octets size d =
    let most = length_octets_most size d.head.fits in
    let head : List ℕ = 0x30 ∷ length_octets size in
    let room : 6 ≡ length (0x30 ∷ length_octets size) + (6 - length (0x30 ∷ length_octets size)) =
    omega (arith, most.1) in
    record {
      head = d.head;
      rest = take (6 - length (0x30 ∷ length_octets size)) d.rest;
      text = ap (take 6) d.text
          ∙ ap (λ (k : ℕ). take k ((0x30 ∷ length_octets size) ++ d.rest)) room
          ∙ take-append-add (0x30 ∷ length_octets size) d.rest (6 - length (0x30 ∷ length_octets size));
    }

pub declares_from_first : (octets : List ℕ) (size : ℕ) → Declares (take 6 octets) size → Declares octets size
declares_from_first octets size d =
    subst (λ (x : List ℕ). Declares x size) (take-append-drop 6 octets)
    (declares_more (take 6 octets) (drop 6 octets) size d)

-- ---- the whole of it

pub length-item : (item : List ℕ) (s : IsSequence item) → length item ≡ sequence_size (length s.contents)
length-item item s = ap length s.text ∙ length-enc 0x30 s.contents

pub declares_item : (item : List ℕ) (s : IsSequence item) → Declares item (length s.contents)
unfolding enc
declares_item item s = record { head = a_head _ s.element.fits; rest = s.contents; text = s.text }

pub declares_has : (octets : List ℕ) (h : HasSequence octets) → Declares octets (length h.sequence.contents)
declares_has octets h =
    subst (λ (x : List ℕ). Declares x (length h.sequence.contents)) (sym h.text)
    (declares_more h.item h.rest _ (declares_item h.item h.sequence))

-- what begins an element of a declared length has it whole where there are octets enough
pub has_size : (octets : List ℕ) (size : ℕ) → Declares octets size → HasSequence octets
    → sequence_size size ≤ length octets
has_size octets size d h =
    let same = declares_once octets size _ d (declares_has octets h) in
    let sizes : sequence_size size ≡ length h.item = ap sequence_size same ∙ sym (length-item h.item h.sequence) in
    omega (arith, sizes, ap length h.text, length-append h.item h.rest)

pub is_taken : (octets : List ℕ) (size : ℕ) → Declares octets size → sequence_size size ≤ length octets
    → IsSequence (take (sequence_size size) octets)
unfolding enc
is_taken octets size d enough =
    let head : List ℕ = 0x30 ∷ length_octets size in
    let sizes : length octets ≡ suc (length (length_octets size)) + length d.rest = ap length d.text
    ∙ length-append (0x30 ∷ length_octets size) d.rest in
    let inside : length (take size d.rest) ≡ size = omega (arith, length-take size d.rest, sizes) in
    let room : sequence_size size ≡ length (0x30 ∷ length_octets size) + size = omega arith in
    record {
      contents = take size d.rest;
      element = record { octet = omega arith; low_bits = omega arith; fits = omega (arith, inside, d.head.fits) };
      text = ap (take (sequence_size size)) d.text
          ∙ ap (λ (k : ℕ). take k ((0x30 ∷ length_octets size) ++ d.rest)) room
          ∙ take-append-add (0x30 ∷ length_octets size) d.rest size
          ∙ ap (λ (k : ℕ). 0x30 ∷ (length_octets k ++ take size d.rest)) (sym inside);
    }

pub has_taken : (octets : List ℕ) (size : ℕ) → Declares octets size → sequence_size size ≤ length octets
    → HasSequence octets
has_taken octets size d enough = record {
  item = take (sequence_size size) octets;
  rest = drop (sequence_size size) octets;
  sequence = is_taken octets size d enough;
  text = sym (take-append-drop (sequence_size size) octets);
}

pub begins_from_declares : (octets : List ℕ) (size : ℕ) → Declares octets size → BeginsSequence octets
begins_from_declares octets size d =
    let sizes : length octets ≡ suc (length (length_octets size)) + length d.rest = ap length d.text
    ∙ length-append (0x30 ∷ length_octets size) d.rest in
    let enough : sequence_size size ≤ length (octets ++ replicate size 0) =
    omega (arith, sizes, length-append octets (replicate size 0), length-replicate {A = ℕ} size 0) in
    record {
      more = replicate size 0;
      whole =
          has_taken (octets ++ replicate size 0) size (declares_more octets (replicate size 0) size d) enough;
    }

-- what goes on from octets that begin a SEQUENCE declares a length at some time
pub declares_begun : (octets : List ℕ) (b : BeginsSequence octets)
    → Declares (octets ++ b.more) (length b.whole.sequence.contents)
declares_begun octets b = declares_has (octets ++ b.more) b.whole

pub none_of_none : HasSequence [] → ⊥
unfolding enc
none_of_none h = wrong h.item h.rest h.sequence h.text
  where
    wrong : (item rest : List ℕ) → IsSequence item → [] ≡ item ++ rest → ⊥
    wrong [] rest s e = let t = s.text in cc
    wrong (i ∷ item) rest s e = cc
