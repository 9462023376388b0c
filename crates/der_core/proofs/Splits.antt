-- How the items of octets, and how a front of them, are split.
use Rattle.std.proofs.Common.{◌≡◌, ℕ, ◌<◌, ◌≤◌, List, [], ◌∷◌, ◌++◌, length, refl, sym, ap, subst, ◌∙◌, arith, inl, inr, ◌⊎◌}
use Rattle.std.proofs.Common.{append_assoc}
use Rattle.std.specs.List.{flat_map, AllByRecursion}
use Rattle.std.proofs.lemmas.Bool.{cases_lt}
use Rattle.std.proofs.lemmas.List.{append-nil, length-append}
use Rattle.der_core.specs.Items.{IsSequence, HasSequence, IsItems, Splits}
use Rattle.der_core.proofs.Sequences.{none_of_none}
use Rattle.der_core.proofs.Streams.{sequence_once, sequence_some, has_of}

-- ---- lists

front_nil : (xs ys : List ℕ) → xs ++ ys ≡ [] → xs ≡ []
front_nil [] ys e = refl
front_nil (x ∷ xs) ys e = absurd (omega (arith, ap length e))

cons_parts : {a b : ℕ} {xs ys : List ℕ} → a ∷ xs ≡ b ∷ ys → (a ≡ b) × (xs ≡ ys)
cons_parts e = (cc, cc)

-- of two fronts of one list the shorter is a front of the longer
shorter : (xs ys xs' ys' : List ℕ) → xs ++ ys ≡ xs' ++ ys' → length xs' ≤ length xs
    → (more : List ℕ) × (xs ≡ xs' ++ more) × (ys' ≡ more ++ ys)
shorter xs ys [] ys' e le = (xs, refl, sym e)
shorter [] ys (b ∷ xs') ys' e le = absurd (omega (arith, le))
shorter (a ∷ xs) ys (b ∷ xs') ys' e le =
    let parts = cons_parts e in
    let s = shorter xs ys xs' ys' parts.1 (omega (arith, le)) in
    (s.0, ap (λ (h : ℕ). h ∷ xs) parts.0 ∙ ap (λ (l : List ℕ). b ∷ l) s.1, s.2)

-- ---- the items in front

sequence_first : (item rest : List ℕ) (items : List (List ℕ)) → IsSequence item → IsItems (item ++ rest) items
    → (others : List (List ℕ)) × (items ≡ item ∷ others) × IsItems rest others
sequence_first item rest [] s is = absurd (sequence_some item rest s is)
sequence_first item rest (i ∷ is) s (inl h) =
    let same = sequence_once item i rest h.0 s h.1 h.2 in
    (is, ap (λ (x : List ℕ). x ∷ is) (sym same.0), subst (λ (l : List ℕ). IsItems l is) (sym same.1) h.3)
sequence_first item rest (i ∷ is) s (inr h) = absurd (h.0 (has_of (item ++ rest) item rest s refl))

pub all_first : (ended items : List (List ℕ)) (rest : List ℕ) → AllByRecursion IsSequence ended
    → IsItems (flat_map (λ item. item) ended ++ rest) items
    → (others : List (List ℕ)) × (items ≡ ended ++ others) × IsItems rest others
all_first [] items rest each is = (items, refl, is)
all_first (i ∷ ended) items rest each is =
    let first = sequence_first i (flat_map (λ item. item) ended ++ rest) items each.0
    (subst (λ (l : List ℕ). IsItems l items) (append_assoc i (flat_map (λ item. item) ended) rest) is) in
    let behind = all_first ended first.0 rest each.1 first.2 in
    (behind.0, first.1 ∙ ap (λ (l : List (List ℕ)). i ∷ l) behind.1, behind.2)

pub split_first : (taken so_far rest : List ℕ) (ended items : List (List ℕ)) → Splits taken ended so_far
    → IsItems (taken ++ rest) items
    → (others : List (List ℕ)) × (items ≡ ended ++ others) × IsItems (so_far ++ rest) others
split_first taken so_far rest ended items s is = all_first ended items (so_far ++ rest) s.each
    (subst (λ (l : List ℕ). IsItems l items)
    (ap (λ (l : List ℕ). l ++ rest) s.whole ∙ append_assoc (flat_map (λ item. item) ended) so_far rest) is)

-- a whole item, or one that begins none and is the last
pub item_first : (item rest : List ℕ) (items : List (List ℕ))
    → IsSequence item ⊎ ((0 < length item) × (HasSequence item → ⊥) × (rest ≡ []))
    → IsItems (item ++ rest) items → (others : List (List ℕ)) × (items ≡ item ∷ others) × IsItems rest others
item_first item rest items (inl s) is = sequence_first item rest items s is
item_first item rest [] (inr last) is = absurd (omega (arith, last.0, ap length is, length-append item rest))
item_first item rest (i ∷ is) (inr last) (inl h) =
    let alone : item ++ rest ≡ item = ap (λ (l : List ℕ). item ++ l) last.2 ∙ append-nil item in
    absurd (last.1 (has_of item i h.0 h.1 (sym alone ∙ h.2)))
item_first item rest (i ∷ is) (inr last) (inr h) =
    let alone : item ++ rest ≡ item = ap (λ (l : List ℕ). item ++ l) last.2 ∙ append-nil item in
    (is, ap (λ (x : List ℕ). x ∷ is) (h.2 ∙ alone), rest_items is last.2 h.3)
  where
    rest_items : (others : List (List ℕ)) → rest ≡ [] → others ≡ [] → IsItems rest others
    rest_items [] none end = none
    rest_items (o ∷ os) none end = absurd cc

-- ---- what has begun

pub first_has : (so_far rest item : List ℕ) (others : List (List ℕ)) → (HasSequence so_far → IsSequence so_far)
    → IsItems (so_far ++ rest) (item ∷ others)
    → (more : List ℕ) × (item ≡ so_far ++ more) × (length so_far ≤ length item)
first_has so_far rest item others last (inr h) =
    (rest, h.2, omega (arith, ap length h.2, length-append so_far rest))
first_has so_far rest item others last (inl h) = elim (cases_lt (length item) (length so_far)) [
  | inl lt ↦
      let s = shorter so_far rest item h.0 h.2 (omega (arith, lt)) in
      let whole = last (has_of so_far item s.0 h.1 s.1) in
      absurd (omega (arith, lt, ap length (sequence_once so_far item rest h.0 whole h.1 h.2).0))
  | inr le ↦
      let s = shorter item h.0 so_far rest (sym h.2) le in
      (s.0, s.1, le)
]

pub front_splits : (octets rest : List ℕ) (items : List (List ℕ)) → IsItems (octets ++ rest) items
    → (ended : List (List ℕ)) × (so_far : List ℕ) × Splits octets ended so_far
front_splits octets rest [] is =
    ([], [], record { whole = front_nil octets rest is; each = tt; goes_on = none_of_none })
front_splits octets rest (i ∷ is) (inr last) =
    ([], octets, record { whole = refl; each = tt; goes_on = λ has. last.0 (longer has) })
  where
    longer : HasSequence octets → HasSequence (octets ++ rest)
    longer has = has_of (octets ++ rest) has.item (has.rest ++ rest) has.sequence
        (ap (λ (l : List ℕ). l ++ rest) has.text ∙ append_assoc has.item has.rest rest)
front_splits octets rest (i ∷ is) (inl h) = elim (cases_lt (length octets) (length i)) [
  | inl lt ↦ ([], octets, record { whole = refl; each = tt; goes_on = λ has. absurd (too_long has lt) })
  | inr le ↦
      let s = shorter octets rest i h.0 h.2 le in
      let more = front_splits s.0 rest is (subst (λ (l : List ℕ). IsItems l is) s.2 h.3) in (
        i ∷ more.0,
        more.1,
        record {
          whole = s.1 ∙ ap (λ (l : List ℕ). i ++ l) more.2.whole
              ∙ sym (append_assoc i (flat_map (λ item. item) more.0) more.1);
          each = (h.1, more.2.each);
          goes_on = more.2.goes_on;
        },
      )
]
  where
    too_long : HasSequence octets → length octets < length i → ⊥
    too_long has lt =
        let text : has.item ++ (has.rest ++ rest) ≡ i ++ h.0 =
        sym (append_assoc has.item has.rest rest) ∙ ap (λ (l : List ℕ). l ++ rest) (sym has.text) ∙ h.2 in
        let same = (sequence_once has.item i (has.rest ++ rest) h.0 has.sequence h.1 text).0 in
        omega (arith, lt, ap length same, ap length has.text, length-append has.item has.rest)
