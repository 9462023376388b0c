-- The items of a stream, and where a splitter stands in it.
use Rattle.std.proofs.Common.{◌≡◌, ℕ, zero, suc, ◌≤◌, List, [], ◌∷◌, ◌++◌, length, take, eqb, true, false, Option, Some, None, refl, sym, ap, subst, ◌∙◌, append_assoc, arith, inl, inr}
use Rattle.std.specs.List.{flat_map, AllByRecursion}
use Rattle.std.specs.Option.{option_map_or}
use Rattle.std.proofs.lemmas.Bool.{eqb-true}
use Rattle.std.proofs.lemmas.List.{append-nil, length-append, flat_map_more, nil_from_length}
use Rattle.der_core.specs.declared.splitter.Step.{Step}
use Rattle.der_core.specs.declared.splitter.Step.TheVariants.{More, Ends, Rest}
use Rattle.der_core.specs.Element.{enc}
use Rattle.der_core.specs.Reading.{tagged_of}
use Rattle.der_core.specs.Items.{IsSequence, HasSequence, IsItems, last_item, items_within, items, Splits}
use Rattle.der_core.specs.Progress.{Progress, Sees}
use Rattle.der_core.specs.Splitter.{IsStep, Stands, StandsAfter}
use Rattle.der_core.proofs.Digits.{AreOctets, AreOctets-right}
use Rattle.der_core.proofs.Places.{length-enc}
use Rattle.der_core.proofs.Shapes.{tagged_takes, tagged_again}
use Rattle.der_core.proofs.Theorems.{enc-one}
use Rattle.der_core.proofs.Sequences.{begins_from_has, none_of_none}

-- ---- one list of items

-- two elements at the front of octets are one
pub sequence_once : (item other rest rest' : List ℕ) → IsSequence item → IsSequence other
    → item ++ rest ≡ other ++ rest' → (item ≡ other) × (rest ≡ rest')
sequence_once item other rest rest' s t e =
    let both : enc 0x30 s.contents ++ rest ≡ enc 0x30 t.contents ++ rest' =
    ap (λ (x : List ℕ). x ++ rest) (sym s.text) ∙ e ∙ ap (λ (x : List ℕ). x ++ rest') t.text in
    let same = enc-one 0x30 0x30 s.contents t.contents rest rest' s.element t.element both in
    (s.text ∙ ap (enc 0x30) same.1 ∙ sym t.text, same.2)

pub has_of : (octets item rest : List ℕ) → IsSequence item → octets ≡ item ++ rest → HasSequence octets
has_of octets item rest s e = record { item = item; rest = rest; sequence = s; text = e }

pub sequence_some : (item rest : List ℕ) → IsSequence item → item ++ rest ≡ [] → ⊥
sequence_some item rest s e = none_of_none (has_of [] item rest s (sym e))

pub items_once : (octets : List ℕ) (these those : List (List ℕ)) → IsItems octets these → IsItems octets those
    → these ≡ those
items_once octets [] [] h g = refl
items_once octets [] (i ∷ is) h (inl g) = absurd (sequence_some i g.0 g.1 (sym g.2 ∙ h))
items_once octets [] (i ∷ is) h (inr g) = absurd (omega (arith, ap length h, g.1))
items_once octets (i ∷ is) [] (inl h) g = absurd (sequence_some i h.0 h.1 (sym h.2 ∙ g))
items_once octets (i ∷ is) [] (inr h) g = absurd (omega (arith, ap length g, h.1))
items_once octets (i ∷ is) (j ∷ js) (inl h) (inl g) =
    let same = sequence_once i j h.0 g.0 h.1 g.1 (sym h.2 ∙ g.2) in
    let rest = items_once h.0 is js h.3 (subst (λ (x : List ℕ). IsItems x js) (sym same.1) g.3) in
    ap (λ (x : List ℕ). x ∷ is) same.0 ∙ ap (λ (xs : List (List ℕ)). j ∷ xs) rest
items_once octets (i ∷ is) (j ∷ js) (inl h) (inr g) = absurd (g.0 (has_of octets i h.0 h.1 h.2))
items_once octets (i ∷ is) (j ∷ js) (inr h) (inl g) = absurd (h.0 (has_of octets j g.0 g.1 g.2))
items_once octets (i ∷ is) (j ∷ js) (inr h) (inr g) =
    ap (λ (x : List ℕ). x ∷ is) (h.2 ∙ sym g.2) ∙ ap (λ (xs : List (List ℕ)). j ∷ xs) (h.3 ∙ sym g.3)

pub items_joined : (octets : List ℕ) (these : List (List ℕ)) → IsItems octets these
    → flat_map (λ item. item) these ≡ octets
items_joined octets [] h = sym h
items_joined octets (i ∷ is) (inl h) = ap (λ (x : List ℕ). i ++ x) (items_joined h.0 is h.3) ∙ sym h.2
items_joined octets (i ∷ is) (inr h) = ap (λ (xs : List (List ℕ)). i ++ flat_map (λ item. item) xs) h.3
    ∙ append-nil i ∙ h.2

-- ---- what remains

last_items : (octets : List ℕ) → (HasSequence octets → ⊥) → IsItems octets (last_item octets)
last_items [] never = refl
last_items (o ∷ os) never = inr (never, omega arith, refl, refl)

-- ---- the items as they are read

no_sequence : (octets : List ℕ) → tagged_of 0x30 octets ≡ None → HasSequence octets → ⊥
no_sequence octets none h =
    let text : octets ≡ enc 0x30 h.sequence.contents ++ h.rest = h.text
    ∙ ap (λ (x : List ℕ). x ++ h.rest) h.sequence.text in
    let read : tagged_of 0x30 octets ≡ Some (h.sequence.contents, h.rest) = ap (tagged_of 0x30) text
    ∙ tagged_again 0x30 h.sequence.contents h.rest h.sequence.element in
    differ (sym none ∙ read)
  where
    differ : {x : List ℕ × List ℕ} → ◌≡◌ {A = Option (List ℕ × List ℕ)} None (Some x) → ⊥
    differ e = cc

within_is : (turns : ℕ) (octets : List ℕ) → length octets ≤ turns → AreOctets octets
    → IsItems octets (items_within turns octets)
within_is zero octets few are =
    let none : octets ≡ [] = nil_from_length octets (omega (arith, few)) in
    last_items octets (λ h. none_of_none (subst HasSequence none h))
within_is (suc turns) octets few are = by_front (tagged_of 0x30 octets) refl (λ rest. within_is turns rest)
  where
    by_front : (front : Option (List ℕ × List ℕ)) → tagged_of 0x30 octets ≡ front
        → ((rest : List ℕ) → length rest ≤ turns → AreOctets rest → IsItems rest (items_within turns rest))
        → IsItems octets (option_map_or (λ front. enc 0x30 front.0 ∷ items_within turns front.1) front
        (last_item octets))
    by_front None is others = last_items octets (no_sequence octets is)
    by_front (Some x) is others =
        let t = tagged_takes 0x30 octets x are is in
        let fewer : length x.1 ≤ turns =
        omega (arith, few, ap length t.1, length-append (enc 0x30 x.0) x.1, length-enc 0x30 x.0) in
        inl (
          x.1,
          record { contents = x.0; element = t.0; text = refl },
          t.1,
          others x.1 fewer (AreOctets-right (enc 0x30 x.0) x.1 (subst AreOctets t.1 are)),
        )

pub items_read : (octets : List ℕ) → AreOctets octets → IsItems octets (items octets)
unfolding items
items_read octets are = within_is (length octets) octets (omega arith) are

-- ---- a stream so far

-- the items of a stream that goes on from there
pub items_going_on : (stream : List ℕ) (ended : List (List ℕ)) (so_far rest : List ℕ) (others : List (List ℕ))
    → Splits stream ended so_far → IsItems (so_far ++ rest) others → IsItems (stream ++ rest) (ended ++ others)
items_going_on stream ended so_far rest others s h = by_items stream ended s.whole s.each
  where
    by_items : (octets : List ℕ) (these : List (List ℕ)) → octets ≡ flat_map (λ item. item) these ++ so_far
        → AllByRecursion IsSequence these → IsItems (octets ++ rest) (these ++ others)
    by_items octets [] whole each = subst (λ (x : List ℕ). IsItems (x ++ rest) others) (sym whole) h
    by_items octets (i ∷ is) whole each =
        let behind : List ℕ = flat_map (λ item. item) is ++ so_far in
        let text : octets ++ rest ≡ i ++ ((flat_map (λ item. item) is ++ so_far) ++ rest)
        = ap (λ (x : List ℕ). x ++ rest) (whole ∙ append_assoc i (flat_map (λ item. item) is) so_far)
        ∙ append_assoc i (flat_map (λ item. item) is ++ so_far) rest in
        inl (
          (flat_map (λ item. item) is ++ so_far) ++ rest,
          each.0,
          text,
          by_items (flat_map (λ item. item) is ++ so_far) is refl each.1,
        )

pub items_of_splits : (stream : List ℕ) (ended : List (List ℕ)) (so_far : List ℕ) → Splits stream ended so_far
    → IsItems stream (ended ++ last_item so_far)
items_of_splits stream ended so_far s =
    let last = subst (λ (x : List ℕ). IsItems x (last_item so_far)) (sym (append-nil so_far)) (last_items so_far s.goes_on) in
    subst (λ (x : List ℕ). IsItems x (ended ++ last_item so_far)) (append-nil stream)
    (items_going_on stream ended so_far [] (last_item so_far) s last)

all_more : (these : List (List ℕ)) (item : List ℕ) → AllByRecursion IsSequence these → IsSequence item
    → AllByRecursion IsSequence (these ++ item ∷ [])
all_more [] item each s = (s, tt)
all_more (i ∷ is) item each s = (each.0, all_more is item each.1 s)

splits_more : (stream : List ℕ) (ended : List (List ℕ)) (so_far piece : List ℕ) → Splits stream ended so_far
    → (HasSequence (so_far ++ piece) → ⊥) → Splits (stream ++ piece) ended (so_far ++ piece)
splits_more stream ended so_far piece s never = record {
  whole = ap (λ (x : List ℕ). x ++ piece) s.whole ∙ append_assoc (flat_map (λ item. item) ended) so_far piece;
  each = s.each;
  goes_on = never;
}

splits_end : (stream : List ℕ) (ended : List (List ℕ)) (so_far front : List ℕ) → Splits stream ended so_far
    → IsSequence (so_far ++ front)
    → Splits (stream ++ front) (ended ++ (so_far ++ front) ∷ []) []
splits_end stream ended so_far front s is = record {
  whole = ap (λ (x : List ℕ). x ++ front) s.whole
      ∙ append_assoc (flat_map (λ item. item) ended) so_far front
      ∙ flat_map_more (λ (item : List ℕ). item) [] ended (so_far ++ front)
      ∙ sym (append-nil (flat_map (λ item. item) (ended ++ (so_far ++ front) ∷ [])));
  each = all_more ended (so_far ++ front) s.each is;
  goes_on = none_of_none;
}

-- a stream so far is split in one way
pub split_once : (stream so_far so_far' : List ℕ) (ended ended' : List (List ℕ)) → Splits stream ended so_far
    → Splits stream ended' so_far' → (ended ≡ ended') × (so_far ≡ so_far')
split_once stream so_far so_far' ended ended' s t =
    go ended ended' s.each t.each (sym s.whole ∙ t.whole)
  where
    go : (these those : List (List ℕ)) → AllByRecursion IsSequence these → AllByRecursion IsSequence those
        → flat_map (λ item. item) these ++ so_far ≡ flat_map (λ item. item) those ++ so_far'
        → (these ≡ those) × (so_far ≡ so_far')
    go [] [] each each' e = (refl, e)
    go [] (j ∷ js) each each' e =
        absurd (s.goes_on (has_of so_far j (flat_map (λ item. item) js ++ so_far') each'.0
        (e ∙ append_assoc j (flat_map (λ item. item) js) so_far')))
    go (i ∷ is) [] each each' e =
        absurd (t.goes_on (has_of so_far' i (flat_map (λ item. item) is ++ so_far) each.0
        (sym e ∙ append_assoc i (flat_map (λ item. item) is) so_far)))
    go (i ∷ is) (j ∷ js) each each' e =
        let same = sequence_once i j (flat_map (λ item. item) is ++ so_far) (flat_map (λ item. item) js ++ so_far')
        each.0 each'.0 (sym (append_assoc i (flat_map (λ item. item) is) so_far) ∙ e
        ∙ append_assoc j (flat_map (λ item. item) js) so_far') in
        let rest = go is js each.1 each'.1 same.1 in
        (ap (λ (x : List ℕ). x ∷ is) same.0 ∙ ap (λ (xs : List (List ℕ)). j ∷ xs) rest.0, rest.1)

-- ---- a splitter in the stream

pub stands_fresh : (seen : Progress) → Sees seen [] → Stands seen [] [] []
stands_fresh seen sees = record {
  splits = record { whole = refl; each = tt; goes_on = none_of_none };
  awaits = inl (sees, none_of_none);
}

pub stands_step : (seen : Progress) (stream : List ℕ) (ended : List (List ℕ)) (so_far piece : List ℕ)
    (step : Step) → Splits stream ended so_far → IsStep so_far piece seen step
    → StandsAfter stream ended so_far piece seen step
stands_step seen stream ended so_far piece More s h =
    record { splits = splits_more stream ended so_far piece s h.1; awaits = inl (h.2, h.1) }
stands_step seen stream ended so_far piece (Ends n) s h =
    record {
      splits = splits_end stream ended so_far (take n piece) s h.0;
      awaits =
          inr (so_far ++ take n piece, h.0, h.1, refl);
    }
stands_step seen stream ended so_far piece Rest s h =
    let never : HasSequence (so_far ++ piece) → ⊥ = λ has. h.0 (begins_from_has (so_far ++ piece) has) in
    record { splits = splits_more stream ended so_far piece s never; awaits = inl (h.1, never) }

-- ---- a loop that keeps where it stands

pub stands_at : (seen : Progress) (stream stream' : List ℕ) (ended ended' : List (List ℕ))
    (so_far so_far' : List ℕ) → Stands seen stream ended so_far
    → stream ≡ stream' → ended ≡ ended' → so_far ≡ so_far' → Stands seen stream' ended' so_far'
stands_at seen stream stream' ended ended' so_far so_far' h s e f =
    subst (λ (x : List ℕ). Stands seen stream' ended' x) f
    (subst (λ (xs : List (List ℕ)). Stands seen stream' xs so_far) e
    (subst (λ (x : List ℕ). Stands seen x ended so_far) s h))

-- an answer that ends no item
pub stands_on : (seen : Progress) (stream : List ℕ) (ended : List (List ℕ)) (so_far piece : List ℕ)
    (step : Step) → ((n : ℕ) → step ≡ Ends n → ⊥)
    → StandsAfter stream ended so_far piece seen step → Stands seen (stream ++ piece) ended (so_far ++ piece)
stands_on seen stream ended so_far piece More never h = h
stands_on seen stream ended so_far piece (Ends n) never h = absurd (never n refl)
stands_on seen stream ended so_far piece Rest never h = h

-- what remains at a stream's end
pub items_some : (octets all : List ℕ) (these others : List (List ℕ)) (so_far : List ℕ) → all ≡ octets
    → IsItems all (these ++ last_item so_far)
    → eqb (length so_far) 0 ≡ false → others ≡ these ++ so_far ∷ [] → IsItems octets others
items_some octets all these others [] same h some is = absurd cc
items_some octets all these others (o ∷ os) same h some is =
    subst (λ (xs : List (List ℕ)). IsItems octets xs) (sym is)
    (subst (λ (x : List ℕ). IsItems x (these ++ (o ∷ os) ∷ [])) same h)

pub items_none : (octets all : List ℕ) (these others : List (List ℕ)) (so_far : List ℕ) → all ≡ octets
    → IsItems all (these ++ last_item so_far)
    → eqb (length so_far) 0 ≡ true → others ≡ these → IsItems octets others
items_none octets all these others [] same h none is =
    subst (λ (xs : List (List ℕ)). IsItems octets xs) (append-nil these ∙ sym is)
    (subst (λ (x : List ℕ). IsItems x (these ++ [])) same h)
items_none octets all these others (o ∷ os) same h none is = absurd (omega (arith, eqb-true _ _ none))
