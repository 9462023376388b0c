-- Octets that are attributes whose texts ascend, told in one pass.
use Rattle.std.proofs.Common.{◌≡◌, ◌↔◌, ℕ, zero, suc, ◌+◌, ◌<◌, List, [], ◌∷◌, length, map, Bool, true, false, cond}
use Rattle.std.proofs.Common.{IsTrue, Option, Some, None, refl, sym, ap, subst, ◌∙◌, arith}
use Rattle.std.specs.Prelude.{slice_index_or}
use Rattle.std.specs.List.Sorted.{IsSorted}
use Rattle.std.specs.Option.{option_map_or}
use Rattle.std.specs.Ordering.{nat_cmp, is_lt, is_some_and, partial_lt}
use Rattle.std.specs.Cmp.Lexicographic.{slice_cmp, slice_partial_cmp, lists_agrees}
use Rattle.std.proofs.lemmas.Bool.{false≢true}
use Rattle.std.proofs.lemmas.Option.{none-some}
use Rattle.der_core.specs.Attribute.{Attribute, attribute_text}
use Rattle.der_core.specs.AttributeReading.{attribute_at}
use Rattle.der_core.specs.Reading.{◌>>?◌}
use Rattle.der_core.specs.Shapes.{listed}
use Rattle.der_core.proofs.Listed.{listed_more, listed_none, listed_end}
use Rattle.attribute_set.specs.Items.{items_of, AreItems}
use Rattle.attribute_set.proofs.Readings.{attribute_at_falls}

abbrev pub is_less : List ℕ → List ℕ → Bool
is_less text last = is_lt (slice_cmp nat_cmp text last)

-- the test of the code
pub less_told : (text last : List ℕ) → partial_lt (slice_partial_cmp (λ x y. Some (nat_cmp x y))) text last ≡ is_less text last
less_told text last = ap (is_some_and is_lt) (lists_agrees {R = nat_cmp} (λ x y. refl) text last)

-- whether none is less than the one before it, of which `last` is the first
ascend_from : List ℕ → List (List ℕ) → Bool
ascend_from last [] = true
ascend_from last (text ∷ more) = cond (is_less text last) false (ascend_from text more)

texts_rise : List ℕ → Option (List Attribute) → Bool
texts_rise last read = option_map_or (λ these. ascend_from last (map attribute_text these)) read false

-- whether the octets are attributes whose texts ascend from one on
pub rise : List ℕ → List ℕ → Bool
rise last octets = texts_rise last (listed attribute_at octets)

-- ---- the pass

pub rise_more : (last octets rest : List ℕ) (a : Attribute) → attribute_at octets ≡ Some (a, rest)
    → rise last octets ≡ cond (is_less (attribute_text a) last) false (rise (attribute_text a) rest)
unfolding rise texts_rise ascend_from
rise_more last octets rest a is =
    ap (texts_rise last) (listed_more attribute_at attribute_at_falls octets (a, rest) is) ∙ same (listed attribute_at rest)
  where
    never : (b : Bool) → false ≡ cond b false false
    never true = refl
    never false = refl

    same : (read : Option (List Attribute)) → texts_rise last (read >>? λ more. Some (a ∷ more))
        ≡ cond (is_less (attribute_text a) last) false (texts_rise (attribute_text a) read)
    same None = never (is_less (attribute_text a) last)
    same (Some more) = refl

pub rise_none : (last octets : List ℕ) → 0 < length octets → attribute_at octets ≡ None → rise last octets ≡ false
unfolding rise texts_rise
rise_none last octets some is = ap (texts_rise last) (listed_none attribute_at octets some is)

pub rise_end : (last octets : List ℕ) → octets ≡ [] → rise last octets ≡ true
unfolding rise texts_rise ascend_from
rise_end last octets is =
    ap (λ (o : List ℕ). texts_rise last (listed attribute_at o)) is ∙ ap (texts_rise last) (listed_end attribute_at)

-- one is passed
pub rises_on : (total : Bool) (last octets rest text : List ℕ) (a : Attribute) → attribute_at octets ≡ Some (a, rest)
    → text ≡ attribute_text a → is_less text last ≡ false → total ≡ rise last octets → total ≡ rise text rest
rises_on total last octets rest text a is spelled above so_far =
    so_far ∙ rise_more last octets rest a is ∙ rw (← spelled, above) refl

-- one is less
pub rises_no_more : (total : Bool) (last octets rest text : List ℕ) (a : Attribute) → attribute_at octets ≡ Some (a, rest)
    → text ≡ attribute_text a → is_less text last ≡ true → total ≡ rise last octets → total ≡ false
rises_no_more total last octets rest text a is spelled below so_far =
    so_far ∙ rise_more last octets rest a is ∙ rw (← spelled, below) refl

-- ---- what the pass tells

not_less : (b c : Bool) → cond b false c ≡ true → (b ≡ false) × (c ≡ true)
not_less true c is = absurd (false≢true is)
not_less false c is = (refl, is)

up : (last : List ℕ) (texts : List (List ℕ)) → ascend_from last texts ≡ true → (k : ℕ) (d : List ℕ)
    → k + 1 < length (last ∷ texts)
    → is_less (slice_index_or (last ∷ texts) (k + 1) d) (slice_index_or (last ∷ texts) k d) ≡ false
unfolding ascend_from
up last [] is k d within = absurd (omega (arith, within))
up last (text ∷ more) is zero d within = (not_less (is_less text last) (ascend_from text more) is).0
up last (text ∷ more) is (suc k) d within =
    subst (λ (n : ℕ). is_less (slice_index_or (last ∷ text ∷ more) n d) (slice_index_or (text ∷ more) k d) ≡ false)
    {x = suc (k + 1)} {y = suc k + 1} (omega arith)
    (up text more (not_less (is_less text last) (ascend_from text more) is).1 k d (omega (arith, within)))

down : (last : List ℕ) (texts : List (List ℕ)) → IsSorted (slice_cmp nat_cmp) (last ∷ texts)
    → ascend_from last texts ≡ true
unfolding ascend_from
down last [] sorted = refl
down last (text ∷ more) sorted =
    rw (sorted 0 last (omega arith) (omega arith))
    (down text more (λ k d low within.
    subst (λ (n : ℕ). is_less (slice_index_or (last ∷ text ∷ more) n d) (slice_index_or (text ∷ more) k d) ≡ false)
    {x = suc k + 1} {y = suc (k + 1)} (omega arith) (sorted (suc k) d (omega arith) (omega (arith, within)))))

first_of_all : (text : List ℕ) → is_less text [] ≡ false
first_of_all [] = refl
first_of_all (b ∷ bs) = refl

sorted_up : (texts : List (List ℕ)) → ascend_from [] texts ≡ true → IsSorted (slice_cmp nat_cmp) texts
unfolding ascend_from
sorted_up [] is = λ k d low within. absurd (omega (arith, within))
sorted_up (text ∷ more) is = λ k d low within.
    up text more (not_less (is_less text []) (ascend_from text more) is).1 k d within

sorted_down : (texts : List (List ℕ)) → IsSorted (slice_cmp nat_cmp) texts → ascend_from [] texts ≡ true
unfolding ascend_from
sorted_down [] sorted = refl
sorted_down (text ∷ more) sorted = rw (first_of_all text) (down text more sorted)

pub ascends : (octets : List ℕ) (answer : Bool) → answer ≡ rise [] octets
    → IsTrue answer ↔ AreItems attribute_at octets
    × IsSorted (slice_cmp nat_cmp) (map attribute_text (items_of attribute_at octets))
unfolding rise texts_rise
ascends octets answer told = by_case (listed attribute_at octets) refl
  where
    by_case : (read : Option (List Attribute)) → listed attribute_at octets ≡ read
        → IsTrue answer ↔ AreItems attribute_at octets
        × IsSorted (slice_cmp nat_cmp) (map attribute_text (items_of attribute_at octets))
    by_case None e = (
      λ is. absurd (false≢true (sym (told ∙ ap (texts_rise []) e) ∙ is)),
      λ h. absurd (none-some (items_of attribute_at octets) (sym e ∙ h.0)),
    )
    by_case (Some these) e = (
      λ is. (rw e refl, rw e (sorted_up (map attribute_text these) (sym (told ∙ ap (texts_rise []) e) ∙ is))),
      λ h. told ∙ ap (texts_rise []) e ∙ sorted_down (map attribute_text these) (rw e at h.1),
    )
