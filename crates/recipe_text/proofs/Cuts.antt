-- Octets are cut at the first octet of a kind.
use Rattle.std.proofs.Common.{◌≡◌, ◌≢◌, ℕ, zero, suc, ◌+◌, ◌-◌, ◌<◌, ◌≤◌, List, [], ◌∷◌, ◌++◌}
use Rattle.std.proofs.Common.{length, take, drop, Option}
use Rattle.std.proofs.Common.{Some, None, refl, sym, ◌∙◌, ap, subst, arith, eqb, eqb-true, eq-eqb, ne_eqb, inl, inr}
use Rattle.std.specs.Prelude.{slice_index}
use Rattle.std.specs.List.{AllByRecursion}
use Rattle.std.proofs.lemmas.Bool.{cases_Bool, eqb-false}
use Rattle.std.proofs.lemmas.List.{take_all, length-drop}
use Rattle.std.proofs.lemmas.Option.{none-some}
use Rattle.der_core.specs.Reading.{◌>>?◌}
use Rattle.der_core.proofs.Numbers.{some_bind, some_is}
use Rattle.memchr.specs.Find.{IsFirstByte, is_byte}
use Rattle.recipe_text.specs.Reading.{cut}

-- ---- by the octets

abbrev pub Without : ℕ → List ℕ → Type 0
Without c octets = AllByRecursion (λ o. o ≢ c) octets

pub cut_takes : (c : ℕ) (octets : List ℕ) (x : List ℕ × List ℕ) → cut c octets ≡ Some x
    → Without c x.0 × (octets ≡ x.0 ++ c ∷ x.1)
unfolding cut
cut_takes c [] x e = absurd (none-some x e)
cut_takes c (o ∷ os) x e = elim (cases_Bool (eqb o c)) [
  | inl is ↦
      subst (λ (y : List ℕ × List ℕ). Without c y.0 × (o ∷ os ≡ y.0 ++ c ∷ y.1)) (some_is ([], os) x (rw is at e))
      (tt, ap (λ (k : ℕ). k ∷ os) (eqb-true o c is))
  | inr isnt ↦
      let b = some_bind (cut c os) (λ y. Some (o ∷ y.0, y.1)) x (rw isnt at e) in
      let t = cut_takes c os b.0 b.1 in
      subst (λ (y : List ℕ × List ℕ). Without c y.0 × (o ∷ os ≡ y.0 ++ c ∷ y.1)) (some_is (o ∷ b.0.0, b.0.1) x b.2)
      ((λ same. eqb-false o c isnt same, t.0), ap (λ (ys : List ℕ). o ∷ ys) t.1)
]

pub cut_again : (c : ℕ) (front back : List ℕ) → Without c front → cut c (front ++ c ∷ back) ≡ Some (front, back)
unfolding cut
cut_again c [] back h = rw (eq-eqb c c refl) refl
cut_again c (o ∷ os) back h = rw (ne_eqb o c h.0, cut_again c os back h.1) refl

-- an octet stands before
abbrev after : ℕ → Option (List ℕ × List ℕ) → Option (List ℕ × List ℕ)
after o r = r >>? λ x. Some (o ∷ x.0, x.1)

pub none_cut : (c : ℕ) (octets : List ℕ) → cut c octets ≡ None → Without c octets
unfolding cut
none_cut c [] e = tt
none_cut c (o ∷ os) e = elim (cases_Bool (eqb o c)) [
  | inl is ↦ absurd (none-some ([], os) (sym (rw is at e)))
  | inr isnt ↦ (λ same. eqb-false o c isnt same, none_cut c os (inner (cut c os) (rw isnt at e)))
]
  where
    inner : (r : Option (List ℕ × List ℕ)) → after o r ≡ None → r ≡ None
    inner None e = refl
    inner (Some x) e = absurd (none-some (o ∷ x.0, x.1) (sym e))

-- ---- by the first place

at_none : (c : ℕ) (octets : List ℕ) → ((k : ℕ) → k < length octets → slice_index octets k ≡ c → ⊥) → cut c octets ≡ None
unfolding cut
at_none c [] none = refl
at_none c (o ∷ os) none =
    rw (
      ne_eqb o c (λ same. none 0 (omega arith) same),
      at_none c os (λ k lt same. none (suc k) (omega (arith, lt)) same),
    ) refl

at_place : (c : ℕ) (octets : List ℕ) (place : ℕ) → place < length octets → slice_index octets place ≡ c
    → ((k : ℕ) → k < place → slice_index octets k ≡ c → ⊥)
    → cut c octets ≡ Some (take place octets, drop (suc place) octets)
unfolding cut
at_place c [] place lt is none = absurd (omega (arith, lt))
at_place c (o ∷ os) zero lt is none = rw (eq-eqb o c is) refl
at_place c (o ∷ os) (suc place) lt is none =
    rw (
      ne_eqb o c (λ same. none 0 (omega arith) same),
      at_place c os place (omega (arith, lt)) is (λ k less same. none (suc k) (omega (arith, less)) same),
    ) refl

pub first_none : (c : ℕ) (octets : List ℕ) → IsFirstByte (is_byte c) octets None → cut c octets ≡ None
first_none c octets none = at_none c octets (λ k lt same. none k (omega arith) lt (eq-eqb _ c same))

pub first_place : (c : ℕ) (octets : List ℕ) (place : ℕ) → IsFirstByte (is_byte c) octets (Some place)
    → cut c octets ≡ Some (take place octets, take (length octets - (place + 1)) (drop (place + 1) octets))
first_place c octets place h =
    let next : suc place ≡ place + 1 = omega arith in
    let back = drop (place + 1) octets in
    let size : length back ≤ length octets - (place + 1) = omega (arith, length-drop (place + 1) octets) in
    at_place c octets place h.0.high (eqb-true _ c h.1)
    (λ k less same. h.0.before k (omega arith) less (eq-eqb _ c same))
    ∙ ap (λ (n : ℕ). Some (take place octets, drop n octets)) next
    ∙ ap (λ (b : List ℕ). Some (take place octets, b)) (sym (take_all (length octets - (place + 1)) back size))
