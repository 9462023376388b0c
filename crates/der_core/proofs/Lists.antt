-- A loop that reads values one after the other: what was read before, and what is still read.
use Rattle.std.proofs.Common.{◌≡◌, ℕ, ◌<◌, List, [], ◌∷◌, ◌++◌, length, Option, Some, None, refl, sym, ap, ◌∙◌}
use Rattle.std.proofs.Common.{append_assoc}
use Rattle.std.proofs.Common.{Bool, true, false, eqb, inl, inr, arith}
use Rattle.std.proofs.lemmas.Bool.{eqb-false, eqb-true, cases_lt}
use Rattle.std.proofs.lemmas.List.{append-nil, nil_from_length}
use Rattle.der_core.specs.Reading.{◌>>?◌}
use Rattle.der_core.specs.Shapes.{Front, listed}
use Rattle.der_core.proofs.Shapes.{listed_more, listed_none, listed_end}

abbrev pub with_front : {V : Type 0} → List V → Option (List V) → Option (List V)
with_front front read = read >>? λ vs. Some (front ++ vs)

pub goes_on : {V : Type 0} (read : Front V) (total : Option (List V)) (front : List V) (bytes rest : List ℕ)
    (v : V) → ((bytes : List ℕ) (x : V × List ℕ) → read bytes ≡ Some x → length x.1 < length bytes)
    → total ≡ with_front front (listed read bytes) → read bytes ≡ Some (v, rest)
    → total ≡ with_front (front ++ v ∷ []) (listed read rest)
goes_on {V} read total front bytes rest v falls so_far is =
    so_far ∙ ap (with_front front) (listed_more read falls bytes (v, rest) is) ∙ regroup (listed read rest)
  where
    regroup : (r : Option (List V)) → with_front front (r >>? λ vs. Some (v ∷ vs)) ≡ with_front (front ++ v ∷ []) r
    regroup (Some vs) = ap (λ (x : List V). Some x) (sym (append_assoc front (v ∷ []) vs))
    regroup None = refl

pub stops : {V : Type 0} (read : Front V) (total : Option (List V)) (front : List V) (bytes : List ℕ)
    → 0 < length bytes → total ≡ with_front front (listed read bytes) → read bytes ≡ None → total ≡ None
stops read total front bytes some so_far is = so_far ∙ ap (with_front front) (listed_none read bytes some is)

pub ends : {V : Type 0} (read : Front V) (total : Option (List V)) (front : List V) (bytes : List ℕ)
    → bytes ≡ [] → total ≡ with_front front (listed read bytes) → total ≡ Some front
ends {V} read total front bytes none so_far =
    so_far ∙ ap (λ (b : List ℕ). with_front front (listed read b)) none
    ∙ ap (with_front front) (listed_end read) ∙ ap (λ (x : List V). Some x) (append-nil front)

-- what `at_end` says
pub some_left : (bytes : List ℕ) (b : Bool) → b ≡ eqb (length bytes) 0 → b ≡ false → 0 < length bytes
some_left bytes b is no-end =
    let never = eqb-false _ _ (sym is ∙ no-end) in
    elim (cases_lt 0 (length bytes)) [ inl lt ↦ lt | inr le ↦ absurd (never (omega (arith, le))) ]

pub none_left : (bytes : List ℕ) (b : Bool) → b ≡ eqb (length bytes) 0 → b ≡ true → bytes ≡ []
none_left bytes b is end = nil_from_length bytes (eqb-true _ _ (sym is ∙ end))
