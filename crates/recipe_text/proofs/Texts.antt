-- A text has one list of whole lines and one rest.
use Rattle.std.proofs.Common.{◌≡◌, ◌≢◌, ℕ, List, [], ◌∷◌, ◌++◌, Some, true, false, not, refl, sym, ◌∙◌, ap, subst}
use Rattle.std.proofs.Common.{eqb, eqb-true, inl, inr, ◌⊎◌, append_assoc}
use Rattle.std.specs.List.{AllByRecursion}
use Rattle.std.proofs.lemmas.Bool.{cases_Bool, eqb-false}
use Rattle.std.proofs.lemmas.List.Concat.{flat_map-append}
use Rattle.std.proofs.lemmas.List.Elements.{filter-append}
use Rattle.der_core.proofs.Numbers.{some_is}
use Rattle.recipe_text.specs.Lines.{IsLine, IsText, lines_text, kept, is_skipped}
use Rattle.recipe_text.specs.Passing.{Skips}
use Rattle.recipe_text.specs.Reading.{cut}
use Rattle.recipe_text.proofs.Cuts.{cut_again}

-- ---- lists

pub all-append : {X : Type 0} (P : X → Type 0) (xs ys : List X) → AllByRecursion P xs → AllByRecursion P ys
    → AllByRecursion P (xs ++ ys)
all-append P [] ys h k = k
all-append P (x ∷ xs) ys h k = (h.0, all-append P xs ys h.1 k)

all_last : {X : Type 0} (P : X → Type 0) (xs : List X) (y : X) (ys : List X) → AllByRecursion P (xs ++ y ∷ ys) → P y
all_last P [] y ys h = h.0
all_last P (x ∷ xs) y ys h = all_last P xs y ys h.1

pub kept-append : (a b : List (List ℕ)) → kept (a ++ b) ≡ kept a ++ kept b
kept-append a b = filter-append (λ line. not (is_skipped line)) a b

pub kept_line : (line : List ℕ) → is_skipped line ≡ false → kept (line ∷ []) ≡ line ∷ []
kept_line line counts = rw counts refl

-- ---- one more line

head_text : (line : List ℕ) (lines : List (List ℕ)) (rest : List ℕ)
    → lines_text (line ∷ lines) ++ rest ≡ line ++ 10 ∷ (lines_text lines ++ rest)
head_text line lines rest = simp (append_assoc)

pub text_on : (passed : List (List ℕ)) (line after : List ℕ)
    → lines_text (passed ++ line ∷ []) ++ after ≡ lines_text passed ++ (line ++ 10 ∷ after)
text_on passed line after =
    ap (λ (t : List ℕ). t ++ after) (flat_map-append (λ (l : List ℕ). l ++ 10 ∷ []) passed (line ∷ []))
    ∙ append_assoc (lines_text passed) (lines_text (line ∷ [])) after
    ∙ ap (λ (t : List ℕ). lines_text passed ++ t) (head_text line [] after)

-- one more line is skipped
pub skip_more : (octets rest line after : List ℕ) (skipped : List (List ℕ)) → Skips octets skipped rest
    → IsLine line → rest ≡ line ++ 10 ∷ after → is_skipped line ≡ true → Skips octets (skipped ++ line ∷ []) after
skip_more octets rest line after skipped h is same skip = record {
  text = h.text ∙ ap (λ (t : List ℕ). lines_text skipped ++ t) same ∙ sym (text_on skipped line after);
  lines = all-append IsLine skipped (line ∷ []) h.lines (is, tt);
  none = kept-append skipped (line ∷ []) ∙ rw (h.none, skip) refl;
}

-- ---- each text has its lines

pub splits : (text : List ℕ) → (lines : List (List ℕ)) × (rest : List ℕ) × IsText text lines rest
splits [] = ([], [], record { parts = refl; each = tt; last = tt })
splits (o ∷ os) = let t = splits os in more t.0 t.1 t.2 (cases_Bool (eqb o 10))
  where
    more : (lines : List (List ℕ)) (rest : List ℕ) → IsText os lines rest → (eqb o 10 ≡ true) ⊎ (eqb o 10 ≡ false)
        → (lines : List (List ℕ)) × (rest : List ℕ) × IsText (o ∷ os) lines rest
    more lines rest t (inl is) = (
      [] ∷ lines,
      rest,
      record {
        parts = rw (eqb-true o 10 is) (ap (λ (ys : List ℕ). 10 ∷ ys) t.parts);
        each = (tt, t.each);
        last = t.last;
      },
    )
    more [] rest t (inr isnt) = (
      [],
      o ∷ rest,
      record {
        parts = ap (λ (ys : List ℕ). o ∷ ys) t.parts;
        each = tt;
        last = (λ e. eqb-false o 10 isnt e, t.last);
      },
    )
    more (line ∷ lines) rest t (inr isnt) = (
      (o ∷ line) ∷ lines,
      rest,
      record {
        parts = ap (λ (ys : List ℕ). o ∷ ys) t.parts;
        each = ((λ e. eqb-false o 10 isnt e, t.each.0), t.each.1);
        last = t.last;
      },
    )

-- ---- and no others

same_parts : (a b : List (List ℕ)) (r s : List ℕ) → AllByRecursion IsLine a → AllByRecursion IsLine b → IsLine r
    → IsLine s
    → lines_text a ++ r ≡ lines_text b ++ s → (a ≡ b) × (r ≡ s)
same_parts [] [] r s all-a all-b last-r last-s e = (refl, e)
same_parts [] (m ∷ ms) r s all-a all-b last-r last-s e =
    absurd (all_last (λ (o : ℕ). o ≢ 10) m 10 (lines_text ms ++ s) (subst IsLine (e ∙ head_text m ms s) last-r) refl)
same_parts (l ∷ ls) [] r s all-a all-b last-r last-s e =
    absurd (all_last (λ (o : ℕ). o ≢ 10) l 10 (lines_text ls ++ r) (subst IsLine (sym e
    ∙ head_text l ls r) last-s) refl)
same_parts (l ∷ ls) (m ∷ ms) r s all-a all-b last-r last-s e =
    let both : Some (l, lines_text ls ++ r) ≡ Some (m, lines_text ms ++ s) =
    sym (cut_again 10 l (lines_text ls ++ r) all-a.0) ∙ ap (cut 10) (sym (head_text l ls r) ∙ e ∙ head_text m ms s)
    ∙ cut_again 10 m (lines_text ms ++ s) all-b.0 in
    let parts = some_is _ _ both in
    let rest = same_parts ls ms r s all-a.1 all-b.1 last-r last-s (ap (λ x. x.1) parts) in
    (rw (ap (λ x. x.0) parts, rest.0) refl, rest.1)

pub one_text : (text : List ℕ) (a b : List (List ℕ)) (r s : List ℕ) → IsText text a r → IsText text b s
    → (a ≡ b) × (r ≡ s)
one_text text a b r s x y = same_parts a b r s x.each y.each x.last y.last (sym x.parts ∙ y.parts)
