-- A text has one first bad line, or is a recipe.
use Rattle.std.proofs.Common.{◌≡◌, ℕ, ◌+◌, ◌≤◌, List, [], ◌∷◌, ◌++◌, length, take, drop, refl, sym, ◌∙◌, ap, subst}
use Rattle.std.proofs.Common.{arith, inl, inr, ◌⊎◌, append_assoc, length-append}
use Rattle.std.specs.List.{AllByRecursion, AllZip}
use Rattle.std.proofs.lemmas.Bool.{cases_lt}
use Rattle.std.proofs.lemmas.List.{take-append-drop, take-take, take_at}
use Rattle.recipe_text.specs.Lines.{IsLine, IsText, lines_text, kept, Say, Rules, Recipe, BadAt, BadBehind, FirstBad}
use Rattle.recipe_text.proofs.Texts.{kept-append, splits, one_text, all-append}

-- the entries that the first lines say
zip_front : {A B : Type 0} (R : A → B → Type 0) (xs ys : List A) (es : List B) → AllZip R (xs ++ ys) es
    → (front : List B) × (back : List B) × (es ≡ front ++ back) × AllZip R xs front
zip_front R [] ys es h = ([], es, refl, tt)
zip_front R (x ∷ xs) ys [] h = absurd h
zip_front R (x ∷ xs) ys (e ∷ es) h =
    let t = zip_front R xs ys es h.1 in (e ∷ t.0, t.1, ap (λ (l : List _). e ∷ l) t.2, (h.0, t.3))

-- with entries, those before them may stand
abbrev pub IsClosed : {E : Type 0} → (List E → Type 0) → Type 0
IsClosed {E} Fits = (front back : List E) → Fits (front ++ back) → Fits front

say_front : {E : Type 0} (IsEntry : List ℕ → E → Type 0) {Fits : List E → Type 0} → IsClosed Fits
    → (xs ys : List (List ℕ)) → Say IsEntry Fits (xs ++ ys) → Say IsEntry Fits xs
say_front {E} IsEntry {Fits} closed xs ys h =
    let zipped = subst (λ (k : List (List ℕ)). AllZip IsEntry k h.0) (kept-append xs ys) h.1 in
    let t = zip_front IsEntry (kept xs) (kept ys) h.0 zipped in
    (t.0, t.3, closed t.0 t.1 (subst Fits t.2 h.2))

say_less : {E : Type 0} (IsEntry : List ℕ → E → Type 0) {Fits : List E → Type 0} → IsClosed Fits
    → (lines : List (List ℕ)) (j k : ℕ) → j ≤ k → Say IsEntry Fits (take k lines) → Say IsEntry Fits (take j lines)
say_less {E} IsEntry {Fits} closed lines j k le h =
    let cut = sym (take-append-drop j (take k lines)) ∙ ap (λ (f : List (List ℕ)). f ++ drop j (take k lines))
    (take-take j k lines le) in
    say_front IsEntry closed (take j lines) (drop j (take k lines)) (subst (Say IsEntry Fits) cut h)

say_all : {E : Type 0} (IsEntry : List ℕ → E → Type 0) {Fits : List E → Type 0} → IsClosed Fits
    → (lines : List (List ℕ)) (j : ℕ) → Say IsEntry Fits lines → Say IsEntry Fits (take j lines)
say_all {E} IsEntry {Fits} closed lines j h =
    say_front IsEntry closed (take j lines) (drop j lines) (subst (Say IsEntry Fits) (sym (take-append-drop j lines)) h)

-- ---- one first bad line

one_at : {E : Type 0} {IsEntry : List ℕ → E → Type 0} {Fits : List E → Type 0} → IsClosed Fits
    → (lines : List (List ℕ)) (m n : ℕ) → BadAt IsEntry Fits lines m → BadAt IsEntry Fits lines n → n ≤ m
one_at {E} {IsEntry} closed lines m n x y = elim (cases_lt x.before y.before) [
  | inl lt ↦ absurd (x.bad (say_less IsEntry closed lines (x.before + 1) y.before (omega (arith, lt)) y.good))
  | inr le ↦ omega (arith, le, x.number, y.number)
]

one_line : {E : Type 0} {IsEntry : List ℕ → E → Type 0} {Fits Whole : List E → Type 0} → IsClosed Fits
    → (lines : List (List ℕ)) (rest : List ℕ) (m n : ℕ)
    → BadAt IsEntry Fits lines m ⊎ BadBehind IsEntry Fits Whole lines rest m
    → BadAt IsEntry Fits lines n ⊎ BadBehind IsEntry Fits Whole lines rest n → m ≡ n
one_line {E} {IsEntry} closed lines rest m n (inl x) (inl y) =
    omega (arith, one_at closed lines m n x y, one_at closed lines n m y x)
one_line {E} {IsEntry} closed lines rest m n (inl x) (inr y) =
    absurd (x.bad (say_all IsEntry closed lines (x.before + 1) y.good))
one_line {E} {IsEntry} closed lines rest m n (inr x) (inl y) =
    absurd (y.bad (say_all IsEntry closed lines (y.before + 1) x.good))
one_line {E} {IsEntry} closed lines rest m n (inr x) (inr y) = x.number ∙ sym y.number

abbrev rules : {E : Type 0} → (List ℕ → E → Type 0) → (List E → Type 0) → (List E → Type 0) → Rules E
rules IsEntry Fits Whole = record { says = IsEntry; fit = Fits; whole = Whole }

pub one_first : {E : Type 0} {IsEntry : List ℕ → E → Type 0} {Fits Whole : List E → Type 0} → IsClosed Fits
    → (text : List ℕ) (m n : ℕ) → FirstBad (rules IsEntry Fits Whole) text m → FirstBad (rules IsEntry Fits Whole) text n → m ≡ n
one_first {E} {IsEntry} {Fits} {Whole} closed text m n x y =
    let same = one_text text x.0 y.0 x.1 y.1 x.2 y.2 in
    let other = subst (λ (r : List ℕ). BadAt IsEntry Fits x.0 n ⊎ BadBehind IsEntry Fits Whole x.0 r n) (sym same.1)
    (subst (λ (l : List (List ℕ)). BadAt IsEntry Fits l n ⊎ BadBehind IsEntry Fits Whole l y.1 n) (sym same.0) y.3) in
    one_line closed x.0 x.1 m n x.3 other

-- ---- a recipe has none

not_bad : {E : Type 0} {IsEntry : List ℕ → E → Type 0} {Fits Whole : List E → Type 0} → IsClosed Fits
    → (lines : List (List ℕ)) (rest : List ℕ) (n : ℕ) → Say IsEntry Fits lines → Say IsEntry Whole lines → rest ≡ []
    → BadAt IsEntry Fits lines n ⊎ BadBehind IsEntry Fits Whole lines rest n → ⊥
not_bad {E} {IsEntry} closed lines rest n fits whole nothing (inl x) = x.bad (say_all IsEntry closed lines
    (x.before + 1) fits)
not_bad {E} {IsEntry} closed lines rest n fits whole nothing (inr x) = x.bad whole nothing

pub recipe_good : {E : Type 0} {IsEntry : List ℕ → E → Type 0} {Fits Whole : List E → Type 0} → IsClosed Fits
    → (text : List ℕ) (n : ℕ) (entries : List E) → Recipe (rules IsEntry Fits Whole) text entries
    → FirstBad (rules IsEntry Fits Whole) text n → ⊥
recipe_good {E} {IsEntry} {Fits} {Whole} closed text n entries r x =
    let same = one_text text r.0 x.0 [] x.1 r.1 x.2 in
    not_bad closed x.0 x.1 n
    (subst (Say IsEntry Fits) same.0 (entries, r.2, r.3)) (subst (Say IsEntry Whole) same.0 (entries, r.2, r.4))
    (sym same.1) x.3

-- ---- where the reader stops

pub bad_here : {E : Type 0} {IsEntry : List ℕ → E → Type 0} {Fits Whole : List E → Type 0}
    (text : List ℕ) (passed : List (List ℕ)) (line after : List ℕ) → text ≡ lines_text passed ++ (line ++ 10 ∷ after)
    → AllByRecursion IsLine passed → IsLine line → Say IsEntry Fits passed
    → (Say IsEntry Fits (passed ++ line ∷ []) → ⊥)
    → FirstBad (rules IsEntry Fits Whole) text (length passed + 1)
bad_here {E} {IsEntry} {Fits} {Whole} text passed line after is all-lines is-line good bad =
    let t = splits after in
    let lines = passed ++ line ∷ t.0 in
    let more : lines ≡ (passed ++ line ∷ []) ++ t.0 = sym (append_assoc passed (line ∷ []) t.0) in
    let front : take (length passed) lines ≡ passed = take_at passed (line ∷ t.0) (length passed) refl in
    let with-it : take (length passed + 1) lines ≡ passed ++ line ∷ [] =
    ap (take (length passed + 1)) more
    ∙ take_at (passed ++ line ∷ []) t.0 (length passed + 1) (length-append passed (line ∷ [])) in (
      lines,
      t.1,
      record {
        parts = is ∙ whole passed line after t.0 t.1 t.2;
        each = all-append IsLine passed (line ∷ t.0) all-lines (is-line, t.2.each);
        last = t.2.last;
      },
      inl (record {
        before = length passed;
        number = refl;
        there = omega (arith, length-append passed (line ∷ t.0));
        good = subst (Say IsEntry Fits) (sym front) good;
        bad = λ h. bad (subst (Say IsEntry Fits) with-it h);
      }),
    )
  where
    whole : (passed : List (List ℕ)) (line after : List ℕ) (more : List (List ℕ)) (rest : List ℕ)
        → IsText after more rest → lines_text passed ++ (line ++ 10 ∷ after) ≡ lines_text
        (passed ++ line ∷ more) ++ rest
    whole [] line after more rest t = ap (λ (a : List ℕ). line ++ 10 ∷ a) t.parts ∙ simp (append_assoc)
    whole (p ∷ ps) line after more rest t =
        append_assoc (p ++ 10 ∷ []) (lines_text ps) (line ++ 10 ∷ after)
        ∙ ap (λ (l : List ℕ). (p ++ 10 ∷ []) ++ l) (whole ps line after more rest t)
        ∙ sym (append_assoc (p ++ 10 ∷ []) (lines_text (ps ++ line ∷ more)) rest)

pub bad_behind : {E : Type 0} {IsEntry : List ℕ → E → Type 0} {Fits Whole : List E → Type 0}
    (text : List ℕ) (passed : List (List ℕ)) (rest : List ℕ) → text ≡ lines_text passed ++ rest
    → AllByRecursion IsLine passed → IsLine rest → Say IsEntry Fits passed
    → (Say IsEntry Whole passed → rest ≡ [] → ⊥) → FirstBad (rules IsEntry Fits Whole) text (length passed + 1)
bad_behind text passed rest is all-lines last good bad = (
  passed,
  rest,
  record { parts = is; each = all-lines; last = last },
  inr (record { number = refl; good = good; bad = bad }),
)
