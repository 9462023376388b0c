-- A reader goes through the lines of a recipe, entry by entry.
use Rattle.std.proofs.Common.{◌≡◌, ℕ, ◌+◌, ◌<◌, ◌≤◌, false, List, [], ◌∷◌, ◌++◌, length, Ok, Err, refl, sym, ◌∙◌, ap, subst}
use Rattle.std.proofs.Common.{arith, append_assoc, length-append}
use Rattle.std.specs.List.{AllByRecursion, AllZip, flat_map}
use Rattle.std.proofs.lemmas.List.{append-nil}
use Rattle.std.proofs.lemmas.List.Concat.{flat_map-append}
use Rattle.recipe_text.specs.declared.bad_line.BadLine.{BadLine}
use Rattle.recipe_text.specs.declared.bad_line.RecipeFault.TheVariants.{Bad}
use Rattle.recipe_text.specs.Answer.{Gives, Refuses}
use Rattle.recipe_text.specs.Lines.{IsLine, IsText, lines_text, kept, is_skipped, Rules, Recipe, FirstBad}
use Rattle.recipe_text.specs.Passing.{Skips}
use Rattle.recipe_text.specs.Taking.{grown}
use Rattle.recipe_text.proofs.Texts.{text_on, all-append, kept-append, kept_line, one_text}
use Rattle.recipe_text.proofs.Entries.{IsClosed, one_first, recipe_good, bad_here, bad_behind}

-- ---- entries of lines, one for one

zip_more : {A B : Type 0} (R : A → B → Type 0) (xs : List A) (es : List B) (x : A) (e : B) → AllZip R xs es → R x e
    → AllZip R (xs ++ x ∷ []) (es ++ e ∷ [])
zip_more R [] [] x e h r = (r, tt)
zip_more R [] (f ∷ fs) x e h r = absurd h
zip_more R (y ∷ ys) [] x e h r = absurd h
zip_more R (y ∷ ys) (f ∷ fs) x e h r = (h.0, zip_more R ys fs x e h.1 r)

zip_last : {A B : Type 0} (R : A → B → Type 0) (xs : List A) (x : A) (fs : List B) → AllZip R (xs ++ x ∷ []) fs
    → (front : List B) × (f : B) × (fs ≡ front ++ f ∷ []) × AllZip R xs front × R x f
zip_last R [] x [] h = absurd h
zip_last R [] x (f ∷ []) h = ([], f, refl, tt, h.0)
zip_last R [] x (f ∷ g ∷ gs) h = absurd h.1
zip_last R (y ∷ ys) x [] h = absurd h
zip_last R (y ∷ ys) x (f ∷ fs) h =
    let t = zip_last R ys x fs h.1 in (f ∷ t.0, t.1, ap (λ (l : List _). f ∷ l) t.2, (h.0, t.3), t.4)

-- the line says this entry, and no other
abbrev pub SaysOne : {E : Type 0} → (List ℕ → E → Type 0) → List ℕ → E → Type 0
SaysOne {E} says line e = says line e × ((f : E) → says line f → f ≡ e)

zip_says : {E : Type 0} (says : List ℕ → E → Type 0) (xs : List (List ℕ)) (es : List E) → AllZip (SaysOne says) xs es
    → AllZip says xs es
zip_says says [] [] h = tt
zip_says says [] (e ∷ es) h = absurd h
zip_says says (x ∷ xs) [] h = absurd h
zip_says says (x ∷ xs) (e ∷ es) h = (h.0.0, zip_says says xs es h.1)

zip_same : {E : Type 0} (says : List ℕ → E → Type 0) (xs : List (List ℕ)) (es fs : List E)
    → AllZip (SaysOne says) xs es → AllZip says xs fs → fs ≡ es
zip_same says [] [] [] h k = refl
zip_same says [] [] (f ∷ fs) h k = absurd k
zip_same says [] (e ∷ es) fs h k = absurd h
zip_same says (x ∷ xs) [] fs h k = absurd h
zip_same says (x ∷ xs) (e ∷ es) [] h k = absurd k
zip_same says (x ∷ xs) (e ∷ es) (f ∷ fs) h k =
    let first : f ≡ e = h.0.1 f k.0 in
    let others : fs ≡ es = zip_same says xs es fs h.1 k.1 in
    λ i. first i ∷ others i

-- ---- lines that are passed

-- Lines are passed, and say these entries.
pub record Passed {E : Type 0} (says : List ℕ → E → Type 0) (text : List ℕ) (lines : List (List ℕ)) (rest : List ℕ)
    (entries : List E) : Type 0 where
  pub parts : text ≡ lines_text lines ++ rest
  pub each : AllByRecursion IsLine lines
  pub said : AllZip (SaysOne says) (kept lines) entries

pub passed_none : {E : Type 0} (says : List ℕ → E → Type 0) (text : List ℕ) → Passed says text [] text []
passed_none says text = record { parts = refl; each = tt; said = tt }

-- the rules of a recipe
abbrev pub rules_of : {E : Type 0} → (List ℕ → E → Type 0) → (List E → Type 0) → (List E → Type 0) → Rules E
rules_of says Fits Whole = record { says = says; fit = Fits; whole = Whole }

module _ {E : Type 0} (says : List ℕ → E → Type 0) (Fits Whole : List E → Type 0) (text : List ℕ)
    (lines : List (List ℕ)) (rest : List ℕ) (entries : List E) (p : Passed says text lines rest entries) where
  pub skip_on : (skipped : List (List ℕ)) (after : List ℕ) → Skips rest skipped after
      → Passed says text (lines ++ skipped) after entries
  skip_on skipped after s = record {
    parts =
        p.parts ∙ ap (λ (m : List ℕ). lines_text lines ++ m) s.text
        ∙ sym (append_assoc (lines_text lines) (lines_text skipped) after)
        ∙ ap (λ (m : List ℕ). m ++ after) (sym (flat_map-append (λ (l : List ℕ). l ++ 10 ∷ []) lines skipped));
    each = all-append IsLine lines skipped p.each s.lines;
    said =
        subst (λ (k : List (List ℕ)). AllZip (SaysOne says) k entries)
        (sym (kept-append lines skipped ∙ ap (λ (k : List (List ℕ)). kept lines ++ k) s.none ∙ append-nil (kept lines)))
        p.said;
  }

  with_line : (line : List ℕ) → is_skipped line ≡ false → kept (lines ++ line ∷ []) ≡ kept lines ++ line ∷ []
  with_line line counts =
      kept-append lines (line ∷ []) ∙ ap (λ (k : List (List ℕ)). kept lines ++ k) (kept_line line counts)

  pub line_on : (line after : List ℕ) (e : E) → rest ≡ line ++ 10 ∷ after → IsLine line → is_skipped line ≡ false
      → SaysOne says line e → Passed says text (lines ++ line ∷ []) after (entries ++ e ∷ [])
  line_on line after e is whole counts one = record {
    parts = p.parts ∙ ap (λ (m : List ℕ). lines_text lines ++ m) is ∙ sym (text_on lines line after);
    each = all-append IsLine lines (line ∷ []) p.each (whole, tt);
    said =
        subst (λ (k : List (List ℕ)). AllZip (SaysOne says) k (entries ++ e ∷ [])) (sym (with_line line counts))
        (zip_more (SaysOne says) (kept lines) entries line e p.said one);
  }

  -- the next line says nothing that may stand
  pub bad_next : (line after : List ℕ) → rest ≡ line ++ 10 ∷ after → IsLine line → is_skipped line ≡ false
      → Fits entries → ((e : E) → says line e → Fits (entries ++ e ∷ []) → ⊥)
      → FirstBad (rules_of says Fits Whole) text (length lines + 1)
  bad_next line after is whole counts fits none =
      bad_here text lines line after (p.parts ∙ ap (λ (m : List ℕ). lines_text lines ++ m) is) p.each whole
      (entries, zip_says says (kept lines) entries p.said, fits) (λ said.
      let zipped = subst (λ (k : List (List ℕ)). AllZip says k said.0) (with_line line counts) said.1 in
      let t = zip_last says (kept lines) line said.0 zipped in
      let same : t.0 ≡ entries = zip_same says (kept lines) entries t.0 p.said t.3 in
      none t.1 t.4 (subst Fits (t.2 ∙ ap (λ (fs : List E). fs ++ t.1 ∷ []) same) said.2))

  -- no line is left, and something is missing or left over
  pub bad_end : IsLine rest → Fits entries → (Whole entries → rest ≡ [] → ⊥)
      → FirstBad (rules_of says Fits Whole) text (length lines + 1)
  bad_end last fits bad =
      bad_behind text lines rest p.parts p.each last (entries, zip_says says (kept lines) entries p.said, fits)
      (λ said nothing.
      let same : said.0 ≡ entries = zip_same says (kept lines) entries said.0 p.said said.1 in
      bad (subst Whole same said.2) nothing)

  is_text : rest ≡ [] → IsText text lines []
  is_text nothing = record {
    parts = p.parts ∙ ap (λ (r : List ℕ). lines_text lines ++ r) nothing;
    each = p.each;
    last = tt;
  }

  pub is_recipe : rest ≡ [] → Fits entries → Whole entries → Recipe (rules_of says Fits Whole) text entries
  is_recipe nothing fits whole =
      (lines, is_text nothing, zip_says says (kept lines) entries p.said, fits, whole)

  pub one_recipe : rest ≡ [] → (fs : List E) → Recipe (rules_of says Fits Whole) text fs → fs ≡ entries
  one_recipe nothing fs r =
      let same = one_text text r.0 lines [] [] r.1 (is_text nothing) in
      zip_same says (kept lines) entries fs p.said
      (subst (λ (l : List (List ℕ)). AllZip says (kept l) fs) same.0 r.2)

-- ---- what is answered

-- a text with these entries is a recipe of what says just this
abbrev pub RecipeOf : {E P V : Type 0} → Rules E → (List E → P) → (V → P) → List ℕ → V → Type 0
RecipeOf {E} rules parts plan_parts text v = (es : List E) × Recipe rules text es × (parts es ≡ plan_parts v)

module _ {E P V Q : Type 0} (says : List ℕ → E → Type 0) (Fits Whole : List E → Type 0) (closed : IsClosed Fits)
    (parts : List E → P) (plan_parts : V → P) (view : Q → V) (text : List ℕ) where
  pub gives_plan : ((v w : V) → plan_parts v ≡ plan_parts w → v ≡ w) → (q : Q) (entries : List E)
      → Recipe (rules_of says Fits Whole) text entries
      → ((fs : List E) → Recipe (rules_of says Fits Whole) text fs → fs ≡ entries)
      → parts entries ≡ plan_parts (view q)
      → Gives view (Ok q) (RecipeOf (rules_of says Fits Whole) parts plan_parts text)
  gives_plan same q entries recipe one is v = (
    λ e. (entries, recipe, is ∙ ap plan_parts e),
    λ other. same (view q) v (sym is ∙ ap parts (sym (one other.0 other.1)) ∙ other.2),
  )

  pub refuses_none : (q : Q) (entries : List E) → Recipe (rules_of says Fits Whole) text entries
      → Refuses {P = Q} (Ok q) (FirstBad (rules_of says Fits Whole) text)
  refuses_none q entries recipe n bad = recipe_good closed text n entries recipe bad

  pub gives_none : (m : ℕ) (line : BadLine) → FirstBad (rules_of says Fits Whole) text m
      → Gives view (Err (Bad line)) (RecipeOf (rules_of says Fits Whole) parts plan_parts text)
  gives_none m line bad v other = recipe_good closed text m other.0 other.1 bad

  pub refuses_line : (m : ℕ) (line : BadLine) → line.0 ≡ m → FirstBad (rules_of says Fits Whole) text m
      → Refuses {P = Q} (Err (Bad line)) (FirstBad (rules_of says Fits Whole) text)
  refuses_line m line is bad n = (
    λ same. subst (FirstBad (rules_of says Fits Whole) text) (sym is ∙ same) bad,
    λ other. is ∙ one_first closed text m n bad other,
  )

-- ---- lists of what lines say

to_grown : {A : Type 0} (xs ys : List A) → xs ++ (ys ++ []) ≡ grown xs ys
to_grown xs [] = append-nil xs
to_grown xs (y ∷ ys) = ap (λ (zs : List _). xs ++ y ∷ zs) (append-nil ys)

pub one_more : {E A : Type 0} (f : E → List A) (es : List E) (e : E)
    → flat_map f (es ++ e ∷ []) ≡ grown (flat_map f es) (f e)
one_more f es e = flat_map-append f es (e ∷ []) ∙ to_grown (flat_map f es) (f e)

-- those of the first lines are no more
pub no_more : {E A : Type 0} (f : E → List A) (front back : List E) (n : ℕ)
    → length (flat_map f (front ++ back)) ≤ n → length (flat_map f front) ≤ n
no_more f front back n few =
    omega (
      arith,
      few,
      ap length (flat_map-append f front back),
      length-append (flat_map f front) (flat_map f back),
    )

-- the rest is shorter by a line
pub shorter : (rest line after : List ℕ) (skipped : List (List ℕ)) → Skips rest skipped (line ++ 10 ∷ after)
    → length after < length rest
shorter rest line after skipped s =
    omega (
      arith,
      ap length s.text,
      length-append (lines_text skipped) (line ++ 10 ∷ after),
      length-append line (10 ∷ after),
    )
