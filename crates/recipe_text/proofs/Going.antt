-- A draft keeps what the lines so far say.
use Rattle.std.proofs.Common.{◌≡◌, ℕ, ◌+◌, true, false, List, [], ◌∷◌, ◌++◌, length, Ok, Err, refl, sym, ◌∙◌, ap}
use Rattle.std.proofs.Common.{subst, arith, length-append}
use Rattle.recipe_text.specs.declared.bad_line.BadLine.{BadLine}
use Rattle.recipe_text.specs.declared.bad_line.RecipeFault.TheVariants.{Bad}
use Rattle.recipe_text.specs.Answer.{Gives, Refuses}
use Rattle.recipe_text.specs.Lines.{IsLine, is_skipped, Rules, Recipe, FirstBad}
use Rattle.recipe_text.specs.Passing.{Skips}
use Rattle.recipe_text.specs.Taking.{Takes}
use Rattle.recipe_text.proofs.Entries.{IsClosed}
use Rattle.recipe_text.proofs.Recipes.{Passed, passed_none, rules_of, RecipeOf, skip_on, line_on, bad_next, bad_end, is_recipe}
use Rattle.recipe_text.proofs.Recipes.{one_recipe, gives_plan, refuses_none, gives_none, refuses_line}

-- So many lines are passed, and what they say is p.
pub record Going {E P : Type 0} (says : List ℕ → E → Type 0) (parts : List E → P) (IsFit : P → Type 0)
    (text rest : List ℕ) (number : ℕ) (p : P) : Type 0 where
  pub lines : List (List ℕ)
  pub entries : List E
  pub passed : Passed says text lines rest entries
  pub counted : number ≡ length lines
  pub said : p ≡ parts entries
  pub fits : IsFit p

-- The next line that counts.
pub record IsNext (rest line after : List ℕ) (skipped : List (List ℕ)) : Type 0 where
  pub skips : Skips rest skipped (line ++ 10 ∷ after)
  pub whole : IsLine line
  pub counts : is_skipped line ≡ false

module _ {E P V Q : Type 0} (says : List ℕ → E → Type 0) (IsFit IsWhole : P → Type 0) (parts : List E → P)
    (grow : P → E → P) (more : (es : List E) (e : E) → parts (es ++ e ∷ []) ≡ grow (parts es) e)
    (closed : IsClosed (λ (es : List E). IsFit (parts es))) (plan_parts : V → P) (view : Q → V)
    (same : (v w : V) → plan_parts v ≡ plan_parts w → v ≡ w) (text : List ℕ) where
  abbrev rules : Rules E
  rules = rules_of says (λ (es : List E). IsFit (parts es)) (λ (es : List E). IsWhole (parts es))

  pub going_start : (number : ℕ) (p : P) → number ≡ 0 → p ≡ parts [] → IsFit p → Going says parts IsFit text text number p
  going_start number p none said fits = record {
    lines = [];
    entries = [];
    passed = passed_none says text;
    counted = none;
    said = said;
    fits = fits;
  }

  module _ (rest : List ℕ) (number : ℕ) (p : P) (g : Going says parts IsFit text rest number p) where
    pub going_on : (line after : List ℕ) (skipped : List (List ℕ)) (now : ℕ) (q : P) → IsNext rest line after skipped
        → now ≡ number + length skipped + 1 → Takes (says line) IsFit grow p q true
        → Going says parts IsFit text after now q
    going_on line after skipped now q n count t =
        let skip = skip_on says (λ (es : List E). IsFit (parts es)) (λ (es : List E). IsWhole (parts es)) text g.lines rest
        g.entries g.passed skipped (line ++ 10 ∷ after) n.skips in
        record {
          lines = (g.lines ++ skipped) ++ line ∷ [];
          entries = g.entries ++ t.0 ∷ [];
          passed = line_on says (λ (es : List E). IsFit (parts es)) (λ (es : List E). IsWhole (parts es)) text
              (g.lines ++ skipped) (line ++ 10 ∷ after) g.entries skip line after t.0 refl n.whole n.counts (t.1, t.2);
          counted = omega (
            arith,
            count,
            g.counted,
            length-append (g.lines ++ skipped) (line ∷ []),
            length-append g.lines skipped,
          );
          said = t.3 ∙ ap (λ (x : P). grow x t.0) g.said ∙ sym (more g.entries t.0);
          fits = t.4;
        }

    pub going_bad : (line after : List ℕ) (skipped : List (List ℕ)) (now : ℕ) (q : P) → IsNext rest line after skipped
        → now ≡ number + length skipped + 1 → Takes (says line) IsFit grow p q false → FirstBad rules text now
    going_bad line after skipped now q n count t =
        let skip = skip_on says (λ (es : List E). IsFit (parts es)) (λ (es : List E). IsWhole (parts es)) text g.lines rest
        g.entries g.passed skipped (line ++ 10 ∷ after) n.skips in
        let bad = bad_next says (λ (es : List E). IsFit (parts es)) (λ (es : List E). IsWhole (parts es)) text
        (g.lines ++ skipped) (line ++ 10 ∷ after) g.entries skip line after refl n.whole n.counts
        (subst IsFit g.said g.fits) (λ e says-e over.
        t e says-e (subst IsFit (more g.entries e ∙ ap (λ (x : P). grow x e) (sym g.said)) over)) in
        let is : length (g.lines ++ skipped) + 1 ≡ now = omega (arith, count, g.counted, length-append g.lines skipped) in
        subst (FirstBad rules text) is bad

    pub going_end : (after : List ℕ) (skipped : List (List ℕ)) (now : ℕ) → Skips rest skipped after
        → now ≡ number + length skipped → Going says parts IsFit text after now p
    going_end after skipped now s count = record {
      lines = g.lines ++ skipped;
      entries = g.entries;
      passed = skip_on says (λ (es : List E). IsFit (parts es)) (λ (es : List E). IsWhole (parts es)) text g.lines rest
          g.entries g.passed skipped after s;
      counted = omega (arith, count, g.counted, length-append g.lines skipped);
      said = g.said;
      fits = g.fits;
    }

    pub bad_behind : IsLine rest → (rest ≡ [] → IsWhole p → ⊥) → FirstBad rules text (number + 1)
    bad_behind last bad =
        let b = bad_end says (λ (es : List E). IsFit (parts es)) (λ (es : List E). IsWhole (parts es)) text g.lines rest
        g.entries g.passed last (subst IsFit g.said g.fits) (λ whole nothing.
        bad nothing (subst IsWhole (sym g.said) whole)) in
        subst (λ (n : ℕ). FirstBad rules text (n + 1)) (sym g.counted) b

    recipe : rest ≡ [] → IsWhole p → Recipe rules text g.entries
    recipe nothing whole =
        is_recipe says (λ (es : List E). IsFit (parts es)) (λ (es : List E). IsWhole (parts es)) text g.lines rest
        g.entries g.passed nothing (subst IsFit g.said g.fits) (subst IsWhole g.said whole)

    pub gives : rest ≡ [] → IsWhole p → (q : Q) → p ≡ plan_parts (view q)
        → Gives view (Ok q) (RecipeOf rules parts plan_parts text)
    gives nothing whole q is =
        gives_plan says (λ (es : List E). IsFit (parts es)) (λ (es : List E). IsWhole (parts es)) closed parts plan_parts
        view text same q g.entries (recipe nothing whole)
        (one_recipe says (λ (es : List E). IsFit (parts es)) (λ (es : List E). IsWhole (parts es)) text g.lines rest
        g.entries g.passed nothing) (sym g.said ∙ is)

    pub refuses : rest ≡ [] → IsWhole p → (q : Q) → Refuses {P = Q} (Ok q) (FirstBad rules text)
    refuses nothing whole q =
        refuses_none {P = P} {V = V} says (λ (es : List E). IsFit (parts es)) (λ (es : List E). IsWhole (parts es)) closed
        parts plan_parts view text q g.entries (recipe nothing whole)

    pub plan_recipe : rest ≡ [] → IsWhole p → (v : V) → p ≡ plan_parts v → RecipeOf rules parts plan_parts text v
    plan_recipe nothing whole v is = (g.entries, recipe nothing whole, sym g.said ∙ is)

  pub gives_bad : (m : ℕ) (line : BadLine) → FirstBad rules text m
      → Gives view (Err (Bad line)) (RecipeOf rules parts plan_parts text)
  gives_bad m line bad =
      gives_none says (λ (es : List E). IsFit (parts es)) (λ (es : List E). IsWhole (parts es)) closed parts plan_parts
      view text m line bad

  pub refuses_bad : (m : ℕ) (line : BadLine) → line.0 ≡ m → FirstBad rules text m
      → Refuses {P = Q} (Err (Bad line)) (FirstBad rules text)
  refuses_bad m line is bad =
      refuses_line {P = P} {V = V} says (λ (es : List E). IsFit (parts es)) (λ (es : List E). IsWhole (parts es)) closed
      parts plan_parts view text m line is bad
