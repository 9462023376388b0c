-- Where the reader of key recipes stops, the text is a recipe, or its first bad line is known.
use Rattle.std.proofs.Common.{◌≡◌, ℕ, ◌+◌, true, false, List, [], ◌∷◌, ◌++◌, length, Option, Some, None, Result, Ok}
use Rattle.std.proofs.Common.{Err, refl, sym, ◌∙◌, ap, subst, arith, append_assoc, length-append}
use Rattle.std.specs.Prelude.{◌↔◌, is_some, is_ok, IfSome, IfNone}
use Rattle.std.specs.List.{AllByRecursion, AllZip}
use Rattle.std.proofs.lemmas.Bool.{false≢true}
use Rattle.std.proofs.lemmas.List.Concat.{flat_map-append}
use Rattle.lms_sign.specs.declared.key.SignKey.{SignKey}
use Rattle.recipe_text.specs.declared.bad_line.BadLine.{BadLine}
use Rattle.recipe_text.specs.Lines.{IsLine, lines_text, kept, is_skipped, Say}
use Rattle.recipe_text.specs.KeyRecipe.{IsKeyLine, IsOneAtMost, KeyRecipe, FirstBadKeyLine}
use Rattle.recipe_text.specs.Passing.{Skips}
use Rattle.recipe_text.proofs.Texts.{text_on, all-append, kept-append, kept_line, one_text}
use Rattle.recipe_text.proofs.Entries.{IsClosed, one_first, recipe_good, bad_here, bad_behind}
use Rattle.recipe_text.proofs.KeyLines.{one_key}

-- ---- what the contract asks, by what is known

pub closed : IsClosed IsOneAtMost
closed front back h = omega (arith, h, length-append front back)

two_keys : (lines : List (List ℕ)) (k l : SignKey) → AllZip IsKeyLine lines (k ∷ [])
    → AllZip IsKeyLine lines (l ∷ []) → k ≡ l
two_keys [] k l x y = absurd x
two_keys (line ∷ lines) k l x y = one_key line k l x.0 y.0

-- a text is a recipe of one key
pub one_key_recipe : (text : List ℕ) (key other : SignKey) → KeyRecipe text key → KeyRecipe text other → key ≡ other
one_key_recipe text key other r s =
    let lines = one_text text r.0 s.0 [] [] r.1 s.1 in
    two_keys (kept s.0) key other (subst (λ (l : List (List ℕ)). AllZip IsKeyLine (kept l) (key ∷ [])) lines.0 r.2) s.2

-- and has no first bad line then
pub key_has_no_bad_line : (text : List ℕ) (key : SignKey) (n : ℕ) → KeyRecipe text key → FirstBadKeyLine text n → ⊥
key_has_no_bad_line text key n r bad = recipe_good closed text n (key ∷ []) r bad

ok_is : (k l : SignKey) → ◌≡◌ {A = Result SignKey BadLine} (Ok k) (Ok l) → k ≡ l
ok_is k l same = ap (λ (r : Result SignKey BadLine). elim r [ Ok x ↦ x | Err e ↦ k ]) same

pub good_of_ok : (text : List ℕ) (key : SignKey) → KeyRecipe text key
    → (k : SignKey) → (◌≡◌ {A = Result SignKey BadLine} (Ok key) (Ok k)) ↔ KeyRecipe text k
good_of_ok text key r k = (
  λ same. subst (KeyRecipe text) (ok_is key k same) r,
  λ other.
      let lines = one_text text r.0 other.0 [] [] r.1 other.1 in
      ap Ok (two_keys (kept other.0) key k (subst (λ (l : List (List ℕ)). AllZip IsKeyLine (kept l)
      (key ∷ [])) lines.0 r.2) other.2),
)

pub bad_of_ok : (text : List ℕ) (key : SignKey) → KeyRecipe text key → (n : ℕ) → ⊥ ↔ FirstBadKeyLine text n
bad_of_ok text key r n = (λ no. absurd no, λ bad. recipe_good closed text n (key ∷ []) r bad)

pub good_of_err : (text : List ℕ) (m : ℕ) (b : BadLine) → FirstBadKeyLine text m
    → (k : SignKey) → (◌≡◌ {A = Result SignKey BadLine} (Err b) (Ok k)) ↔ KeyRecipe text k
good_of_err text m b bad k = (
  λ same. absurd (false≢true (ap is_ok same)),
  λ r. absurd (recipe_good closed text m (k ∷ []) r bad),
)

pub bad_of_err : (text : List ℕ) (m : ℕ) (b : ℕ) → b ≡ m → FirstBadKeyLine text m → (n : ℕ)
    → (b ≡ n) ↔ FirstBadKeyLine text n
bad_of_err text m b is bad n = (
  λ same. subst (FirstBadKeyLine text) (sym is ∙ same) bad,
  λ other. is ∙ one_first closed text m n bad other,
)

-- ---- what the lines say

none_said : (keys : List SignKey) → AllZip IsKeyLine [] keys → length keys ≡ 0
none_said [] h = refl
none_said (k ∷ ks) h = absurd h

one_said : (line : List ℕ) (keys : List SignKey) → AllZip IsKeyLine (line ∷ []) keys → (key : SignKey)
    × IsKeyLine line key
one_said line [] h = absurd h
one_said line (k ∷ ks) h = (k, h.0)

two_said : (line other : List ℕ) (keys : List SignKey) → AllZip IsKeyLine (line ∷ other ∷ []) keys → length keys ≡ 2
two_said line other [] h = absurd h
two_said line other (k ∷ []) h = absurd h.1
two_said line other (k ∷ l ∷ []) h = refl
two_said line other (k ∷ l ∷ m ∷ ms) h = absurd h.1.1

-- skipped lines, and one that counts
kept_one : (skipped : List (List ℕ)) (line : List ℕ) → kept skipped ≡ [] → is_skipped line ≡ false
    → kept (skipped ++ line ∷ []) ≡ line ∷ []
kept_one skipped line none counts =
    kept-append skipped (line ∷ []) ∙ ap (λ (k : List (List ℕ)). k ++ kept (line ∷ [])) none ∙ kept_line line counts

none_may : (skipped : List (List ℕ)) → kept skipped ≡ [] → Say IsKeyLine IsOneAtMost skipped
none_may skipped none = ([], subst (λ (k : List (List ℕ)). AllZip IsKeyLine k []) (sym none) tt, omega arith)

-- ---- no line counts

pub no_line : (text rest : List ℕ) (skipped : List (List ℕ)) → Skips text skipped rest → IsLine rest
    → FirstBadKeyLine text (length skipped + 1)
no_line text rest skipped s last =
    bad_behind text skipped rest s.text s.lines last (none_may skipped s.none) (λ said nothing.
    let keys = none_said said.0 (subst (λ (k : List (List ℕ)). AllZip IsKeyLine k said.0) s.none said.1) in
    omega (arith, keys, said.2))

-- ---- the first that counts is no key line

pub no_key : (text line after : List ℕ) (skipped : List (List ℕ)) → Skips text skipped (line ++ 10 ∷ after)
    → IsLine line → is_skipped line ≡ false → ((key : SignKey) → IsKeyLine line key → ⊥)
    → FirstBadKeyLine text (length skipped + 1)
no_key text line after skipped s is counts none =
    bad_here text skipped line after s.text s.lines is (none_may skipped s.none) (λ said.
    let k = one_said line said.0 (subst (λ (k : List (List ℕ)). AllZip IsKeyLine k said.0)
    (kept_one skipped line s.none counts) said.1) in
    none k.0 k.1)

-- ---- one key line is passed

-- Lines of which one counts are passed, and it says the key.
pub record Passed (text : List ℕ) (key : SignKey) (lines : List (List ℕ)) (rest : List ℕ) : Type 0 where
  pub parts : text ≡ lines_text lines ++ rest
  pub each : AllByRecursion IsLine lines
  pub line : List ℕ
  pub one : kept lines ≡ line ∷ []
  pub says : IsKeyLine line key

pub passed_one : (text line mid rest : List ℕ) (key : SignKey) (before between : List (List ℕ))
    → Skips text before (line ++ 10 ∷ mid) → IsLine line → is_skipped line ≡ false → IsKeyLine line key
    → Skips mid between rest → Passed text key ((before ++ line ∷ []) ++ between) rest
passed_one text line mid rest key before between s is counts says t = record {
  parts =
      s.text ∙ sym (text_on before line mid)
      ∙ ap (λ (m : List ℕ). lines_text (before ++ line ∷ []) ++ m) t.text
      ∙ sym (append_assoc (lines_text (before ++ line ∷ [])) (lines_text between) rest)
      ∙ ap (λ (m : List ℕ). m ++ rest) (sym (flat_map-append (λ (l : List ℕ). l ++ 10 ∷ [])
      (before ++ line ∷ []) between));
  each = all-append IsLine (before ++ line ∷ []) between (all-append IsLine before (line ∷ []) s.lines
      (is, tt)) t.lines;
  line = line;
  one =
      kept-append (before ++ line ∷ []) between
      ∙ ap (λ (k : List (List ℕ)). k ++ kept between) (kept_one before line s.none counts)
      ∙ ap (λ (k : List (List ℕ)). (line ∷ []) ++ k) t.none;
  says = says;
}

one_may : (text rest : List ℕ) (key : SignKey) (lines : List (List ℕ)) → Passed text key lines rest
    → AllZip IsKeyLine (kept lines) (key ∷ [])
one_may text rest key lines p = subst (λ (k : List (List ℕ)). AllZip IsKeyLine k (key ∷ [])) (sym p.one) (p.says, tt)

pub another : (text line after : List ℕ) (key : SignKey) (lines : List (List ℕ))
    → Passed text key lines (line ++ 10 ∷ after) → IsLine line → is_skipped line ≡ false
    → FirstBadKeyLine text (length lines + 1)
another text line after key lines p is counts =
    bad_here text lines line after p.parts p.each is (key ∷ [], one_may text _ key lines p, omega arith) (λ said.
    let both : kept (lines ++ line ∷ []) ≡ p.line ∷ line ∷ [] =
    kept-append lines (line ∷ []) ∙ ap (λ (k : List (List ℕ)). k ++ kept (line ∷ [])) p.one
    ∙ ap (λ (k : List (List ℕ)). (p.line ∷ []) ++ k) (kept_line line counts) in
    let size = two_said p.line line said.0 (subst (λ (k : List (List ℕ)). AllZip IsKeyLine k said.0) both said.1) in
    omega (arith, size, said.2))

pub left_over : (text rest : List ℕ) (key : SignKey) (lines : List (List ℕ)) → Passed text key lines rest
    → IsLine rest → (rest ≡ [] → ⊥) → FirstBadKeyLine text (length lines + 1)
left_over text rest key lines p last more =
    bad_behind text lines rest p.parts p.each last (key ∷ [], one_may text rest key lines p, omega arith)
    (λ said nothing. more nothing)

pub whole : (text rest : List ℕ) (key : SignKey) (lines : List (List ℕ)) → Passed text key lines rest → rest ≡ []
    → KeyRecipe text key
whole text rest key lines p nothing = (
  lines,
  record {
    parts = p.parts ∙ ap (λ
        (r : List ℕ). lines_text lines ++ r) nothing;
    each = p.each;
    last = tt;
  },
  one_may text rest key lines p,
  omega arith,
  refl,
)

-- ---- options

pub some_of : {A : Type 0} (r : Option A) (P : A → Type 0) → is_some r ≡ true → IfSome r P → (x : A) × P x
some_of None P is h = absurd (false≢true is)
some_of (Some x) P is h = (x, h)

pub none_of : {A : Type 0} (r : Option A) (P : Type 0) → is_some r ≡ false → IfNone r P → P
none_of None P is h = h
none_of (Some x) P is h = absurd (false≢true (sym is))
