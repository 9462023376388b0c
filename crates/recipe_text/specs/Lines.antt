-- The lines of a recipe, and which of them is the first bad one; this project's own. The octet 0A ends a line, 20
-- parts words and 23 (`#`) begins a comment.
use Rattle.std.specs.Prelude.{◌≡◌, ◌≢◌, ◌⊎◌, ℕ, ◌+◌, ◌<◌, Bool, true, not, ◌==◌, List, [], ◌∷◌, ◌++◌, length, take, Ok}
use Rattle.std.specs.List.{AllByRecursion, AllZip, filter, flat_map, join_with_byte}
use Rattle.hex.specs.Hex.{decode_of}

-- ---- texts and lines

-- octets without 0A
abbrev pub IsLine : List ℕ → Type 0
IsLine octets = AllByRecursion (λ o. o ≢ 10) octets

-- whole lines, each followed by 0A
abbrev pub lines_text : List (List ℕ) → List ℕ
lines_text lines = flat_map (λ line. line ++ 10 ∷ []) lines

-- A text is its whole lines, and then a rest without 0A.
pub record IsText (text : List ℕ) (lines : List (List ℕ)) (rest : List ℕ) : Type 0 where
  pub parts : text ≡ lines_text lines ++ rest
  pub each : AllByRecursion IsLine lines
  pub last : IsLine rest

-- an empty line, and a line that begins with `#`, are skipped
abbrev pub is_skipped : List ℕ → Bool
is_skipped [] = true
is_skipped (o ∷ os) = o == 35

-- the lines that count
abbrev pub kept : List (List ℕ) → List (List ℕ)
kept lines = filter (λ line. not (is_skipped line)) lines

-- ---- words

-- words that are parted by one space
abbrev pub spaced : List (List ℕ) → List ℕ
spaced words = join_with_byte 32 words

-- HEX: an even number of hex digits of either case, two at least
abbrev pub IsHex : List ℕ → List ℕ → Type 0
IsHex word octets = (0 < length word) × (decode_of word ≡ Ok octets)

-- ---- recipes

-- The rules of a kind of recipe: what entry a line says, which entries may stand together, and which of those are a
-- whole recipe.
pub record Rules (E : Type 0) : Type 1 where
  pub says : List ℕ → E → Type 0
  pub fit : List E → Type 0
  pub whole : List E → Type 0

-- each line that counts says one of the entries, in their order, and the entries are as they must be
abbrev pub Say : {E : Type 0} → (List ℕ → E → Type 0) → (List E → Type 0) → List (List ℕ) → Type 0
Say {E} IsEntry Fits lines = (entries : List E) × AllZip IsEntry (kept lines) entries × Fits entries

-- a text of whole lines that say these entries, which fit and are whole
abbrev pub Recipe : {E : Type 0} → Rules E → List ℕ → List E → Type 0
Recipe rules text entries =
    (lines : List (List ℕ)) × IsText text lines [] × AllZip rules.says (kept lines) entries
    × rules.fit entries × rules.whole entries

-- Line n, counted from 1, is bad: the lines before it are good together, and with it they aren't.
pub record BadAt {E : Type 0} (IsEntry : List ℕ → E → Type 0) (Fits : List E → Type 0)
    (lines : List (List ℕ)) (n : ℕ) : Type 0 where
  pub before : ℕ
  pub number : n ≡ before + 1
  pub there : before < length lines
  pub good : Say IsEntry Fits (take before lines)
  pub bad : Say IsEntry Fits (take (before + 1) lines) → ⊥

-- All whole lines are good together, but a needed one is missing or something stands behind the last of them: the
-- bad line is the one behind them.
pub record BadBehind {E : Type 0} (IsEntry : List ℕ → E → Type 0) (Fits Whole : List E → Type 0)
    (lines : List (List ℕ)) (rest : List ℕ) (n : ℕ) : Type 0 where
  pub number : n ≡ length lines + 1
  pub good : Say IsEntry Fits lines
  pub bad : Say IsEntry Whole lines → rest ≡ [] → ⊥

-- the first bad line of a text is line n
abbrev pub FirstBad : {E : Type 0} → Rules E → List ℕ → ℕ → Type 0
FirstBad rules text n =
    (lines : List (List ℕ)) × (rest : List ℕ) × IsText text lines rest
    × (BadAt rules.says rules.fit lines n ⊎ BadBehind rules.says rules.fit rules.whole lines rest n)
