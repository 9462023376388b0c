-- The key recipe: the one line `key KIND OTS SEED ID`, once; this project's own.
use Rattle.std.specs.Prelude.{◌≡◌, ℕ, ◌≤◌, List, [], ◌∷◌, length, codes}
use Rattle.lms_verify.specs.declared.kind.LmsKind.{LmsKind}
use Rattle.lms_verify.specs.declared.kind.LmsKind.TheVariants.{H5, H10, H15, H20, H25}
use Rattle.lms_verify.specs.declared.kind.OtsKind.{OtsKind}
use Rattle.lms_verify.specs.declared.kind.OtsKind.TheVariants.{W1, W2, W4, W8}
use Rattle.lms_sign.specs.declared.key.SignKey.{SignKey}
use Rattle.lms_sign.specs.PublicKeys.{IsSignKey}
use Rattle.recipe_text.specs.Lines.{spaced, IsHex, Rules, Recipe, FirstBad}

-- the word of a kind of tree; that of a signing key is H5 or H10
abbrev pub tree_word : LmsKind → List ℕ
tree_word H5 = codes "H5"
tree_word H10 = codes "H10"
tree_word H15 = codes "H15"
tree_word H20 = codes "H20"
tree_word H25 = codes "H25"

-- the word of a kind of one-time keys
abbrev pub ots_word : OtsKind → List ℕ
ots_word W1 = codes "W1"
ots_word W2 = codes "W2"
ots_word W4 = codes "W4"
ots_word W8 = codes "W8"

-- `key KIND OTS SEED ID`, with these words for SEED and ID
abbrev pub key_line : SignKey → List ℕ → List ℕ → List ℕ
key_line key seed id = spaced (codes "key" ∷ tree_word key.kind ∷ ots_word key.ots ∷ seed ∷ id ∷ [])

-- The line says this key: SEED is 32 octets of HEX, and ID is 16.
pub record IsKeyLine (line : List ℕ) (key : SignKey) : Type 0 where
  pub valid : IsSignKey key
  pub seed : List ℕ
  pub id : List ℕ
  pub seed_hex : IsHex seed key.seed
  pub id_hex : IsHex id key.id
  pub spelled : line ≡ key_line key seed id

-- there is one key line at most
abbrev pub IsOneAtMost : List SignKey → Type 0
IsOneAtMost keys = length keys ≤ 1

-- there is one key line
abbrev pub IsOne : List SignKey → Type 0
IsOne keys = length keys ≡ 1

-- the rules of a key recipe
abbrev pub key_rules : Rules SignKey
key_rules = record { says = IsKeyLine; fit = IsOneAtMost; whole = IsOne }

-- the text is a key recipe of this key
abbrev pub KeyRecipe : List ℕ → SignKey → Type 0
KeyRecipe text key = Recipe key_rules text (key ∷ [])

-- the text is no key recipe, and its first bad line is line n, counted from 1
abbrev pub FirstBadKeyLine : List ℕ → ℕ → Type 0
FirstBadKeyLine text n = FirstBad key_rules text n
