-- `issue` and `pack`: what the input is a recipe of is sent, signed with the next leaf of the key that holds the board.
use Rattle.std.specs.Prelude.{◌≡◌, ◌⊎◌, ℕ, ◌+◌, ◌<◌, ◌≤◌, List, [], ◌++◌}
use Rattle.edge_board.specs.Board.{Keeps, cell}
use Rattle.edge_board.specs.Sends.{IsFront}
use Rattle.key_state.specs.Row.{spent_in, IsUsedUp}
use Rattle.key_state.specs.KeyBlock.{row_of, row_start, FirstUnspent}
use Rattle.lms_sign.specs.declared.key.SignKey.{SignKey}
use Rattle.lms_sign.specs.PublicKeys.{leaf_count}
use Rattle.lms_sign.specs.SignTexts.{sign_text}
use Rattle.packager.specs.SigningRuns.{Output, output_text}
use Rattle.packager.specs.SigningRuns.Output.{Certifies, Packs}
use Rattle.signed_write.specs.Unsigned.{Parts}
use Rattle.bank_layout.specs.Recovery.{HoldsKey}
use Rattle.recipe_text.specs.CertRecipe.{CertRecipe, FirstBadCertLine}
use Rattle.recipe_text.specs.PackageRecipe.{PackageRecipe, FirstBadPackageLine}
use Rattle.fwload_top.specs.declared.signing.Product.{Product}
use Rattle.fwload_top.specs.declared.signing.Product.TheVariants.{Certificate, Package}
use Rattle.fwload_top.specs.declared.status.Status.TheVariants.{Done, Refused, NotAModule, KeySpent}
use Rattle.fwload_top.specs.BadLine.{line_refused}
use Rattle.fwload_top.specs.Meaning.{Meaning, Answer, says}
use Rattle.fwload_top.specs.Meaning.Input.{unread, read}

-- ---- the input

-- the input is a recipe of what is signed
abbrev pub IsRecipeOf : Product → List ℕ → Output → Type 0
IsRecipeOf Certificate input (Certifies plan) = CertRecipe input plan
IsRecipeOf Certificate input (Packs plan) = ⊥
IsRecipeOf Package input (Certifies plan) = ⊥
IsRecipeOf Package input (Packs plan) = PackageRecipe input plan

abbrev pub IsRecipe : Product → List ℕ → Type 0
IsRecipe p input = (output : Output) × IsRecipeOf p input output

-- the input is no recipe, and this line, counted from 1, is its first bad one
abbrev pub IsBadAt : Product → List ℕ → ℕ → Type 0
IsBadAt Certificate input n = FirstBadCertLine input n
IsBadAt Package input n = FirstBadPackageLine input n

-- ---- the board

-- a key holds the board
abbrev pub IsKeyBoard : List ℕ → Type 0
IsKeyBoard cells = (key : SignKey) × HoldsKey cells key

-- no key does
abbrev pub IsNoKeyBoard : List ℕ → Type 0
IsNoKeyBoard cells = (key : SignKey) → ¬ HoldsKey cells key

-- a key does, and each of its leaves is spent
abbrev pub IsSpentBoard : List ℕ → Type 0
IsSpentBoard cells =
    IsKeyBoard cells × ((key : SignKey) → HoldsKey cells key → IsUsedUp (row_of (leaf_count key) cells))

-- This key holds the board, and this is the first of its leaves that isn't spent.
pub record IsNext (cells : List ℕ) (key : SignKey) (leaf : ℕ) : Type 0 where
  pub holds : HoldsKey cells key
  pub first : leaf ≡ spent_in (row_of (leaf_count key) cells)
  pub unspent : leaf < leaf_count key

-- The octet of the row's first unspent leaf alone may be another.
abbrev pub KeepsSpent : SignKey → List ℕ → List ℕ → Type 0
KeepsSpent key start image = Keeps (FirstUnspent (leaf_count key) start) start image

-- ---- the answers

pub data Outcome : Type 0 where
  -- no key holds the board
  no_key : Outcome
  -- this is the first bad line of the recipe
  bad_line : ℕ → Outcome
  -- every leaf of the key is spent
  all_spent : Outcome
  -- this is signed, by this key with this leaf
  signed : Output → SignKey → ℕ → Outcome

-- an answer on a board of a key, whose cells stay
abbrev pub key_board_says : Answer → Answer
key_board_says a = record a { blocks = λ n. 18 ≤ n }

abbrev pub answer : Product → Outcome → Answer
answer p no_key = says NotAModule [] IsNoKeyBoard unread
answer p (bad_line n) =
    key_board_says (says Refused (line_refused n) IsKeyBoard (read (λ input. IsBadAt p input n)))
answer p all_spent = key_board_says (says KeySpent [] IsSpentBoard (read (IsRecipe p)))
answer p (signed output key leaf) = record {
  status = Done;
  line = output_text key output leaf;
  cells = λ cells. IsNext cells key leaf;
  blocks = λ n. 18 ≤ n;
  input = read (λ input. IsRecipeOf p input output);
  -- the leaf is spent before the first octet is sent
  before = λ start image. KeepsSpent key start image;
  after = λ start image. KeepsSpent key start image × (cell image (row_start + leaf) ≡ 0);
}

abbrev pub signing : Product → Meaning
signing p = record {
  Outcome = Outcome;
  answer = answer p;
  needs = λ tells_cells old. tells_cells × (key : SignKey) × (leaf : ℕ) × IsNext old.cells key leaf;
  form = λ old. IsRecipe p;
}

-- ---- a power cut

-- the cells are as they were, and nothing was sent, or a front of a refusal
abbrev pub SignsNothing : List ℕ → List ℕ → List ℕ → Type 0
SignsNothing start image s = (image ≡ start) × ((s ≡ []) ⊎ ((n : ℕ) × IsFront (line_refused n) s))

-- ---- within a run

-- The input is a recipe of this, which these octets are with a signature of the key behind them.
pub record IsToSign (p : Product) (input : List ℕ) (key : SignKey) (unsigned : Parts) (output : Output) : Type 0 where
  pub recipe : IsRecipeOf p input output
  pub text : (leaf : ℕ) → leaf < leaf_count key
      → unsigned.before ++ sign_text key leaf unsigned.signed ≡ output_text key output leaf
