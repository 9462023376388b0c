-- `key-new` and `make`: makes a board that nobody holds the board of the key, or of the module, whose recipe the input
-- is. The lines are this project's own.
use Rattle.std.specs.Prelude.{ℕ, ◌+◌, ◌*◌, ◌<◌, ◌≤◌, List, length, ◌++◌, codes}
use Rattle.edge_board.specs.Board.{Keeps}
use Rattle.hex.specs.Hex.{encode_lower}
use Rattle.hss_chain.specs.Keys.{hss_key_text}
use Rattle.lms_sign.specs.declared.key.SignKey.{SignKey}
use Rattle.lms_sign.specs.PublicKeys.{key_id}
use Rattle.lms_sign.specs.Roots.{public_key}
use Rattle.module_record.specs.ModuleRecord.{HasLimits, module_text}
use Rattle.bank_layout.specs.Layout.{InKeyBoard, first_image_block}
use Rattle.bank_layout.specs.Recovery.{Recovers, IsHeld}
use Rattle.bank_layout.specs.Recovery.Holder.{nobody}
use Rattle.bank_store.specs.Layout.{InModuleFormat}
use Rattle.bank_store.specs.Formats.{RecoversToNewKey, RecoversToNewModule}
use Rattle.recipe_text.specs.KeyRecipe.{KeyRecipe, FirstBadKeyLine}
use Rattle.recipe_text.specs.ModuleRecipe.{ModuleRecipe, FirstBadModuleLine}
use Rattle.fwload_top.specs.declared.making.HolderKind.{HolderKind}
use Rattle.fwload_top.specs.declared.making.HolderKind.TheVariants as kinds
use Rattle.fwload_top.specs.declared.making.NewHolder.{NewHolder}
use Rattle.fwload_top.specs.declared.making.NewHolder.TheVariants as holders
use Rattle.fwload_top.specs.declared.status.Status.TheVariants.{Done, Refused}
use Rattle.fwload_top.specs.BadLine.{line_refused}
use Rattle.fwload_top.specs.Meaning.{Meaning, Answer, says, stay}
use Rattle.fwload_top.specs.Meaning.Input.{unread, read}

-- ---- the input

-- the input is the recipe of this holder
abbrev pub IsRecipeOf : HolderKind → List ℕ → NewHolder → Type 0
IsRecipeOf kinds.Key input (holders.Key key) = KeyRecipe input key
IsRecipeOf kinds.Key input (holders.Module m) = ⊥
IsRecipeOf kinds.Module input (holders.Key key) = ⊥
IsRecipeOf kinds.Module input (holders.Module m) = ModuleRecipe input m

-- the input is a recipe of some holder
abbrev pub IsRecipe : HolderKind → List ℕ → Type 0
IsRecipe kind input = (holder : NewHolder) × IsRecipeOf kind input holder

-- the input is no recipe, and this line, counted from 1, is its first bad one
abbrev pub IsBadAt : HolderKind → List ℕ → ℕ → Type 0
IsBadAt kinds.Key input n = FirstBadKeyLine input n
IsBadAt kinds.Module input n = FirstBadModuleLine input n

-- ---- the board

-- nobody holds the board
abbrev pub IsFree : List ℕ → Type 0
IsFree cells = Recovers cells nobody

-- the holder has a record
abbrev pub CanHold : NewHolder → Type 0
CanHold (holders.Key key) = Unit {0}
CanHold (holders.Module m) = HasLimits m × (length (module_text m) ≤ 65536)

-- how many blocks its board has at least
abbrev pub board_blocks : NewHolder → ℕ
board_blocks (holders.Key key) = 18
board_blocks (holders.Module m) = first_image_block + 2 * m.capacity

-- the positions that a format for it writes
abbrev pub InFormat : NewHolder → ℕ → Type 0
InFormat (holders.Key key) i = InKeyBoard i
InFormat (holders.Module m) i = InModuleFormat i

-- the image recovers to it, and nothing is installed and no leaf spent
abbrev pub RecoversToNew : List ℕ → NewHolder → Type 0
RecoversToNew image (holders.Key key) = RecoversToNewKey image key
RecoversToNew image (holders.Module m) = RecoversToNewModule image m

-- ---- the lines

-- the key that it signs with
abbrev pub key_of : NewHolder → SignKey
key_of (holders.Key key) = key
key_of (holders.Module m) = m.key

-- the first word of its line
abbrev pub word_of : NewHolder → List ℕ
word_of (holders.Key key) = codes "key"
word_of (holders.Module m) = codes "made"

-- `WORD KEY KEYID`, with the octets of the public key and those of its name in hex
abbrev pub key_line : List ℕ → SignKey → List ℕ
key_line word key = word ++ (codes " " ++ (encode_lower (hss_key_text (public_key key))
    ++ (codes " " ++ (encode_lower (key_id (public_key key)) ++ codes "\n"))))

-- the line of a holder that was made
abbrev pub made_line : NewHolder → List ℕ
made_line holder = key_line (word_of holder) (key_of holder)

-- ---- the answers

-- What a run may come to.
pub data Outcome : Type 0 where
  -- the board is held already
  held : Outcome
  -- this is the first bad line of the recipe
  bad_line : ℕ → Outcome
  -- the board has fewer blocks than this holder needs
  small : NewHolder → Outcome
  -- the board becomes this holder's
  made : NewHolder → Outcome

-- what each is answered with, over which board and input
abbrev pub answer : HolderKind → Outcome → Answer
answer kind held = record {
  status = Refused;
  line = codes "refused module\n";
  cells = IsHeld;
  -- a board of fewer blocks is held by nobody
  blocks = λ n. 18 ≤ n;
  input = unread;
  before = stay;
  after = stay;
}
answer kind (bad_line n) = says Refused (line_refused n) IsFree (read (λ input. IsBadAt kind input n))
answer kind (small holder) = record {
  status = Refused;
  line = codes "refused board\n";
  cells = IsFree;
  blocks = λ n. n < board_blocks holder;
  input = read (λ input. IsRecipeOf kind input holder);
  before = stay;
  after = stay;
}
answer kind (made holder) = record {
  status = Done;
  line = made_line holder;
  cells = IsFree;
  blocks = λ n. board_blocks holder ≤ n;
  input = read (λ input. IsRecipeOf kind input holder);
  -- what a format doesn't write stays; until the board is the new holder's, it is nobody's
  before = λ start image. Keeps (InFormat holder) start image × IsFree image;
  after = λ start image. Keeps (InFormat holder) start image × RecoversToNew image holder;
}

-- the input is a recipe, and the board has as many blocks as its holder needs
abbrev pub HasForm : HolderKind → ℕ → List ℕ → Type 0
HasForm kind blocks input =
    IsRecipe kind input × ((holder : NewHolder) → IsRecipeOf kind input holder → board_blocks holder ≤ blocks)

-- `key-new` where a key is to hold the board, and `make` where a module is
abbrev pub making : HolderKind → Meaning
making kind = record {
  Outcome = Outcome;
  answer = answer kind;
  needs = λ tells_cells old. tells_cells × IsFree old.cells;
  form = λ old. HasForm kind old.blocks;
}
