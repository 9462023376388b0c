-- What a format leaves, at each moment.
use Rattle.std.specs.Prelude.{◌≡◌, ◌⊎◌, ℕ, List, replicate}
use Rattle.edge_board.specs.Board.{View, Keeps}
use Rattle.lms_sign.specs.declared.key.SignKey.{SignKey}
use Rattle.lms_sign.specs.PublicKeys.{leaf_count}
use Rattle.module_record.specs.declared.module.Module.{Module}
use Rattle.config_table.specs.State.{empty_state}
use Rattle.bank_layout.specs.Recovery.{Recovers, IsHeld}
use Rattle.bank_layout.specs.Recovery.Holder.{nobody, key_board, module_board}

-- the row of a new key: no leaf is spent
abbrev pub fresh_row : SignKey → List ℕ
fresh_row key = replicate (leaf_count key) 255

-- The image recovers to this key, and none of its leaves is spent.
abbrev pub RecoversToNewKey : List ℕ → SignKey → Type 0
RecoversToNewKey image key = Recovers image (key_board key (fresh_row key))

-- The image recovers to this module, nothing is installed, and none of its leaves is spent.
abbrev pub RecoversToNewModule : List ℕ → Module → Type 0
RecoversToNewModule image m =
    Recovers image (module_board m (record { sequence = 0; state = empty_state; row = fresh_row m.key }))

-- What a power cut in a format, which writes this part and makes such an image, may leave of the cells at its
-- start: all of them, where somebody holds them; else an image that recovers to nobody, or that is made.
pub record FormatLeaves (part : ℕ → Type 0) (made : List ℕ → Type 0) (start image : List ℕ) : Type 0 where
  pub held : IsHeld start → image ≡ start
  pub free : Recovers start nobody → Recovers image nobody ⊎ made image
  pub others : Keeps part start image

-- The same with nothing sent since.
abbrev pub FormatMoment : (ℕ → Type 0) → (List ℕ → Type 0) → View → List ℕ → List ℕ → Type 0
FormatMoment part made start image s = FormatLeaves part made start.cells image × start.sent s
