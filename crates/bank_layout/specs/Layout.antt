-- Where the parts of a board lie, in blocks of 4,096 octets. The layout is this project's own.
--
--   0            the factory's gate
--   1 to 16      the factory's record
--   17           the row of leaves
--   18           the gate of bank 0
--   19 to 50     the manifest of bank 0
--   51           the gate of bank 1
--   52 to 83     the manifest of bank 1
--   from 84 on   image blocks, numbered from 0 on: twice as many as the module's capacity
--
-- A gate is the first octet of its block. A key board has blocks 0 to 17 alone.
use Rattle.std.specs.Prelude.{ℕ, ◌+◌, ◌*◌, ◌<◌, List, take, drop}
use Rattle.edge_board.specs.Board.{InBlock, Within}
use Rattle.bank_gate.specs.declared.place.Place.{Place}
use Rattle.bank_gate.specs.Places.{InBlocks}
use Rattle.bank_layout.specs.declared.bank.Bank.{Bank}
use Rattle.bank_layout.specs.declared.bank.Bank.TheVariants as banks

-- ---- the factory's part

-- The factory's bank: its gate is block 0, its record lies in blocks 1 to 16, and block 17 is the key block.
abbrev pub factory : Place
factory = record { gate = 0; manifest = 1; manifest_blocks = 16; area = 17; area_blocks = 1 }

-- the position of the record
abbrev pub record_start : ℕ
record_start = 4096

-- the octets of blocks 1 to 16
abbrev pub record_octets : List ℕ → List ℕ
record_octets image = take 65536 (drop record_start image)

-- the octets of a key board's 18 blocks
abbrev pub key_board_size : ℕ
key_board_size = 73728

-- one of the positions of blocks 1 to 17
abbrev pub InKeyBody : ℕ → Type 0
InKeyBody i = Within record_start 69632 i

-- one of the positions of blocks 0 to 17
abbrev pub InKeyBoard : ℕ → Type 0
InKeyBoard i = i < key_board_size

-- ---- the two banks

abbrev pub other : Bank → Bank
other banks.Zero = banks.One
other banks.One = banks.Zero

abbrev pub gate_block : Bank → ℕ
gate_block banks.Zero = 18
gate_block banks.One = 51

-- the position of a bank's manifest: the first octet of the block behind its gate's
abbrev pub manifest_start : Bank → ℕ
manifest_start bank = 4096 * (gate_block bank + 1)

-- a gate and the 32 blocks of a manifest behind it, with no area
abbrev pub place_of : Bank → Place
place_of bank = record {
  gate = gate_block bank;
  manifest = gate_block bank + 1;
  manifest_blocks = 32;
  area = 84;
  area_blocks = 0;
}

-- the octets of a bank's manifest blocks
abbrev pub manifest_octets : Bank → List ℕ → List ℕ
manifest_octets bank image = take 131072 (drop (manifest_start bank) image)

-- one of the positions of a bank: of its gate's block or its manifest's
abbrev pub InBank : Bank → ℕ → Type 0
InBank bank i = InBlocks (gate_block bank) 33 i

-- ---- image blocks

-- the block of a module's flash that is its image block 0
abbrev pub first_image_block : ℕ
first_image_block = 84

-- the octets of an image block
abbrev pub image_block : ℕ → List ℕ → List ℕ
image_block n image = take 4096 (drop (4096 * (first_image_block + n)) image)

-- one of the positions of an image block
abbrev pub InImageBlock : ℕ → ℕ → Type 0
InImageBlock n i = InBlock (first_image_block + n) i

-- the octets of a module's flash of this capacity
abbrev pub board_size : ℕ → ℕ
board_size capacity = 4096 * (first_image_block + 2 * capacity)
