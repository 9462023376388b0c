-- Which parts of a board a format for a module writes. The layout is that of bank_layout.
use Rattle.std.specs.Prelude.{◌⊎◌, ℕ}
use Rattle.edge_board.specs.Board.{InBlock}
use Rattle.bank_gate.specs.declared.place.Place.{Place}
use Rattle.bank_layout.specs.declared.bank.Bank.TheVariants as banks
use Rattle.bank_layout.specs.Layout.{InKeyBody, gate_block}

-- The factory's bank, with an area of so many blocks from the key block on. One block makes it that of a key board.
abbrev pub factory_with : ℕ → Place
factory_with n = record { gate = 0; manifest = 1; manifest_blocks = 16; area = 17; area_blocks = n }

-- The same as a format for a module writes it: the area reaches from the key block to the gate's block of bank 1.
abbrev pub module_factory : Place
module_factory = factory_with 35

-- one of the positions of blocks 1 to 17, or of the blocks of the two banks' gates
abbrev pub InModuleBody : ℕ → Type 0
InModuleBody i = InKeyBody i ⊎ (InBlock (gate_block banks.Zero) i ⊎ InBlock (gate_block banks.One) i)

-- the same, or one of the positions of block 0
abbrev pub InModuleFormat : ℕ → Type 0
InModuleFormat i = InBlock 0 i ⊎ InModuleBody i
