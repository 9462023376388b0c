-- A module that was just made is empty.
use Rattle.std.proofs.Common.{◌≡◌, ℕ, ◌+◌, ◌<◌, ◌≤◌, List, length, drop, None, refl, ◌∙◌, sym, arith, length-take, length-drop}
use Rattle.std.specs.Prelude.{replicate}
use Rattle.std.proofs.lemmas.List.{ext_get_or, get_or-replicate, length-replicate}
use Rattle.edge_board.specs.Board.{AllRead}
use Rattle.bank_gate.specs.States.{IsOpen, Stands}
use Rattle.key_state.specs.KeyBlock.{row_of, row_start}
use Rattle.lms_sign.specs.PublicKeys.{leaf_count}
use Rattle.config_table.specs.State.{empty_state}
use Rattle.bank_layout.specs.declared.bank.Bank.{Bank}
use Rattle.bank_layout.specs.Layout.{factory, place_of, board_size, record_octets}
use Rattle.module_record.specs.declared.module.Module.{Module}
use Rattle.module_record.specs.ModuleRecord.{IsModule, module_text}
use Rattle.bank_layout.specs.Recovery.{Recovers, first_manifest}
use Rattle.bank_layout.specs.Recovery.Holder.{module_board}
use Rattle.bank_layout.proofs.Parts.{part_cell, few_leaves}
use Rattle.bank_layout.proofs.Sizes.{stands_front}

row_fresh : (leaves : ℕ) (image : List ℕ) → leaves ≤ 1024 → 344064 ≤ length image
    → AllRead row_start 4096 255 image → replicate leaves 255 ≡ row_of leaves image
row_fresh leaves image few size reads = ext_get_or 0 (replicate leaves 255) (row_of leaves image)
    (omega (
      arith,
      few,
      size,
      length-replicate {A = ℕ} leaves 255,
      length-take leaves (drop row_start image),
      length-drop row_start image,
    ))
    (λ i lt.
    let below : i < leaves = omega (arith, lt, length-replicate {A = ℕ} leaves 255) in
    get_or-replicate {A = ℕ} leaves i 255 0 below
    ∙ sym (part_cell row_start leaves i image below
    ∙ reads (row_start + i) (omega arith, omega (arith, below, few))))

pub fresh : (image : List ℕ) (m : Module) → IsModule m → length (module_text m) ≤ 65536
    → board_size m.capacity ≤ length image → IsOpen factory image → Stands 4096 (module_text m) image
    → AllRead row_start 4096 255 image → ((bank : Bank) → ¬ IsOpen (place_of bank) image)
    → Recovers image (module_board m (record {
      sequence = 0;
      state = empty_state;
      row = replicate (leaf_count m.key) 255;
    }))
fresh image m valid fits size gate stands reads shut = (
  None,
  first_manifest,
  record {
    size = size;
    gate = gate;
    text = (
      valid,
      drop (length (module_text m)) (record_octets image),
      stands_front 4096 65536 (module_text m) image fits (omega (arith, size)) stands,
    );
    in_force = (shut, refl);
  },
  λ i. record {
    sequence = 0;
    state = empty_state;
    row = row_fresh (leaf_count m.key) image (few_leaves m.key.kind m.key.low) (omega (arith, size)) reads i;
  },
)
