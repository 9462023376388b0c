-- Images that are the same in blocks 0 to 17 are held by the same key.
use Rattle.std.proofs.Common.{◌≡◌, ℕ, ◌+◌, List, length, sym, ◌∙◌, subst, arith}
use Rattle.edge_board.specs.Board.{cell}
use Rattle.key_state.specs.KeyBlock.{row_of, row_start}
use Rattle.lms_sign.specs.declared.key.SignKey.{SignKey}
use Rattle.lms_sign.specs.PublicKeys.{leaf_count}
use Rattle.module_record.specs.KeyRecord.{BeginsWithKeyRecord}
use Rattle.bank_layout.specs.Layout.{record_start, InKeyBoard}
use Rattle.bank_layout.specs.Recovery.{HoldsKey}
use Rattle.bank_store.proofs.Images.{part_same, few_leaves}

-- images that are the same in blocks 0 to 17
module _ (a b : List ℕ) (size : length b ≡ length a) (same : (i : ℕ) → InKeyBoard i → cell b i ≡ cell a i) where
  pub holds_too : (key : SignKey) → HoldsKey a key → HoldsKey b key
  holds_too key holds = record {
    size = omega (arith, size, holds.size);
    gate = same 0 (omega arith) ∙ holds.gate;
    text = subst (λ (l : List ℕ). BeginsWithKeyRecord l key)
        (sym (part_same record_start 65536 a b size (λ i lt. same (record_start + i) (omega (arith, lt))))) holds.text;
  }

  pub row_too : (key : SignKey) → HoldsKey a key → row_of (leaf_count key) a ≡ row_of (leaf_count key) b
  row_too key holds =
      let few = few_leaves key.kind holds.text.0.low in
      sym (part_same row_start (leaf_count key) a b size (λ i lt. same (row_start + i) (omega (arith, lt, few))))
