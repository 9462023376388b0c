use Rattle.std.proofs.Common.{refl}
use Rattle.key_state.specs.KeyBlock.{row_of}
use Rattle.lms_sign.specs.PublicKeys.{leaf_count}
use Rattle.bank_layout.specs.Recovery.{standing_of}
use Rattle.bank_layout.specs.Recovery.Holder.{nobody, key_board, module_board}
use Rattle.bank_store.proofs.laws.no_image_is_without_a_holder.Goals as goal

pub returns : goal.returns
returns c = record {
  some = λ image none. none nobody (
    λ key holds. none (key_board key (row_of (leaf_count key) image)) (holds, refl),
    λ m running manifest holds. none (module_board m (standing_of m manifest image)) (running, manifest, holds, refl),
  );
}
