use Rattle.std.proofs.Common.{[], ◌∷◌, refl, ◌∙◌}
use Rattle.std.proofs.lemmas.List.{append-nil}
use Rattle.lms_verify.proofs.Writes.{put_mid_at}
use Rattle.lms_verify.proofs.digits.checked_value.Goals as goal

pub returns : goal.returns
returns c = record {
  value =
      put_mid_at c.copy_from_slice.new.self (0 ∷ 0 ∷ []) [] c.copy_from_slice-2.new.self 32 2
      c.copy_from_slice.ensures.len refl
      ∙ rw (
        append-nil,
        c.copy_from_slice-2.ensures.after,
        c.to_be_bytes.ensures,
        c.checksum.ensures,
        c.copy_from_slice.ensures.after,
      ) refl;
}
