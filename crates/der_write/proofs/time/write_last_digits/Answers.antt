use Rattle.std.proofs.Common.{◌≡◌, ℕ, suc, ◌+◌, ◌-◌, ◌/◌, ◌%◌, ◌^◌, ◌<◌, ◌≤◌, List, ◌∷◌, drop, length, slice_set, refl, sym, ap, ◌∙◌, arith, length-set}
use Rattle.std.proofs.Math.Nat.{pow-suc, div-div-eq-div-mul}
use Rattle.std.proofs.lemmas.Grind.{drop-set_at}
use Rattle.der_core.specs.Time.{last_digits}
use Rattle.der_write.proofs.time.write_last_digits.Goals as goal

-- one digit more is written, where k are written behind it
module _ (number left at k size : ℕ) (text : List ℕ) (count : k ≡ size - at) (more : suc k ≡ size - (at - 1)) (left_is : left ≡ number / 10 ^ k) where
  written_more : drop at text ≡ last_digits k number → 0 < at → at ≤ length text
      → drop (at - 1) (slice_set text (at - 1) (48 + left % 10)) ≡ last_digits (size - (at - 1)) number
  written_more so_far some within =
      let last : at - 1 + 1 ≡ at = omega arith in
      drop-set_at text (at - 1) (at - 1) (48 + left % 10) refl (omega arith)
      ∙ ap (λ (n : ℕ). (48 + left % 10) ∷ drop n text) last
      ∙ ap (λ (ds : List ℕ). (48 + left % 10) ∷ ds) so_far
      ∙ ap (λ (n : ℕ). (48 + n % 10) ∷ last_digits k number) left_is
      ∙ ap (λ (n : ℕ). last_digits n number) more

  left_more : left / 10 ≡ number / 10 ^ (size - (at - 1))
  left_more =
      ap (λ (n : ℕ). n / 10) left_is ∙ div-div-eq-div-mul number (10 ^ k) 10 ∙ ap (λ (n : ℕ). number / n) (sym (pow-suc 10 k)) ∙ ap (λ (n : ℕ). number / 10 ^ n) more

pub loop-at-preserved : goal.loop-at-preserved
loop-at-preserved c =
    let is = c.loop-at.invariant in
    let size = length c.args.text.now in
    let k = size - c.loop-at.at in
    let more : suc k ≡ size - (c.loop-at.at - 1) = omega (arith, is.within, c.loop-at-test.true) in
    record {
      written = written_more c.args.number c.loop-at.left c.loop-at.at k size c.loop-at.text refl more is.left is.written c.loop-at-test.true (omega (arith, is.room, is.within));
      left = left_more c.args.number c.loop-at.left c.loop-at.at k size c.loop-at.text refl more is.left;
      room = omega (arith, is.room, length-set {A = ℕ});
      within = omega (arith, is.within);
    }
