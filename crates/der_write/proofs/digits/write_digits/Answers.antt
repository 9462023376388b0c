use Rattle.std.proofs.Common.{◌≡◌, ℕ, zero, suc, ◌+◌, ◌-◌, ◌/◌, ◌%◌, ◌^◌, ◌<◌, ◌≤◌, List, [], ◌∷◌, ◌++◌, drop, length, slice_set, refl, sym, ap, ◌∙◌, subst, append_assoc, arith, length-set}
use Rattle.std.specs.Int.Digits.{digits_of}
use Rattle.std.proofs.Math.Nat.{pow-suc, div-lt_iff_lt-mul}
use Rattle.std.proofs.lemmas.Int.Digits.{digits_of_step}
use Rattle.std.proofs.lemmas.Grind.{drop-set_at}
use Rattle.der_write.proofs.digits.write_digits.Goals as goal

-- one digit more is written
written_more : (number left start : ℕ) (buffer : List ℕ) → digits_of 256 number ≡ digits_of 256 left ++ drop start buffer → 0 < left
    → 1 ≤ start → start ≤ length buffer → digits_of 256 number ≡ digits_of 256 (left / 256) ++ drop (start - 1) (slice_set buffer (start - 1) (left % 256))
written_more number left start buffer so_far some low high =
    let last : start - 1 + 1 ≡ start = omega arith in
    so_far
    ∙ ap (λ (ds : List ℕ). ds ++ drop start buffer) (digits_of_step 256 left (omega arith) some)
    ∙ append_assoc (digits_of 256 (left / 256)) (left % 256 ∷ []) (drop start buffer)
    ∙ ap (λ (ds : List ℕ). digits_of 256 (left / 256) ++ ds)
    (ap (λ (k : ℕ). left % 256 ∷ drop k buffer) (sym last) ∙ sym (drop-set_at buffer (start - 1) (start - 1) (left % 256) refl (omega arith)))

-- what has a digit less is below the power that is one less
few_less : (left k : ℕ) → 0 < left → left < 256 ^ k → (1 ≤ k) × (left / 256 < 256 ^ (k - 1))
few_less left zero some few = absurd (omega (arith, few, some))
few_less left (suc k) some few =
    let same : k ≡ suc k - 1 = omega arith in
    (omega arith, subst (λ m. left / 256 < 256 ^ m) same ((div-lt_iff_lt-mul {k = 256} {x = left} {y = 256 ^ k} (omega arith)).1 (subst (λ n. left < n) (pow-suc 256 k) few)))

pub loop-left-preserved : goal.loop-left-preserved
loop-left-preserved c =
    let is = c.loop-left.invariant in
    let less = few_less c.loop-left.left (c.loop-left.start - 1) c.loop-left-test.true is.few in
    record {
      digits = written_more c.args.number c.loop-left.left c.loop-left.start c.loop-left.buffer is.digits c.loop-left-test.true is.low (omega arith);
      room = omega (arith, length-set {A = ℕ});
      high = omega arith;
      low = omega (arith, less.0);
      few = less.1;
    }
