use Rattle.std.proofs.Common.{◌≡◌, ℕ, ◌+◌, ◌-◌, ◌*◌, ◌^◌, ◌≤◌, sym, ap, ◌∙◌, arith}
use Rattle.std.specs.List.{sum_by}
use Rattle.std.proofs.lemmas.List.FromFn.{sum_by-map-range_with_len_more}
use Rattle.lms_verify.specs.Digits.{digit, digits}
use Rattle.lms_verify.specs.Kinds.{width}
use Rattle.lms_verify.proofs.digits.checksum.Goals as goal

-- one more digit below the last
step : (sum last d i total next : ℕ) → total ≡ sum → sum ≤ i * last → next ≡ total + (last - d)
    → (sum + (last - d) ≡ next) × (sum + (last - d) ≤ (i + 1) * last)
step sum last d i total next same bound more = (omega arith, omega arith)

pub loop-i-preserved : goal.loop-i-preserved
loop-i-preserved c =
    let w = width c.args.ots in
    let last = 2 ^ w - 1 in
    let value = c.args.value.now in
    let i = c.loop-i.i in
    let total = sum_by (λ d. last - d) (digits w value i) in
    let next = sum_by (λ d. last - d) (digits w value (i + 1)) in
    let more : next ≡ total + (last - digit w value i) =
    sum_by-map-range_with_len_more (λ d. last - d) (λ k. digit w value k) 0 i i (omega arith) in
    let both = step c.loop-i.sum last (digit w value i) i total next (sym c.loop-i.invariant.sum)
    c.loop-i.invariant.bound more in
    let added : c.from-sum.result ≡ last - digit w value i =
    c.from-sum.ensures ∙ ap (λ (n : ℕ). n - c.digit.result) c.last_place-last.ensures.value
    ∙ ap (λ (n : ℕ). last - n) c.digit.ensures.value in
    record { sum = rw added both.0; bound = rw added both.1 }
