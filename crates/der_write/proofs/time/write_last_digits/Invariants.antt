use Rattle.std.proofs.Common.{◌≡◌, ◌≤◌, ◌-◌, ◌/◌, ◌^◌, length, drop}
use Rattle.der_core.specs.Time.{last_digits}
use Rattle.der_write.proofs.time.write_last_digits.Given as goal

-- the digits behind `at` are written, and what is left are those before
abbrev pub invariant-loop-at : goal.invariant-loop-at
invariant-loop-at l = record {
  written : drop l.at l.text ≡ last_digits (length l.fn.text - l.at) l.fn.number;
  left : l.left ≡ l.fn.number / 10 ^ (length l.fn.text - l.at);
  room : length l.text ≡ length l.fn.text;
  within : l.at ≤ length l.fn.text;
}

abbrev pub decreases-loop-at : goal.decreases-loop-at
decreases-loop-at l = l.at
