use Rattle.std.proofs.Common.{◌≡◌, ◌≤◌, ◌<◌, ◌^◌, ◌++◌, length, drop, ◌-◌}
use Rattle.std.specs.Int.Digits.{digits_of}
use Rattle.der_write.proofs.digits.write_digits.Given as goal

-- the digits of what is left, and then those that are written, are the number's
abbrev pub invariant-loop-left : goal.invariant-loop-left
invariant-loop-left l = record {
  digits : digits_of 256 l.fn.number ≡ digits_of 256 l.left ++ drop l.start l.buffer;
  room : length l.buffer ≡ 17;
  high : l.start ≤ 17;
  low : 1 ≤ l.start;
  few : l.left < 256 ^ (l.start - 1);
}

abbrev pub decreases-loop-left : goal.decreases-loop-left
decreases-loop-left l = l.left
