use Rattle.std.proofs.Common.{◌≡◌, ◌-◌, ◌*◌, ◌^◌, ◌≤◌}
use Rattle.std.specs.List.{sum_by}
use Rattle.lms_verify.specs.Digits.{digits}
use Rattle.lms_verify.specs.Kinds.{width}
use Rattle.lms_verify.proofs.digits.checksum.Given as goal

abbrev pub invariant-loop-i : goal.invariant-loop-i
invariant-loop-i l =
    let w = width l.fn.ots in
    record {
      sum : l.sum ≡ sum_by (λ d. 2 ^ w - 1 - d) (digits w l.value l.i);
      bound : l.sum ≤ l.i * (2 ^ w - 1);
    }
