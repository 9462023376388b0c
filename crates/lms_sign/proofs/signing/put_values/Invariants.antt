use Rattle.std.proofs.Common.{◌≡◌, ◌*◌, take}
use Rattle.std.specs.List.{flat_map}
use Rattle.lms_verify.specs.Digits.{below}
use Rattle.lms_sign.specs.SignTexts.{signature_value}
use Rattle.lms_sign.proofs.signing.put_values.Given as goal

-- the values so far stand in front
abbrev pub invariant-loop-i : goal.invariant-loop-i
invariant-loop-i l =
    take (32 * l.i) l.out ≡ flat_map (signature_value l.key l.q l.value) (below l.i)
