use Rattle.std.proofs.Common.{◌≤◌, refl, arith}
use Rattle.std.proofs.Math.Nat.{pow-le-pow_right}
use Rattle.std.proofs.lemmas.Grind.{pow_more}
use Rattle.std.proofs.lemmas.Int.Digits.{number_more}
use Rattle.der_core.proofs.number.number_from_octets.Goals as goal

pub overflow_mul-number : goal.overflow_mul-number
overflow_mul-number c =
    let room : c.loop-octet.octet-index ≤ 15 = omega (arith, c.requires) in
    omega (arith, pow-le-pow_right {n = 256} (omega arith) room)

pub overflow_add-number : goal.overflow_add-number
overflow_add-number c =
    let room : c.loop-octet.octet-index ≤ 15 = omega (arith, c.requires) in
    omega (arith, pow-le-pow_right {n = 256} (omega arith) room)

pub loop-octet-preserved : goal.loop-octet-preserved
loop-octet-preserved c =
    let more = number_more 256 c.args.octets.now c.loop-octet.octet-index c.loop-octet-test.true in
    record {
      value = rw (more, ← c.loop-octet.invariant.value) refl;
      small = omega
          (arith, pow_more 256 c.loop-octet.octet-index, c.type_inv.octets c.loop-octet.octet-index);
    }
