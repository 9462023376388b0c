use Rattle.std.proofs.Common.{ℕ, ◌<◌, ◌≤◌, ◌^◌, ◌∙◌, arith}
use Rattle.std.proofs.Math.Nat.{pow-le-pow_right}
use Rattle.std.proofs.lemmas.Grind.{pow_more}
use Rattle.der_core.proofs.Times.{more, stops, ends, decimal_lt}
use Rattle.der_core.proofs.time.read_decimal.Goals as goal

room : (number index : ℕ) → number < 10 ^ index → index < 14 → number < 10 ^ 13
room number index small within =
    let within' : index ≤ 13 = omega arith in
    omega (arith, pow-le-pow_right {n = 10} (omega arith) within')

pub returns-in_err-digit-clause-exact : goal.returns-in_err-digit-clause-exact
returns-in_err-digit-clause-exact c =
    rw c.from_residual.ensures (c.loop-octet.invariant.so_far
    ∙ stops c.args.digits.now _ _ c.loop-octet-test.true c.in_err-digit.ensures.exact)

pub overflow_mul-number : goal.overflow_mul-number
overflow_mul-number c = omega (arith, c.requires, room _ _ c.loop-octet.invariant.small (omega (arith, c.requires)))

pub overflow_add-number : goal.overflow_add-number
overflow_add-number c =
    omega (
      arith,
      c.requires,
      c.in_ok-digit.ensures.small,
      room _ _ c.loop-octet.invariant.small
          (omega (arith, c.requires)),
    )

pub loop-octet-preserved : goal.loop-octet-preserved
loop-octet-preserved c = record {
  so_far = c.loop-octet.invariant.so_far
      ∙ rw c.from.ensures (more c.args.digits.now _ _ _ c.loop-octet-test.true c.in_ok-digit.ensures.exact);
  small = omega (arith, c.in_ok-digit.ensures.small, pow_more 10 c.loop-octet.octet-index);
}

pub returns-clause-exact : goal.returns-clause-exact
returns-clause-exact c = c.loop-octet.invariant.so_far ∙ ends c.args.digits.now _ _ c.loop-octet-test.false

pub returns-clause-small : goal.returns-clause-small
returns-clause-small c =
    decimal_lt c.args.digits.now c.loop-octet.number (c.loop-octet.invariant.so_far
    ∙ ends c.args.digits.now _ _ c.loop-octet-test.false)
