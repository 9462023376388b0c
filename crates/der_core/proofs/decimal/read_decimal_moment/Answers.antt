use Rattle.std.proofs.Common.{arith}
use Rattle.der_core.proofs.Decimals.{no_moment_digits, moment_read}
use Rattle.der_core.proofs.decimal.read_decimal_moment.Goals as goal

pub returns-in_err-number : goal.returns-in_err-number
returns-in_err-number c =
    rw c.from_residual.ensures (record { spelled = no_moment_digits c.args.digits.now c.in_err-number.ensures.exact })

pub returns : goal.returns
returns c = record {
  spelled = moment_read c.args.digits.now c.in_ok-number.number c.new.result (omega (arith, c.if-digits-ne14.false))
      c.in_ok-number.ensures.exact c.new.ensures.exact;
}
