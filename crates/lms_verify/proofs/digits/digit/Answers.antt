use Rattle.std.proofs.Common.{arith}
use Rattle.std.proofs.lemmas.Nat.{and_mask}
use Rattle.lms_verify.proofs.DigitLemmas.{digit_is}
use Rattle.lms_verify.proofs.digits.digit.Goals as goal

pub returns : goal.returns
returns c = record {
  value =
      rw (c.last_place.ensures.value, c.width-width.ensures.value, and_mask)
      (digit_is c.args.ots c.args.octets.now c.args.i (λ k. omega (arith, c.type_inv.octets k)) c.requires.within);
}
