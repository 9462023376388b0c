use Rattle.std.proofs.Common.{◌∙◌, sym}
use Rattle.std.proofs.lemmas.Bool.{false≢true}
use Rattle.std.proofs.lemmas.Slice.Eq.{bytes_eq-Decides}
use Rattle.der_core.proofs.Decimals.{reads_zero, reads_unled}
use Rattle.der_core.proofs.decimal.read_decimal_u128.Goals as goal

pub returns-then-eq : goal.returns-then-eq
returns-then-eq c =
    let digits = c.args.digits.now in
    let zero = c.as_slice.result.now in
    record {
      spelled = reads_zero digits ((bytes_eq-Decides digits zero).0 (sym c.eq.ensures ∙ c.if-eq.true)
          ∙ c.as_slice.ensures);
    }

pub returns-then-not-is_led : goal.returns-then-not-is_led
returns-then-not-is_led c =
    let digits = c.args.digits.now in
    let zero = c.as_slice.result.now in
    record {
      spelled = reads_unled digits
          (λ is. false≢true (sym c.if-eq.false ∙ c.eq.ensures
          ∙ (bytes_eq-Decides digits zero).1 (is ∙ sym c.as_slice.ensures)))
          (λ led. false≢true (sym c.if-not-is_led.true ∙ c.is_led.ensures.1 led));
    }
