use Rattle.std.proofs.Common.{◌∙◌, ◌∷◌, ap, List, ℕ, length, arith, refl, length-drop}
use Rattle.std.proofs.lemmas.Bool.{lt-ltb}
use Rattle.std.proofs.lemmas.List.{drop_all}
use Rattle.std.proofs.lemmas.Grind.{drop-set_at}
use Rattle.std.proofs.lemmas.Int.Digits.{length-digits_of-le}
use Rattle.der_core.specs.Element.{length_octets}
use Rattle.der_write.proofs.digits.write_length.Goals as goal

pub returns-then-size-lt128-clause-octets : goal.returns-then-size-lt128-clause-octets
unfolding length_octets
returns-then-size-lt128-clause-octets c =
    let buffer = c.args.buffer.now in
    rw (lt-ltb c.args.size 128 c.if-size-lt128.true)
    (drop-set_at buffer 16 16 c.args.size refl (omega (arith, c.requires)) ∙ ap (λ (ds : List ℕ). c.args.size ∷ ds) (drop_all 17 buffer (omega (arith, c.requires))))

pub returns-clause-low : goal.returns-clause-low
returns-clause-low c =
    omega (arith, length-digits_of-le 256 4 c.args.size (omega arith) (omega arith), ap (λ (ds : List ℕ). length ds) c.write_digits-start.ensures.digits, length-drop c.write_digits-start.result c.write_digits-start.new.buffer)
