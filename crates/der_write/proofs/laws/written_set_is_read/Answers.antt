use Rattle.std.proofs.Common.{◌<◌, List, ℕ, length, ap, refl, arith}
use Rattle.der_core.specs.Shapes.{IsOneElement}
use Rattle.der_core.proofs.Places.{length-enc}
use Rattle.der_core.proofs.Shapes.{sized-element-front, is_tag, listed-whole, any_element-front}
use Rattle.der_core.proofs.AttributeLaws.{any_element_falls}
use Rattle.der_write.proofs.laws.written_set_is_read.Goals as goal

element_has_octets : (octets : List ℕ) → IsOneElement octets → 0 < length octets
element_has_octets octets is = omega (arith, length-enc is.0 is.1, ap (λ (bytes : List ℕ). length bytes) is.3)

pub returns : goal.returns
returns c = λ parts rest are fits.
    (sized-element-front 0x31 (is_tag 0x31 refl) (listed-whole element_has_octets any_element_falls any_element-front)).again parts rest (are, fits)
