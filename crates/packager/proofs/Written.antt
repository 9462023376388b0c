-- Extensions that are written, or aren't as there are none.
use Rattle.std.proofs.Common.{◌≡◌, ◌<◌, List, ℕ, [], ◌∷◌, length, None, ap, refl, arith}
use Rattle.std.specs.List.{flat_map}
use Rattle.std.proofs.lemmas.List.{length-append}
use Rattle.der_core.specs.Element.{enc}
use Rattle.cert_fields.specs.Extensions.{Extension, extension_text, extension_contents}
use Rattle.packager.specs.CertificatePlan.{written_extensions}

-- an element has octets
some_octets : (tag : ℕ) (contents : List ℕ) → 0 < length (enc tag contents)
unfolding enc
some_octets tag contents = omega arith

-- where nothing is written there is no extension
pub none_written : (es : List Extension) → flat_map extension_text es ≡ [] → written_extensions es ≡ None
none_written [] empty = refl
none_written (e ∷ es) empty =
    absurd (omega (arith, ap (λ (octets : List ℕ). length octets) empty, length-append (extension_text e) (flat_map extension_text es), some_octets 0x30 (extension_contents e)))
