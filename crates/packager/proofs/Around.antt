-- A certificate around its signed part: heads, the part, the algorithm and the signature.
use Rattle.std.proofs.Common.{◌≡◌, ◌++◌, ◌+◌, ◌-◌, ◌≤◌, ◌∙◌, List, ℕ, [], ◌∷◌, length, take, drop, ap, refl, append_assoc, arith}
use Rattle.std.proofs.lemmas.List.{length-append}
use Rattle.der_core.specs.BitString.{bits_contents}
use Rattle.der_core.specs.Element.{length_octets, enc}
use Rattle.der_core.specs.Head.{head_octets}
use Rattle.cert_fields.specs.Algorithms.{signature_algorithm}
use Rattle.cert_fields.specs.Certificate.{bits_text}
use Rattle.signed_write.proofs.Packed.{within}

pub algorithm_size : length signature_algorithm ≡ 15
unfolding enc length_octets
algorithm_size = refl

-- octets and what stands behind them
abbrev ends : List ℕ → List ℕ → List ℕ → List ℕ
ends signed bits signature = signed ++ (signature_algorithm ++ (bits ++ 0 ∷ signature))

-- the parts as they are put, one behind the other
abbrev pub put : List ℕ → List ℕ → List ℕ → List ℕ
put head signed bits = (((head ++ signed) ++ signature_algorithm) ++ bits) ++ 0 ∷ []

regrouped : (head signed bits signature : List ℕ) → put head signed bits ++ signature ≡ head ++ ends signed bits signature
regrouped head signed bits signature =
    append_assoc (((head ++ signed) ++ signature_algorithm) ++ bits) (0 ∷ []) signature
    ∙ append_assoc ((head ++ signed) ++ signature_algorithm) bits (0 ∷ signature)
    ∙ append_assoc (head ++ signed) signature_algorithm (bits ++ 0 ∷ signature)
    ∙ append_assoc head signed (signature_algorithm ++ (bits ++ 0 ∷ signature))

-- with a signature of that size they are the certificate
pub put_text : (signed signature : List ℕ) (size contents : ℕ) → length signature ≡ size
    → contents ≡ length signed + 15 + (1 + length (length_octets (1 + size))) + (1 + size)
    → put (head_octets 0x30 contents) signed (head_octets 0x03 (1 + size)) ++ signature
    ≡ enc 0x30 (signed ++ (signature_algorithm ++ bits_text (0, signature)))
unfolding enc bits_contents
put_text signed signature size contents long is =
    regrouped (head_octets 0x30 contents) signed (head_octets 0x03 (1 + size)) signature
    ∙ ap (λ (n : ℕ). head_octets 0x30 contents ++ ends signed (head_octets 0x03 n) signature) {x = 1 + size} {y = length (0 ∷ signature)} (omega (arith, long))
    ∙ ap (λ (n : ℕ). head_octets 0x30 n ++ ends signed (head_octets 0x03 (length (0 ∷ signature))) signature)
    {x = contents} {y = length (ends signed (head_octets 0x03 (length (0 ∷ signature))) signature)}
    (is ∙ omega (arith, long, algorithm_size, same, first, second, third))
  where
    bits : List ℕ
    bits = head_octets 0x03 (length (0 ∷ signature))

    first : length (ends signed bits signature) ≡ length signed + length (signature_algorithm ++ (bits ++ 0 ∷ signature))
    first = length-append signed (signature_algorithm ++ (bits ++ 0 ∷ signature))

    second : length (signature_algorithm ++ (bits ++ 0 ∷ signature)) ≡ length signature_algorithm + length (bits ++ 0 ∷ signature)
    second = length-append signature_algorithm (bits ++ 0 ∷ signature)

    third : length (bits ++ 0 ∷ signature) ≡ length bits + length (0 ∷ signature)
    third = length-append bits (0 ∷ signature)

    same : length (length_octets (1 + size)) ≡ length (length_octets (length (0 ∷ signature)))
    same = ap (λ (n : ℕ). length (length_octets n)) {x = 1 + size} {y = length (0 ∷ signature)} (omega (arith, long))

-- the same of a certificate as it is put
pub signed_within : (head signed bits : List ℕ) → 1 ≤ length signed
    → take (length (head ++ signed) - (length head + 1)) (drop (length head + 1) (put head signed bits)) ≡ drop 1 signed
signed_within head signed bits some =
    ap (λ (all : List ℕ). take (length (head ++ signed) - (length head + 1)) (drop (length head + 1) all)) spread
    ∙ within head signed rest some
  where
    rest : List ℕ
    rest = signature_algorithm ++ (bits ++ 0 ∷ [])

    spread : put head signed bits ≡ head ++ (signed ++ rest)
    spread =
        append_assoc ((head ++ signed) ++ signature_algorithm) bits (0 ∷ [])
        ∙ append_assoc (head ++ signed) signature_algorithm (bits ++ 0 ∷ [])
        ∙ append_assoc head signed rest
