-- Where the element at the front stands.
use Rattle.std.proofs.Common.{◌≡◌, ℕ, ◌+◌, ◌-◌, List, ◌∷◌, ◌++◌, length, take, drop, refl, ap, ◌∙◌, append_assoc, arith}
use Rattle.std.specs.Prelude.{slice_range}
use Rattle.std.proofs.lemmas.List.{take_at, drop_at, length-append}
use Rattle.der_core.specs.Element.{length_octets, enc, IsElement}
use Rattle.der_core.specs.Tlv.{IsFirst}

pub length-enc : (tag : ℕ) (contents : List ℕ)
    → length (enc tag contents) ≡ 1 + length (length_octets (length contents)) + length contents
unfolding enc
length-enc tag contents = omega (arith, length-append (length_octets (length contents)) contents)

pub is_first : (bytes : List ℕ) (tag : ℕ) (contents rest : List ℕ) → IsElement tag contents
    → bytes ≡ enc tag contents ++ rest
    → IsFirst bytes
    (record { tag = tag; head = length bytes - length rest - length contents; end = length bytes - length rest })
unfolding enc
is_first bytes tag contents rest h e =
    let front = length_octets (length contents) in
    let size : length bytes ≡ 1 + length (length_octets (length contents)) + length contents + length rest =
    omega (arith, ap length e, length-append (enc tag contents) rest, length-enc tag contents) in
    let end-is : length bytes - length rest ≡ length (enc tag contents) = omega (arith, length-enc tag contents) in
    let head-is : length bytes - length rest - length contents ≡ length
    (tag ∷ length_octets (length contents)) = omega arith in
    let regrouped : bytes ≡ (tag ∷ length_octets (length contents)) ++ (contents ++ rest) =
    e ∙ append_assoc (tag ∷ length_octets (length contents)) contents rest in
    let dropped : drop (length bytes - length rest - length contents) bytes ≡ contents ++ rest =
    rw head-is
    (ap (drop (length (tag ∷ length_octets (length contents)))) regrouped
    ∙ drop_at (tag ∷ length_octets (length contents)) (contents ++ rest) _ refl) in
    let width : (length bytes - length rest) -
    (length bytes - length rest - length contents) ≡ length contents = omega arith in
    let stands : slice_range bytes (length bytes - length rest - length contents)
    (length bytes - length rest) ≡ contents =
    rw (width, dropped) (take_at contents rest (length contents) refl) in
    record {
      ordered = omega arith;
      within = omega arith;
      element = rw stands h;
      text = rw (stands, end-is)
          (ap (take (length (enc tag contents))) e ∙ take_at (enc tag contents) rest _ refl);
    }
