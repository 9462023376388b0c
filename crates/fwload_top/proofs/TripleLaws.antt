-- A key, a message and a signature are read exactly.
use Rattle.std.proofs.Common.{◌≡◌, ℕ, ◌<◌, ◌^◌, List, ◌++◌, length, refl, sym, ap, ◌∙◌, arith}
use Rattle.der_core.proofs.Numbers.{some_is}
use Rattle.std.proofs.lemmas.List.{length-append}
use Rattle.der_core.specs.Element.{enc}
use Rattle.der_core.specs.Shapes.{IsFront, IsWhole, element, anything}
use Rattle.der_core.proofs.Places.{length-enc}
use Rattle.der_core.proofs.Shapes.{is_tag, sized-element-front, same-front, alone-whole, before-whole, mapped-whole}
use Rattle.der_core.proofs.Shapes.{anything-whole}
use Rattle.fwload_top.specs.Sigcheck.{Triple, triple_contents, triple_text, IsTriple}
use Rattle.fwload_top.specs.TripleReading.{fields_of, triple_of}

-- octets that an element can hold
abbrev Fits : List ℕ → Type 0
Fits octets = Unit {0} × (length octets < 2 ^ 32)

abbrev PartsFit : Triple → Type 0
PartsFit t = Fits t.key × (Fits t.message × Fits t.signature)

octets-front : IsFront (λ (octets : List ℕ). enc 0x04 octets) Fits (element 0x04 anything)
octets-front = sized-element-front 4 (is_tag 4 refl) anything-whole

fields-whole : IsWhole triple_contents PartsFit fields_of
unfolding fields_of
fields-whole = mapped-whole (λ x. record { key = x.0; message = x.1.0; signature = x.1.1 }) (λ x h. (h, refl))
    (λ t h. ((t.key, (t.message, t.signature)), h, refl))
    (before-whole octets-front (before-whole octets-front (alone-whole octets-front)))

-- where all of them fit, each does
parts_fit : (t : Triple) → IsTriple t → PartsFit t
parts_fit t fits =
    let all = length-append (enc 0x04 t.key) (enc 0x04 t.message ++ enc 0x04 t.signature) in
    let behind = length-append (enc 0x04 t.message) (enc 0x04 t.signature) in (
      (tt, omega (arith, fits, all, length-enc 0x04 t.key)),
      (
        (tt, omega (arith, fits, all, behind, length-enc 0x04 t.message)),
        (tt, omega (arith, fits, all, behind, length-enc 0x04 t.signature)),
      ),
    )

pub triple-whole : IsWhole triple_text IsTriple triple_of
unfolding triple_of
triple-whole = alone-whole (same-front (λ t h. (h.1, refl)) (λ t h. (parts_fit t h, h))
    (sized-element-front 48 (is_tag 48 refl) fields-whole))

-- a text is of one triple
pub one_triple : (t u : Triple) → IsTriple t → IsTriple u → triple_text t ≡ triple_text u → t ≡ u
one_triple t u t_valid u_valid same =
    some_is t u (sym (triple-whole.again t t_valid) ∙ ap triple_of same ∙ triple-whole.again u u_valid)
