use Rattle.std.proofs.Common.{◌≡◌, ◌≤◌, ◌++◌, ◌∙◌, List, ℕ, ◌∷◌, length, drop, ap, refl, arith}
use Rattle.der_core.specs.Element.{enc}
use Rattle.std.proofs.lemmas.Result.{IfOk-weaker}
use Rattle.packager.proofs.certificate.issue.Goals as goal

-- an element has its tag
with_tag : (contents : List ℕ) → 0x30 ∷ drop 1 (enc 0x30 contents) ≡ enc 0x30 contents
unfolding enc
with_tag contents = refl

some_octets : (contents : List ℕ) → 1 ≤ length (enc 0x30 contents)
unfolding enc
some_octets contents = omega arith

pub around-requires-clause-some : goal.around-requires-clause-some
around-requires-clause-some c =
    let is = c.deref-2.ensures.value ∙ c.in_ok-put_tlv.ensures.ok ∙ ap (λ (o : List ℕ). o ++ enc 0x30 c.deref.result.now) c.new-signed.ensures.items in
    omega (arith, ap (λ (o : List ℕ). length o) is, some_octets c.deref.result.now)

pub returns-clause-signed : goal.returns-clause-signed
returns-clause-signed c =
    let is = c.deref-2.ensures.value ∙ c.in_ok-put_tlv.ensures.ok ∙ ap (λ (o : List ℕ). o ++ enc 0x30 c.deref.result.now) c.new-signed.ensures.items in
    let part = c.deref.ensures.value ∙ c.in_ok-part.ensures.ok in
    IfOk-weaker c.around.result _ _ (λ unsigned signed.
    signed ∙ ap (λ (o : List ℕ). 0x30 ∷ drop 1 o) is ∙ with_tag c.deref.result.now ∙ ap (enc 0x30) part) c.around.ensures.signed
