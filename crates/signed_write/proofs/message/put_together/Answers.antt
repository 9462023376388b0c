use Rattle.std.proofs.Common.{◌≡◌, ◌++◌, ◌+◌, ◌-◌, ◌∙◌, List, ℕ, ◌∷◌, length, take, drop, ap, append_assoc, arith}
use Rattle.std.proofs.lemmas.Result.{IfOk-weaker}
use Rattle.signed_write.specs.Unsigned.{Parts}
use Rattle.signed_write.proofs.Packed.{within}
use Rattle.signed_write.proofs.message.put_together.Goals as goal

pub returns-clause-signed : goal.returns-clause-signed
returns-clause-signed c =
    let front = (c.args.front.now ++ c.args.content.now) ++ c.args.middle.now in
    let attributes = c.args.attributes.now in
    let behind = c.args.behind.now in
    let from = c.len-from.result + 1 in
    let front_is = c.in_ok-extend_from_slice-3.ensures.items ∙ ap (λ (o : List ℕ). o ++ c.args.middle.now)
    (c.in_ok-extend_from_slice-2.ensures.items ∙ ap (λ (o : List ℕ). o ++ c.args.content.now)
    (c.in_ok-extend_from_slice.ensures.items ∙ ap (λ (o : List ℕ). o ++ c.args.front.now)
    (c.in_ok-reserve.ensures.items ∙ c.new-octets.ensures.items))) in
    let start : c.len-from.result ≡ length front = omega (arith, c.len-from.ensures, ap (λ (o : List ℕ). length o) front_is) in
    let signed_is = c.in_ok-extend_from_slice-4.ensures.items ∙ ap (λ (o : List ℕ). o ++ attributes) front_is in
    let end : c.len-to.result ≡ length (front ++ attributes) = omega (arith, c.len-to.ensures, ap (λ (o : List ℕ). length o) signed_is) in
    let all = c.in_ok-extend_from_slice-5.ensures.items ∙ ap (λ (o : List ℕ). o ++ behind) signed_is ∙ append_assoc front attributes behind in
    IfOk-weaker c.new.result _ _ (λ unsigned is.
    ap (λ (parts : Parts). parts.signed) is
    ∙ ap (λ (o : List ℕ). 0x31 ∷ take (c.len-to.result - from) (drop from o)) all
    ∙ ap (λ (n : ℕ). 0x31 ∷ take (c.len-to.result - (n + 1)) (drop (n + 1) (front ++ (attributes ++ behind)))) start
    ∙ ap (λ (n : ℕ). 0x31 ∷ take (n - (length front + 1)) (drop (length front + 1) (front ++ (attributes ++ behind)))) end
    ∙ ap (λ (o : List ℕ). 0x31 ∷ o) (within front attributes behind c.requires.some)) c.new.ensures.parts
