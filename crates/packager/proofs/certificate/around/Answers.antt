use Rattle.std.proofs.Common.{◌≡◌, ◌++◌, ◌+◌, ◌-◌, ◌∙◌, List, ℕ, [], ◌∷◌, length, take, drop, ap, arith}
use Rattle.der_core.specs.Head.{head_octets}
use Rattle.cert_fields.specs.Algorithms.{signature_algorithm}
use Rattle.signed_write.specs.Unsigned.{Parts}
use Rattle.packager.proofs.Around.{put, put_text, signed_within}
use Rattle.std.proofs.lemmas.Result.{IfOk-weaker}
use Rattle.packager.proofs.certificate.around.Goals as goal

-- the octets, as they were put
octets_are : (octets start head signed bits a b c d : List ℕ) → octets ≡ d ++ 0 ∷ [] → d ≡ c ++ bits → c ≡ b ++ signature_algorithm
    → b ≡ a ++ signed → a ≡ start ++ head → start ≡ [] → octets ≡ put head signed bits
octets_are octets start head signed bits a b c d last bits_are algorithm part front empty =
    last
    ∙ ap (λ (o : List ℕ). o ++ 0 ∷ []) (bits_are
    ∙ ap (λ (o : List ℕ). o ++ bits) (algorithm
    ∙ ap (λ (o : List ℕ). o ++ signature_algorithm) (part
    ∙ ap (λ (o : List ℕ). o ++ signed) (front ∙ ap (λ (o : List ℕ). o ++ head) empty))))

-- the parts stand so
module _ (c : goal.After-new) where
  abbrev contents : ℕ
  contents = length c.args.signed.now + 15 + c.head_size.result + (1 + c.args.size)

  abbrev head : List ℕ
  head = head_octets 0x30 contents

  abbrev bits : List ℕ
  bits = head_octets 0x03 (1 + c.args.size)

  are : c.push.new.self.items ≡ put head c.args.signed.now bits
  are =
      octets_are c.push.new.self.items c.reserve.new.self.items head c.args.signed.now bits c.put_head.new.out.items
      c.extend_from_slice.new.self.items c.put_algorithm.new.out.items c.put_head-2.new.out.items c.in_ok-push.ensures.items
      c.in_ok-put_head-2.ensures.ok c.in_ok-put_algorithm.ensures.ok c.in_ok-extend_from_slice.ensures.items
      c.in_ok-put_head.ensures.ok (c.in_ok-reserve.ensures.items ∙ c.new-octets.ensures.items)

pub returns-clause-signed : goal.returns-clause-signed
returns-clause-signed c =
    let from = c.len-from.result + 1 in
    let put_front = c.in_ok-put_head.ensures.ok ∙ ap (λ (o : List ℕ). o ++ head c) (c.in_ok-reserve.ensures.items ∙ c.new-octets.ensures.items) in
    let front : c.len-from.result ≡ length (head c) = omega (arith, c.len-from.ensures, ap (λ (o : List ℕ). length o) put_front) in
    let part = c.in_ok-extend_from_slice.ensures.items ∙ ap (λ (o : List ℕ). o ++ c.args.signed.now) put_front in
    let end : c.len-to.result ≡ length (head c ++ c.args.signed.now) = omega (arith, c.len-to.ensures, ap (λ (o : List ℕ). length o) part) in
    IfOk-weaker c.new.result _ _ (λ unsigned is.
    ap (λ (parts : Parts). parts.signed) is
    ∙ ap (λ (o : List ℕ). 0x30 ∷ take (c.len-to.result - from) (drop from o)) (are c)
    ∙ ap (λ (n : ℕ). 0x30 ∷ take (c.len-to.result - (n + 1)) (drop (n + 1) (put (head c) c.args.signed.now (bits c)))) front
    ∙ ap (λ (n : ℕ). 0x30 ∷ take (n - (length (head c) + 1)) (drop (length (head c) + 1) (put (head c) c.args.signed.now (bits c)))) end
    ∙ ap (λ (o : List ℕ). 0x30 ∷ o) (signed_within (head c) c.args.signed.now (bits c) c.requires.some)) c.new.ensures.parts

pub returns-clause-text : goal.returns-clause-text
returns-clause-text c =
    IfOk-weaker c.new.result _ _ (λ unsigned is. λ signature long.
    ap (λ (parts : Parts). parts.before ++ signature) is ∙ ap (λ (o : List ℕ). o ++ signature) (are c)
    ∙ put_text c.args.signed.now signature c.args.size (contents c) long (omega (arith, c.head_size.ensures.size))) c.new.ensures.parts
