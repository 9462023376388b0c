-- A signed package, put together from its parts.
use Rattle.std.proofs.Common.{◌≡◌, ℕ, ◌+◌, ◌-◌, ◌≤◌, List, [], ◌∷◌, ◌++◌, length, take, drop, refl, sym, ap, ap₂, ◌∙◌, append_assoc, arith}
use Rattle.std.proofs.lemmas.List.{length-append, append-nil, take_at, drop_at, drop-drop}
use Rattle.der_core.specs.Element.{enc}
use Rattle.der_core.specs.Head.{head_octets}

-- a head and what stands behind it are an element
pub begun : (tag size : ℕ) (contents rest : List ℕ) → size ≡ length contents + length rest
    → (head_octets tag size ++ contents) ++ rest ≡ enc tag (contents ++ rest)
unfolding enc
begun tag size contents rest is =
    append_assoc (head_octets tag size) contents rest
    ∙ ap (λ (n : ℕ). head_octets tag n ++ (contents ++ rest)) {x = size} {y = length (contents ++ rest)}
    (is ∙ sym (length-append contents rest))

-- an element whose contents end with an element that is still to end
pub one_more : (tag inner : ℕ) (outside front contents between rest : List ℕ)
    → outside ++ rest ≡ enc tag ((contents ++ front) ++ rest) → front ++ rest ≡ enc inner (between ++ rest)
    → outside ++ rest ≡ enc tag (contents ++ enc inner (between ++ rest))
one_more tag inner outside front contents between rest is front_is =
    is ∙ ap (enc tag) (append_assoc contents front rest ∙ ap (λ (o : List ℕ). contents ++ o) front_is)

-- five parts and what comes behind them, grouped from the right
pub regrouped : (front image middle attributes behind signature : List ℕ)
    → (front ++ (image ++ (middle ++ (attributes ++ behind)))) ++ signature
    ≡ front ++ (image ++ (middle ++ (attributes ++ (behind ++ signature))))
regrouped front image middle attributes behind signature =
    append_assoc front (image ++ (middle ++ (attributes ++ behind))) signature
    ∙ ap (λ (o : List ℕ). front ++ o) (append_assoc image (middle ++ (attributes ++ behind)) signature
    ∙ ap (λ (o : List ℕ). image ++ o) (append_assoc middle (attributes ++ behind) signature
    ∙ ap (λ (o : List ℕ). middle ++ o) (append_assoc attributes behind signature)))

-- what stands behind the image has the size that was counted
pub sized : (image middle attributes behind signature : List ℕ) (size : ℕ) → length signature ≡ size
    → length (image ++ (middle ++ (attributes ++ (behind ++ signature))))
    ≡ length image + length middle + length attributes + length behind + size
sized image middle attributes behind signature size is =
    omega (
      arith,
      is,
      length-append image (middle ++ (attributes ++ (behind ++ signature))),
      length-append middle (attributes ++ (behind ++ signature)),
      length-append attributes (behind ++ signature),
      length-append behind signature,
    )

-- an identifier, and in [0] an element of which the last octets come later
pub nested : (inner : ℕ) (outside contents explicit content fields rest kind of_contents of_content : List ℕ)
    → outside ++ rest ≡ enc 0x30 (of_contents ++ rest) → of_contents ≡ contents → contents ≡ kind ++ explicit
    → explicit ++ rest ≡ enc 0xA0 (of_content ++ rest) → of_content ≡ content
    → content ++ rest ≡ enc inner (fields ++ rest)
    → outside ++ rest ≡ enc 0x30 (kind ++ enc 0xA0 (enc inner (fields ++ rest)))
nested inner outside contents explicit content fields rest kind of_contents of_content is same parts explicit_is same_content content_is =
    is
    ∙ ap (λ (o : List ℕ). enc 0x30 (o ++ rest)) (same ∙ parts)
    ∙ ap (enc 0x30) (append_assoc kind explicit rest ∙ ap (λ (o : List ℕ). kind ++ o)
    (explicit_is ∙ ap (λ (o : List ℕ). enc 0xA0 (o ++ rest)) same_content ∙ ap (enc 0xA0) content_is))

-- parts that are equal
pub same_parts : (a b c d e a' b' c' d' e' : List ℕ) → a ≡ a' → b ≡ b' → c ≡ c' → d ≡ d' → e ≡ e'
    → a ++ (b ++ (c ++ (d ++ e))) ≡ a' ++ (b' ++ (c' ++ (d' ++ e')))
same_parts a b c d e a' b' c' d' e' p q r s t =
    ap₂ (λ (x y : List ℕ). x ++ y) p (ap₂ (λ (x y : List ℕ). x ++ y) q
    (ap₂ (λ (x y : List ℕ). x ++ y) r (ap₂ (λ (x y : List ℕ). x ++ y) s t)))

-- Five parts and a signature are the signed package, where each begins the elements that end in what stands behind it:
-- `kind`, `version` and `algorithms` stand before encapContentInfo, `type` before the content in it, `certificates`
-- before the signer, and `first`, `sid` and `digest` before its attributes.
pub packed : (front image middle attributes behind signature content head whole : List ℕ)
    (kind version algorithms type certificates first sid digest algorithm signed : List ℕ)
    → front ++ (image ++ (middle ++ (attributes ++ (behind ++ signature))))
    ≡ enc 0x30 (kind ++ enc 0xA0 (enc 0x30 (version ++ (algorithms
    ++ (content ++ (image ++ (middle ++ (attributes ++ (behind ++ signature)))))))))
    → content ++ image ≡ enc 0x30 (type ++ enc 0xA0 (enc 0x04 (head ++ image)))
    → head ++ image ≡ whole
    → middle ++ (attributes ++ (behind ++ signature))
    ≡ certificates ++ enc 0x31 (enc 0x30 (first ++ (sid ++ (digest ++ (attributes ++ (behind ++ signature))))))
    → behind ++ signature ≡ algorithm ++ enc 0x04 signature
    → attributes ≡ signed
    → (front ++ (image ++ (middle ++ (attributes ++ behind)))) ++ signature
    ≡ enc 0x30 (kind ++ enc 0xA0 (enc 0x30 (version ++ (algorithms
    ++ (enc 0x30 (type ++ enc 0xA0 (enc 0x04 whole)) ++ (certificates
    ++ enc 0x31 (enc 0x30 (first ++ (sid ++ (digest ++ (signed ++ (algorithm ++ (enc 0x04 signature ++ [])))))))))))))
packed front image middle attributes behind signature content head whole kind version algorithms type certificates first sid digest algorithm signed front_is content_is head_is middle_is behind_is attributes_are =
    regrouped front image middle attributes behind signature
    ∙ front_is
    ∙ ap (λ (o : List ℕ). enc 0x30 (kind ++ enc 0xA0 (enc 0x30 (version ++ (algorithms ++ o)))))
    (sym (append_assoc content image (middle ++ (attributes ++ (behind ++ signature))))
    ∙ ap₂ (λ (x y : List ℕ). x ++ y)
    (content_is ∙ ap (λ (o : List ℕ). enc 0x30 (type ++ enc 0xA0 (enc 0x04 o))) head_is)
    (middle_is ∙ ap (λ (o : List ℕ). certificates ++ enc 0x31 (enc 0x30 (first ++ (sid ++ (digest ++ o)))))
    (ap₂ (λ (x y : List ℕ). x ++ y) attributes_are
    (behind_is ∙ ap (λ (o : List ℕ). algorithm ++ o) (sym (append-nil (enc 0x04 signature)))))))

-- an element has octets, and the tag of the signed attributes can be another
pub some_octets : (tag : ℕ) (contents : List ℕ) → 1 ≤ length (enc tag contents)
unfolding enc
some_octets tag contents = omega arith

pub retagged : (contents : List ℕ) → 0x31 ∷ drop 1 (enc 0xA0 contents) ≡ enc 0x31 contents
unfolding enc
retagged contents = refl

-- what stands behind a front and a tag, up to what comes next, is the signed part without its tag
pub within : (front signed rest : List ℕ) → 1 ≤ length signed
    → take (length (front ++ signed) - (length front + 1)) (drop (length front + 1) (front ++ (signed ++ rest)))
    ≡ drop 1 signed
within front [] rest some = absurd (omega (arith, some))
within front (tag ∷ octets) rest some =
    ap (take n) (sym (drop-drop 1 (length front) (front ++ (tag ∷ octets ++ rest))))
    ∙ ap (λ (all : List ℕ). take n (drop 1 all)) (drop_at front (tag ∷ octets ++ rest) (length front) refl)
    ∙ take_at octets rest n (omega (arith, length-append front (tag ∷ octets)))
  where
    n : ℕ
    n = length (front ++ (tag ∷ octets)) - (length front + 1)
