-- HSS keys in certificates.
use Rattle.std.proofs.Common.{◌≡◌, ◌≢◌, ◌↔◌, ◌⊎◌, inl, inr, ◌≤◌, ◌/◌, ℕ, List, Option, Some, IfSome, get_or, refl, sym, ap, subst, ◌∙◌, arith}
use Rattle.cert_fields.specs.Anchor.{TrustAnchor}
use Rattle.cert_fields.specs.Certificate.{Certificate}
use Rattle.hss_chain.specs.declared.key.HssKey.{HssKey}
use Rattle.hss_chain.specs.Keys.{IsHssKey, hss_key_text}
use Rattle.cert_fields.specs.Algorithms.{signature_algorithm}
use Rattle.path_check.specs.HssCertificate.{wrapped, IsKeyOf, IsAnchorKey}
use Rattle.path_check.specs.Members.{IsOnlyKey}

some_is : {A : Type 0} {x y : A} → Some x ≡ Some y → x ≡ y
some_is e = cc

-- what `hss_key` answers of octets
pub record ReadsKey (octets : List ℕ) (answer : Option HssKey) : Type 0 where
  pub read : IfSome answer (λ key. octets ≡ hss_key_text key)
  pub valid : IfSome answer IsHssKey
  pub found : (key : HssKey) → IsHssKey key → octets ≡ hss_key_text key → answer ≡ Some key

read_key : (octets : List ℕ) (answer : Option HssKey) (key : HssKey) → ReadsKey octets answer → answer ≡ Some key
    → IsHssKey key × (octets ≡ hss_key_text key)
read_key octets answer key reads is =
    (subst (λ a. IfSome a IsHssKey) is reads.valid, subst (λ a. IfSome a (λ k. octets ≡ hss_key_text k)) is reads.read)

-- a key begins with a zero octet, and an OCTET STRING doesn't
first_zero : (key : HssKey) → key.levels ≤ 8 → get_or (hss_key_text key) 0 0 ≡ 0
first_zero key few =
    let small : key.levels / 16777216 ≡ 0 = omega (arith, few) in rw small refl

not_wrapped : (key : HssKey) (rest : List ℕ) → IsHssKey key → hss_key_text key ≢ wrapped rest
not_wrapped key rest valid same =
    let first : get_or (hss_key_text key) 0 0 ≡ 4 = ap (λ l. get_or l 0 0) same in
    let zero : get_or (hss_key_text key) 0 0 ≡ 0 = first_zero key valid.most in
    absurd (omega (arith, first, zero))

module _ (c : Certificate) (algorithm : c.signed.key_algorithm ≡ signature_algorithm) (unused : c.signed.key.0 ≡ 0) where
  -- the key in an OCTET STRING
  pub key_in_string : (octets : List ℕ) (answer : Option HssKey) → c.signed.key.1 ≡ wrapped octets → ReadsKey octets answer
      → (key : HssKey) → (answer ≡ Some key) ↔ IsKeyOf c key
  key_in_string octets answer is reads key = (
    λ answers.
        let read = read_key octets answer key reads answers in
        record { algorithm = algorithm; unused = unused; valid = read.0; text = inr (is ∙ ap wrapped read.1) },
    λ has. by has has.text,
  )
    where
      by : IsKeyOf c key → (c.signed.key.1 ≡ hss_key_text key) ⊎ (c.signed.key.1 ≡ wrapped (hss_key_text key))
          → answer ≡ Some key
      by has (inl plain) = absurd (not_wrapped key octets has.valid (sym plain ∙ is))
      by has (inr wraps) = let same : wrapped octets ≡ wrapped (hss_key_text key) = sym is ∙ wraps in
          reads.found key has.valid (let e : octets ≡ hss_key_text key = cc in e)

  -- the key as it is
  pub key_as_it_is : (answer : Option HssKey) → ((octets : List ℕ) → c.signed.key.1 ≢ wrapped octets)
      → ReadsKey c.signed.key.1 answer → (key : HssKey) → (answer ≡ Some key) ↔ IsKeyOf c key
  key_as_it_is answer isnt reads key = (
    λ answers.
        let read = read_key c.signed.key.1 answer key reads answers in
        record { algorithm = algorithm; unused = unused; valid = read.0; text = inl read.1 },
    λ has. by has has.text,
  )
    where
      by : IsKeyOf c key → (c.signed.key.1 ≡ hss_key_text key) ⊎ (c.signed.key.1 ≡ wrapped (hss_key_text key))
          → answer ≡ Some key
      by has (inl plain) = reads.found key has.valid plain
      by has (inr wraps) = absurd (isnt (hss_key_text key) wraps)

-- the key of an anchor that was read is its only one
pub only_key : (anchor : TrustAnchor) (kept : HssKey) (answer : Option HssKey) → ReadsKey anchor.key answer
    → answer ≡ Some kept → IsOnlyKey anchor kept
only_key anchor kept answer reads is key = (
  λ same.
      let read = read_key anchor.key answer key reads (is ∙ ap Some same) in record { valid = read.0; text = read.1 },
  λ has. some_is (sym is ∙ reads.found key has.valid has.text),
)

-- where no member is above, the key above is that of the anchor
pub key_of_anchor : (anchor : TrustAnchor) (kept key : HssKey) → IsOnlyKey anchor kept
    → (Some kept ≡ Some key) ↔ IsAnchorKey anchor key
key_of_anchor anchor kept key only = (λ same. (only key).0 (some_is same), λ has. ap Some ((only key).1 has))
