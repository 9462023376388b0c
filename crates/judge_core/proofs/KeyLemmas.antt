-- A path has one key that its signer signs with.
use Rattle.std.proofs.Common.{◌≡◌, ◌≢◌, ◌⊎◌, inl, inr, ◌≤◌, ◌/◌, ℕ, List, [], ◌∷◌, get_or, sym, ap, ◌∙◌, arith, refl}
use Rattle.cert_fields.specs.Anchor.{TrustAnchor}
use Rattle.cert_fields.specs.Certificate.{Certificate}
use Rattle.hss_chain.specs.declared.key.HssKey.{HssKey}
use Rattle.hss_chain.specs.Keys.{IsHssKey, hss_key_text}
use Rattle.path_check.specs.Conditions.{IsKeyAbove}
use Rattle.path_check.specs.HssCertificate.{wrapped, IsKeyOf}

-- a key begins with a zero octet, and an OCTET STRING doesn't
first_zero : (key : HssKey) → key.levels ≤ 8 → get_or (hss_key_text key) 0 0 ≡ 0
first_zero key few =
    let small : key.levels / 16777216 ≡ 0 = omega (arith, few) in rw small refl

not_wrapped : (key : HssKey) (rest : List ℕ) → IsHssKey key → hss_key_text key ≢ wrapped rest
not_wrapped key rest valid same =
    let first : get_or (hss_key_text key) 0 0 ≡ 4 = ap (λ l. get_or l 0 0) same in
    let zero : get_or (hss_key_text key) 0 0 ≡ 0 = first_zero key valid.most in
    absurd (omega (arith, first, zero))

-- keys never share their octets
module _ (one_text_each : (a b : HssKey) → IsHssKey a → IsHssKey b → hss_key_text a ≡ hss_key_text b → a ≡ b) where
  one_key_of : (c : Certificate) (key other : HssKey) → IsKeyOf c key → IsKeyOf c other → key ≡ other
  one_key_of c key other is also = by is.text also.text
    where
      by : (c.signed.key.1 ≡ hss_key_text key) ⊎ (c.signed.key.1 ≡ wrapped (hss_key_text key))
          → (c.signed.key.1 ≡ hss_key_text other) ⊎ (c.signed.key.1 ≡ wrapped (hss_key_text other)) → key ≡ other
      by (inl plain) (inl plain') = one_text_each key other is.valid also.valid (sym plain ∙ plain')
      by (inl plain) (inr wraps) = absurd (not_wrapped key (hss_key_text other) is.valid (sym plain ∙ wraps))
      by (inr wraps) (inl plain) = absurd (not_wrapped other (hss_key_text key) also.valid (sym plain ∙ wraps))
      by (inr wraps) (inr wraps') =
          let same : wrapped (hss_key_text key) ≡ wrapped (hss_key_text other) = sym wraps ∙ wraps' in
          one_text_each key other is.valid also.valid (let e : hss_key_text key ≡ hss_key_text other = cc in e)

  -- that of the signer's certificate, or of the anchor
  pub one_key_above : (anchor : TrustAnchor) (members : List Certificate) (key other : HssKey)
      → IsKeyAbove anchor members key → IsKeyAbove anchor members other → key ≡ other
  one_key_above anchor [] key other is also = one_text_each key other is.valid also.valid (sym is.text ∙ also.text)
  one_key_above anchor (next ∷ above) key other is also = one_key_of next key other is also
