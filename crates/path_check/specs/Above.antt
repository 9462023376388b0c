-- Which certificates and trust anchors may stand above a certificate on a path, and which are named as a signer's
-- (RFC 5280, section 6.1; RFC 5652, section 5.3).
--
-- Names and serial numbers are compared octet for octet. That key identifiers choose among certificates of one name, and
-- that those of a certificate count where all of its extensions read, is this project's own (RFC 5280, section 4.2.1.1,
-- leaves it to the implementation).
use Rattle.std.specs.Prelude.{◌≡◌, ℕ, List, Some}
use Rattle.cert_fields.specs.Certificate.{Certificate}
use Rattle.cert_fields.specs.Anchor.{TrustAnchor}
use Rattle.cert_fields.specs.Extensions.{HasExtensions}
use Rattle.cert_fields.specs.declared.extensions.Extensions.{Extensions}
use Rattle.cert_fields.specs.Sid.{SignerIdentifier, IssuerAndSerialNumber, SubjectKeyIdentifier}

-- the certificate's own key identifier (4.2.1.2)
abbrev pub HasSubjectKey : Certificate → List ℕ → Type 0
HasSubjectKey c key = (e : Extensions) × HasExtensions c e × (e.subject_key ≡ Some key)

-- the key identifier that it gives for the key above it (4.2.1.1)
abbrev pub HasAuthorityKey : Certificate → List ℕ → Type 0
HasAuthorityKey c key = (e : Extensions) × HasExtensions c e × (e.authority_key ≡ Some key)

-- two key identifiers are equal where both are there
abbrev pub Agree : (List ℕ → Type 0) → (List ℕ → Type 0) → Type 0
Agree IsKey IsOther = (key other : List ℕ) → IsKey key → IsOther other → key ≡ other

-- the candidate may have issued the child
pub record IsAbove (child candidate : Certificate) : Type 0 where
  pub names : candidate.signed.subject ≡ child.signed.issuer
  pub keys : Agree (HasAuthorityKey child) (HasSubjectKey candidate)

-- the anchor may have issued it
pub record IsAnchorAbove (child : Certificate) (anchor : TrustAnchor) : Type 0 where
  pub names : anchor.subject ≡ child.signed.issuer
  pub keys : Agree (HasAuthorityKey child) (λ key. key ≡ anchor.key_id)

-- the certificate is named
abbrev pub IsNamed : SignerIdentifier → Certificate → Type 0
IsNamed (IssuerAndSerialNumber issuer serial) c = (c.signed.issuer ≡ issuer) × (c.signed.serial ≡ serial)
IsNamed (SubjectKeyIdentifier key) c = HasSubjectKey c key

-- the anchor is named, by its key identifier alone
abbrev pub IsNamedAnchor : SignerIdentifier → TrustAnchor → Type 0
IsNamedAnchor (IssuerAndSerialNumber issuer serial) anchor = ⊥
IsNamedAnchor (SubjectKeyIdentifier key) anchor = anchor.key_id ≡ key
