-- Which certificates may stand above others (RFC 5280, sections 4.2.1.3, 4.2.1.9 and 6.1.4).
use Rattle.std.specs.Prelude.{◌≡◌, ◌≤◌, ◌^◌, ◌/◌, ◌%◌, ℕ, Bool, not, List, [], ◌∷◌, IfSome, IsTrue, bytes_eq, count_by, take, slice_get}
use Rattle.std.specs.Option.{IsSomeAnd}
use Rattle.cert_fields.specs.Certificate.{Certificate}
use Rattle.cert_fields.specs.Extensions.{HasExtensions}
use Rattle.cert_fields.specs.declared.extensions.CaRule.{CaRule}
use Rattle.cert_fields.specs.declared.extensions.Extensions.{Extensions}

-- bit n of the key usage is set, where there is a key usage (4.2.1.3)
abbrev pub MayBeUsed : ℕ → Extensions → Type 0
MayBeUsed n e = IfSome e.usage (λ usage. usage / 2 ^ n % 2 ≡ 1)

-- the signer's certificate may be used for signatures, by bit 0, digitalSignature (4.2.1.3); nothing else is asked of it
abbrev pub SignerKeepsRules : Certificate → Type 0
SignerKeepsRules c = (e : Extensions) × HasExtensions c e × MayBeUsed 0 e

-- an authority, below which so many certificates may stand (4.2.1.9)
abbrev pub IsAuthority : ℕ → CaRule → Type 0
IsAuthority below rule = IsTrue rule.ca × IfSome rule.path_len (λ limit. below ≤ limit)

-- an authority that may sign certificates, by bit 5, keyCertSign (6.1.4 (k), (m) and (n))
abbrev pub MayIssue : ℕ → Extensions → Type 0
MayIssue below e = IsSomeAnd e.ca (IsAuthority below) × MayBeUsed 5 e

-- a certificate above the signer's, with so many below it that count
abbrev pub AuthorityKeepsRules : ℕ → Certificate → Type 0
AuthorityKeepsRules below c = (e : Extensions) × HasExtensions c e × MayIssue below e

-- subject and issuer are one name (6.1)
abbrev pub is_self_issued : Certificate → Bool
is_self_issued c = bytes_eq c.signed.subject c.signed.issuer

-- how many of the first n certificates above the signer's aren't self-issued (6.1.4 (l)); the signer's isn't among them
abbrev pub counted : ℕ → List Certificate → ℕ
counted n above = count_by (λ c. not (is_self_issued c)) (take n above)

-- the signer's certificate, and those above it
abbrev pub KeepRules : List Certificate → Type 0
KeepRules [] = Unit {0}
KeepRules (signer ∷ above) =
    SignerKeepsRules signer
    × ((i : ℕ) → IfSome (slice_get above i) (AuthorityKeepsRules (counted i above)))
