-- Plans whose certificates and packages are read back, and what their extensions then say (RFC 5280, sections 4.1 and
-- 4.2; RFC 5652, section 5).
use Rattle.std.specs.Prelude.{◌≡◌, ◌≢◌, ℕ, ◌<◌, ◌^◌, true, List, [], ◌∷◌, IfSome, option_map}
use Rattle.der_core.specs.Asked.{Asked}
use Rattle.der_core.specs.Element.{IsTagged}
use Rattle.der_core.specs.Moment.{IsMoment}
use Rattle.der_core.specs.Objects.{IsOid}
use Rattle.hss_chain.specs.Keys.{IsHssKey}
use Rattle.cert_fields.specs.Certificate.{IsSerialNumber}
use Rattle.cert_fields.specs.Constraints.{ContentConstraint, AreConstraints, constraints_text}
use Rattle.cert_fields.specs.Extensions.{IsKeyIdentifier}
use Rattle.cert_fields.specs.declared.extensions.CaRule.{CaRule}
use Rattle.cert_fields.specs.declared.extensions.Extensions.{Extensions}
use Rattle.package_attrs.specs.Identifier.{HasOneTo64}
use Rattle.packager.specs.declared.certificate_plan.Authority.{Authority}
use Rattle.packager.specs.declared.certificate_plan.KeyUses.{KeyUses}
use Rattle.packager.specs.declared.certificate_plan.KeyUses.TheVariants.{Sign, CertSign, Both}
use Rattle.packager.specs.CertificatePlan.{CertificatePlan, IsShort}

-- the octets are content constraints, all of them (RFC 6010, section 3)
abbrev pub AreConstraintsText : List ℕ → Type 0
AreConstraintsText octets =
    (constraints : List ContentConstraint) × AreConstraints constraints × (octets ≡ constraints_text constraints)

-- What the plan says has texts that are read back.
pub record IsCertificatePlan (p : CertificatePlan) : Type 0 where
  pub short : IsShort p
  pub serial : IsSerialNumber p.serial
  pub issuer : IsTagged 0x30 p.issuer
  pub subject : IsTagged 0x30 p.subject
  pub from : IsMoment p.from
  pub to : IsMoment p.to
  pub key : IsHssKey p.key
  pub subject_key : IfSome p.subject_key IsKeyIdentifier
  pub authority_key : IfSome p.authority_key IsKeyIdentifier
  pub authority : IfSome p.authority (λ a. IfSome a.path_len (λ n. n < 2 ^ 128))
  pub constraints : IfSome p.constraints AreConstraintsText
  pub hardware : IfSome p.hardware (λ h. IsOid h.0 × HasOneTo64 h.1)

-- that the subject is an authority
abbrev pub planned_rule : Authority → CaRule
planned_rule a = record { ca = true; path_len = a.path_len }

-- digitalSignature is bit 0 of the number, and keyCertSign bit 5 (4.2.1.3)
abbrev pub planned_usage : KeyUses → ℕ
planned_usage Sign = 1
planned_usage CertSign = 32
planned_usage Both = 33

-- The extensions say what the plan says.
pub record SaysPlanned (p : CertificatePlan) (e : Extensions) : Type 0 where
  pub subject_key : e.subject_key ≡ p.subject_key
  pub authority_key : e.authority_key ≡ p.authority_key
  pub ca : e.ca ≡ option_map planned_rule p.authority
  pub usage : e.usage ≡ option_map planned_usage p.uses
  pub constraints : option_map constraints_text e.constraints ≡ p.constraints

-- ---- packages

-- each of the conditions holds, but for that of this number, which isn't asked
abbrev pub AllBut : ℕ → List Asked → Type 0
AllBut n [] = Unit {0}
AllBut n (c ∷ more) = (c.number ≢ n → c.holds) × AllBut n more
