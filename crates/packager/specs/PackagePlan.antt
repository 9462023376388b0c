-- What a firmware package is to say (RFC 4108, sections 2.1 and 2.2; RFC 5652, section 5).
use Rattle.std.specs.Prelude.{◌≡◌, ℕ, ◌<◌, ◌≤◌, ◌^◌, Bool, List, length, map, Option, IfSome}
use Rattle.std.specs.List.{AllByRecursion, flat_map}
use Rattle.der_core.specs.Objects.{IsOid}
use Rattle.cert_fields.specs.Certificate.{Certificate, IsCertificate, certificate_text}
use Rattle.package_attrs.specs.declared.name.PackageName.{PackageName}
use Rattle.package_attrs.specs.Communities.{IsSerialEntry}
use Rattle.package_attrs.specs.Identifier.{Named, view, IsIdentifier, IsName, HasOneTo64}
use Rattle.attribute_write.specs.declared.communities.NamedCommunity.{NamedCommunity}
use Rattle.attribute_write.specs.declared.communities.NamedCommunity.TheVariants as named
use Rattle.packager.specs.declared.package_plan.PackagePlan.{PackagePlan}

-- What a package is to say.
pub record PlannedPackage : Type 0 where
  pub identifier : Named
  -- the hardware types that it is for, by the contents of their identifiers
  pub targets : List (List ℕ)
  pub communities : List NamedCommunity
  pub kind : Option ℕ
  pub dependencies : List PackageName
  -- certificates, whole elements
  pub certificates : List (List ℕ)
  -- the signer's key identifier
  pub signer : List ℕ
  -- whether the image stands in an OCTET STRING of its own in the content
  pub wrap : Bool
  pub image : List ℕ

-- what a plan says
abbrev pub package_view : PackagePlan → PlannedPackage
package_view p = record {
  identifier = view p.identifier;
  targets = p.targets.items;
  communities = p.communities.items;
  kind = p.kind;
  dependencies = p.dependencies.items;
  certificates = map (λ text. text.items) p.certificates.items;
  signer = p.signer;
  wrap = p.wrap;
  image = p.image.items;
}

-- the octets are a certificate, all of them (RFC 5280, section 4.1)
abbrev pub IsCertificateText : List ℕ → Type 0
IsCertificateText octets = (c : Certificate) × IsCertificate c × (octets ≡ certificate_text c)

-- A plan of which a package is written. The limits are this project's own, and elements have room for what keeps them.
pub record IsPackagePlan (p : PlannedPackage) : Type 0 where
  pub some_targets : 1 ≤ length p.targets
  pub targets : length p.targets ≤ 64
  pub communities : length p.communities ≤ 64
  pub dependencies : length p.dependencies ≤ 8
  pub certificates : AllByRecursion IsCertificateText p.certificates
  pub certificate_count : length p.certificates ≤ 8
  -- all of them together
  pub certificate_octets : length (flat_map (λ text. text) p.certificates) ≤ 2 ^ 26
  pub signer : HasOneTo64 p.signer
  pub some_image : 1 ≤ length p.image
  pub image : length p.image ≤ 16777216

-- a community that is named has a text
abbrev pub IsNamed : NamedCommunity → Type 0
IsNamed (named.Group id) = IsOid id
IsNamed (named.Modules hw_type serial) = IsOid hw_type × IsSerialEntry serial

-- What the plan says has texts that are read back: identifiers and numbers are within their limits, and each name, stale
-- value and serial number has 1 to 64 octets.
pub record HasTexts (p : PlannedPackage) : Type 0 where
  pub identifier : IsIdentifier p.identifier
  pub targets : AllByRecursion IsOid p.targets
  pub communities : AllByRecursion IsNamed p.communities
  pub kind : IfSome p.kind (λ kind. kind < 2 ^ 128)
  pub dependencies : AllByRecursion IsName p.dependencies
