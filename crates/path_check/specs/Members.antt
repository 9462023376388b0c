-- The members of a path in the code, as certificates.
use Rattle.std.specs.Prelude.{◌≡◌, ◌↔◌, List, Option, None, Some, map}
use Rattle.std.specs.List.{AllByRecursion}
use Rattle.cert_fields.specs.Anchor.{TrustAnchor}
use Rattle.cert_fields.specs.Certificate.{Certificate, signed_text}
use Rattle.cert_fields.specs.Extensions.{HasExtensions}
use Rattle.cert_fields.specs.declared.extensions.Extensions.{Extensions}
use Rattle.cert_fields.specs.View.{certificate_view, signed_view}
use Rattle.cert_fields.specs.declared.certificate.Cert.{Cert}
use Rattle.hss_chain.specs.declared.key.HssKey.{HssKey}
use Rattle.path_check.specs.Conditions.{Reads}
use Rattle.path_check.specs.HssCertificate.{IsAnchorKey}
use Rattle.path_check.specs.declared.member.Member.{Member}

abbrev pub member_view : Member → Certificate
member_view m = certificate_view m.cert

-- these and no others are what the certificate's extensions say
abbrev pub AreExtensionsOf : Certificate → Extensions → Type 0
AreExtensionsOf c kept = (e : Extensions) → (kept ≡ e) ↔ HasExtensions c e

-- the octets that are kept of the signed part are its text, as in a certificate that was read
abbrev pub IsCertOfText : Cert → Type 0
IsCertOfText c = c.tbs.now ≡ signed_text (signed_view c.signed)

-- a member that was read: what is kept of its extensions is what they say
pub record IsRead (m : Member) : Type 0 where
  pub extensions : AreExtensionsOf (member_view m) m.extensions
  pub text : IsCertOfText m.cert

-- these certificates as members, with what their extensions say, where those of each read
abbrev pub TellsMembers : List Certificate → Option (List Member) → Type 0
TellsMembers certificates None = ¬ AllByRecursion Reads certificates
TellsMembers certificates (Some members) = (map member_view members ≡ certificates) × AllByRecursion IsRead members

-- this key and no other is the anchor's
abbrev pub IsOnlyKey : TrustAnchor → HssKey → Type 0
IsOnlyKey anchor kept = (key : HssKey) → (kept ≡ key) ↔ IsAnchorKey anchor key
