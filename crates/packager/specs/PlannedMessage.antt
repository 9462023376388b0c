-- The signed package that a plan stands for (RFC 5652, section 5; RFC 4108, section 2).
use Rattle.std.specs.Prelude.{ℕ, List, [], ◌∷◌, ◌++◌, map, Option, Some, None, if◌then◌else◌}
use Rattle.sha2.specs.Sha256.{sha256}
use Rattle.der_core.specs.Attribute.{Attribute}
use Rattle.der_core.specs.Element.{enc}
use Rattle.cert_fields.specs.KeptCertificate.{certificate_in}
use Rattle.cms_signed.specs.Certificates.{CertificateChoice, Plain}
use Rattle.cms_signed.specs.Cut.{firmware_package}
use Rattle.cms_signed.specs.Message.{Message}
use Rattle.cms_signed.specs.Signer.{to_be_signed}
use Rattle.lms_sign.specs.declared.key.SignKey.{SignKey}
use Rattle.lms_sign.specs.SignTexts.{sign_text}
use Rattle.package_attrs.specs.declared.community.Community.{Community}
use Rattle.package_attrs.specs.declared.name.PackageName.{PackageName}
use Rattle.package_attrs.specs.declared.package.Info.{Info}
use Rattle.package_attrs.specs.AttributeTypes.{content_type, message_digest, firmware_package_id, target_hardware_ids}
use Rattle.package_attrs.specs.AttributeTypes.{community_identifiers, firmware_package_info}
use Rattle.package_attrs.specs.Communities.{communities_text}
use Rattle.package_attrs.specs.Description.{Description}
use Rattle.package_attrs.specs.Identifier.{identifier_text}
use Rattle.package_attrs.specs.Information.{info_text}
use Rattle.package_attrs.specs.Targets.{targets_text}
use Rattle.attribute_write.specs.Communities.{community_of}
use Rattle.signed_write.specs.Orders.{in_order}
use Rattle.signed_write.specs.Written.{Written, written_message}
use Rattle.packager.specs.PackagePlan.{PlannedPackage}

-- ---- the content

-- the value octets of eContent: the image, or an OCTET STRING of it (RFC 4108, section 2.1.5)
abbrev pub planned_content : PlannedPackage → List ℕ
planned_content p = if p.wrap then enc 0x04 p.image else p.image

-- ---- the signed attributes

-- communities that are named; none is no attribute
abbrev pub named_communities : List Community → Option (List Community)
named_communities [] = None
named_communities (c ∷ cs) = Some (c ∷ cs)

-- a type and dependencies; neither is no attribute
abbrev pub named_info : Option ℕ → List PackageName → Option Info
named_info None [] = None
named_info None (name ∷ names) = Some (record { kind = None; dependencies = name ∷ names })
named_info (Some kind) names = Some (record { kind = Some kind; dependencies = names })

-- what the signed attributes say
abbrev pub planned_description : PlannedPackage → Description
planned_description p = record {
  content = firmware_package;
  digest = sha256 (planned_content p);
  identifier = p.identifier;
  targets = p.targets;
  communities = named_communities (map community_of p.communities);
  info = record { kind = p.kind; dependencies = p.dependencies };
}

-- an attribute with one value, an element
abbrev pub one_value : List ℕ → List ℕ → Attribute
one_value kind value = record { kind = kind; values = value }

-- the same, where there is a value for it
abbrev pub value_if : {V : Type 0} → List ℕ → (V → List ℕ) → Option V → List Attribute
value_if kind text None = []
value_if kind text (Some v) = one_value kind (text v) ∷ []

-- the attributes of a package that this describes, in no order (RFC 4108, section 2.2; RFC 5652, section 11)
abbrev pub described_attributes : Description → List Attribute
described_attributes d =
    one_value content_type (enc 0x06 d.content)
    ∷ one_value message_digest (enc 0x04 d.digest)
    ∷ one_value firmware_package_id (identifier_text d.identifier)
    ∷ one_value target_hardware_ids (targets_text d.targets)
    ∷ (value_if community_identifiers communities_text d.communities
    ++ value_if firmware_package_info info_text (named_info d.info.kind d.info.dependencies))

-- the signed attributes, as they are written
abbrev pub planned_attributes : PlannedPackage → List Attribute
planned_attributes p = in_order (described_attributes (planned_description p))

-- ---- the message

-- the certificates, in the plan's order
abbrev pub planned_certificates : PlannedPackage → List CertificateChoice
planned_certificates p = map (λ text. Plain (certificate_in text)) p.certificates

-- what the signed package says
abbrev pub written_of : PlannedPackage → Written
written_of p = record {
  content_type = firmware_package;
  content = planned_content p;
  certificates = planned_certificates p;
  signer = p.signer;
  attributes = described_attributes (planned_description p);
}

-- the signed package, with this signature (RFC 5652, section 5.1)
abbrev pub planned_message : PlannedPackage → List ℕ → Message
planned_message p signature = written_message (written_of p) signature

-- the signed package, signed by this key with this leaf
abbrev pub package_by : PlannedPackage → SignKey → ℕ → Message
package_by p key leaf = planned_message p (sign_text key leaf (to_be_signed (planned_attributes p)))
