-- The certificate that a plan stands for (RFC 5280, sections 4.1 and 4.2; RFC 4108, section 5, for the hardware module).
use Rattle.std.specs.Prelude.{ℕ, ◌≤◌, ◌^◌, Bool, true, false, List, [], ◌∷◌, ◌++◌, length, Option, Some, None, IfSome}
use Rattle.std.specs.Prelude.{option_map}
use Rattle.der_core.specs.Element.{enc}
use Rattle.der_core.specs.Time.{written_form}
use Rattle.der_core.specs.declared.time_value.Time.{Time}
use Rattle.hss_chain.specs.Keys.{hss_key_text}
use Rattle.hss_chain.specs.declared.key.HssKey.{HssKey}
use Rattle.cert_fields.specs.Algorithms.{signature_algorithm}
use Rattle.cert_fields.specs.Certificate.{Certificate, SignedPart, BitString, bits_text, signed_text}
use Rattle.cert_fields.specs.Extensions.{Extension, extensions_text, key_identifier_text, authority_key_text, ca_rule_text}
use Rattle.cert_fields.specs.ExtensionTypes.{subject_key_identifier, authority_key_identifier, basic_constraints}
use Rattle.cert_fields.specs.ExtensionTypes.{key_usage, content_constraints, subject_alt_name}
use Rattle.lms_sign.specs.declared.key.SignKey.{SignKey}
use Rattle.lms_sign.specs.SignTexts.{sign_text}
use Rattle.packager.specs.declared.certificate_plan.Authority.{Authority}
use Rattle.packager.specs.declared.certificate_plan.CertPlan.{CertPlan}
use Rattle.packager.specs.declared.certificate_plan.KeyUses.{KeyUses}
use Rattle.packager.specs.declared.certificate_plan.KeyUses.TheVariants.{Sign, CertSign, Both}

-- ---- values

-- What a certificate is to say.
pub record CertificatePlan : Type 0 where
  -- the contents of the INTEGER
  pub serial : List ℕ
  -- names, whole elements
  pub issuer : List ℕ
  pub subject : List ℕ
  -- the ends of the validity
  pub from : ℕ
  pub to : ℕ
  pub key : HssKey
  pub subject_key : Option (List ℕ)
  pub authority_key : Option (List ℕ)
  pub authority : Option Authority
  pub uses : Option KeyUses
  -- the text of content constraints
  pub constraints : Option (List ℕ)
  -- a hardware type, by the contents of its identifier, and a serial number
  pub hardware : Option (List ℕ × List ℕ)

-- what a plan says
abbrev pub plan_view : CertPlan → CertificatePlan
plan_view p = record {
  serial = p.serial.items;
  issuer = p.issuer.items;
  subject = p.subject.items;
  from = p.from;
  to = p.to;
  key = p.key;
  subject_key = p.subject_key;
  authority_key = p.authority_key;
  authority = p.authority;
  uses = p.uses;
  constraints = option_map (λ text. text.items) p.constraints;
  hardware = p.hardware;
}

-- elements have room for what the plan says
pub record IsShort (p : CertificatePlan) : Type 0 where
  pub serial : length p.serial ≤ 2 ^ 16
  pub issuer : length p.issuer ≤ 2 ^ 16
  pub subject : length p.subject ≤ 2 ^ 16
  pub constraints : IfSome p.constraints (λ text. length text ≤ 2 ^ 31)

-- ---- extensions

-- an extension, where there is a value for it
abbrev pub one_if : {V : Type 0} → List ℕ → Bool → (V → List ℕ) → Option V → List Extension
one_if kind critical text None = []
one_if kind critical text (Some v) = record { kind = kind; critical = critical; value = text v } ∷ []

-- AuthorityKeyIdentifier with its keyIdentifier alone (RFC 5280, section 4.2.1.1)
abbrev pub authority_text : List ℕ → List ℕ
authority_text id = authority_key_text (record { key = Some id; issuer = None; serial = None })

-- BasicConstraints of an authority (4.2.1.9)
abbrev pub basic_text : Authority → List ℕ
basic_text a = ca_rule_text (record { ca = true; path_len = a.path_len })

-- KeyUsage with digitalSignature (0), keyCertSign (5), or both, without zero bits at the end (4.2.1.3; X.690, section
-- 11.2.2)
abbrev pub usage_bits : KeyUses → BitString
usage_bits Sign = (7, 0x80 ∷ [])
usage_bits CertSign = (2, 0x04 ∷ [])
usage_bits Both = (2, 0x84 ∷ [])

abbrev pub uses_text : KeyUses → List ℕ
uses_text uses = bits_text (usage_bits uses)

-- 1.3.6.1.5.5.7.8.4, id-on-hardwareModuleName (RFC 4108, section 5)
abbrev pub hardware_module_name : List ℕ
hardware_module_name = 0x2B ∷ 0x06 ∷ 0x01 ∷ 0x05 ∷ 0x05 ∷ 0x07 ∷ 0x08 ∷ 0x04 ∷ []

-- SubjectAltName with one otherName, [0] { type-id, [0] EXPLICIT value } (RFC 5280, section 4.2.1.6), a
-- HardwareModuleName ::= SEQUENCE { hwType OBJECT IDENTIFIER, hwSerialNum OCTET STRING } (RFC 4108, section 5)
abbrev pub hardware_text : List ℕ × List ℕ → List ℕ
hardware_text h =
    enc 0x30 (enc 0xA0 (enc 0x06 hardware_module_name ++ enc 0xA0 (enc 0x30 (enc 0x06 h.0 ++ enc 0x04 h.1))))

-- the extensions, in the order in which they are written
abbrev pub planned_extensions : CertificatePlan → List Extension
planned_extensions p =
    one_if subject_key_identifier false key_identifier_text p.subject_key
    ++ (one_if authority_key_identifier false authority_text p.authority_key
    ++ (one_if basic_constraints true basic_text p.authority
    ++ (one_if key_usage true uses_text p.uses
    ++ (one_if content_constraints false (λ text. text) p.constraints
    ++ one_if subject_alt_name false hardware_text p.hardware))))

-- no extension at all isn't written
abbrev pub written_extensions : List Extension → Option (List ℕ)
written_extensions [] = None
written_extensions (e ∷ es) = Some (extensions_text (e ∷ es))

-- ---- the certificate

-- a moment, in the form in which it is written
abbrev pub time_of : ℕ → Time
time_of moment = record { form = written_form moment; moment = moment }

-- the signed part: v3, with HSS/LMS for both algorithms and the key as it is
abbrev pub planned_part : CertificatePlan → SignedPart
planned_part p = record {
  version = 2;
  serial = p.serial;
  algorithm = signature_algorithm;
  issuer = p.issuer;
  subject = p.subject;
  from = time_of p.from;
  to = time_of p.to;
  key_algorithm = signature_algorithm;
  key = (0, hss_key_text p.key);
  issuer_unique = None;
  subject_unique = None;
  extensions = written_extensions (planned_extensions p);
}

-- the certificate, with this signature
abbrev pub planned_certificate : CertificatePlan → List ℕ → Certificate
planned_certificate p signature =
    record { signed = planned_part p; algorithm = signature_algorithm; signature = (0, signature) }

-- the certificate, signed by this key with this leaf
abbrev pub certificate_by : CertificatePlan → SignKey → ℕ → Certificate
certificate_by p key leaf = planned_certificate p (sign_text key leaf (signed_text (planned_part p)))
