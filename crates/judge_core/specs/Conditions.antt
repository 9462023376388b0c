-- The 41 conditions under which a module accepts an item, by their numbers in der_core's `Condition`, which has the code
-- of each (RFC 4108, section 4.1.3). They stand in four lists: of the item's octets; of the values that those spell; of
-- the path of certificates that leads up from its signer; and of what is installed.
use Rattle.std.specs.Prelude.{◌≡◌, ℕ, ◌-◌, ◌<◌, ◌≤◌, ◌^◌, List, [], ◌∷◌, ◌++◌, length, Some, slice_get}
use Rattle.std.specs.List.{sum_by}
use Rattle.sha2.specs.Sha256.{sha256}
use Rattle.der_core.specs.Asked.{Asked, asked}
use Rattle.der_core.specs.Element.{enc, IsElement}
use Rattle.cert_fields.specs.Anchor.{TrustAnchor}
use Rattle.cert_fields.specs.Certificate.{Certificate}
use Rattle.cms_signed.specs.Cut.{firmware_package}
use Rattle.cms_signed.specs.Message.{Message}
use Rattle.cms_signed.specs.SignedAnswer.{certificates_of}
use Rattle.cms_signed.specs.Signer.{to_be_signed}
use Rattle.cms_signed.specs.Tail.{signed_conditions}
use Rattle.config_table.specs.State.{Entry, State, offer_of, with_package}
use Rattle.package_attrs.specs.Image.{blocks_for}
use Rattle.hss_chain.specs.Chains.{HssHolds}
use Rattle.hss_chain.specs.declared.key.HssKey.{HssKey}
use Rattle.module_record.specs.declared.module.Module.{Module}
use Rattle.package_attrs.specs.Description.{Description}
use Rattle.package_rules.specs.Conditions.{module_conditions, overflow_conditions}
use Rattle.package_rules.specs.Module.{Module as Hardware}
use Rattle.path_check.specs.Checked.{PathPermits}
use Rattle.path_check.specs.Conditions.{members_at, path_conditions, IsKeyAbove}
use Rattle.path_check.specs.Paths.{PathPlaces, PathOf}
use Rattle.judge_core.specs.Values.{Values, Spells}

-- ---- 1 to 19: the item's octets

-- the item is one SEQUENCE with these contents (X.690, section 8.9)
abbrev pub IsSequenceOf : List ℕ → List ℕ → Type 0
IsSequenceOf item contents = IsElement 0x30 contents × (item ≡ enc 0x30 contents)

-- the most octets that an item's contents may have; this project's own
abbrev pub most_contents : ℕ
most_contents = 17825792

-- it is an element, and not too long
abbrev pub size_conditions : List ℕ → List Asked
size_conditions item =
    asked 1 ((contents : List ℕ) × IsSequenceOf item contents)
    ∷ asked 2 ((contents : List ℕ) × IsSequenceOf item contents × (length contents ≤ most_contents))
    ∷ []

-- then it is signed data of one signer around a firmware package (3 to 18; RFC 5652, sections 3 and 5), and its signed
-- attributes describe the package (19; RFC 4108, section 2.2)
abbrev pub octet_conditions : List ℕ → List Asked
octet_conditions item =
    size_conditions item
    ++ (signed_conditions firmware_package item ++ asked 19 ((v : Values) × Spells item v) ∷ [])

-- ---- 20 to 22: the values

-- the certificates of the message
abbrev pub certificates_in : Message → List Certificate
certificates_in message = certificates_of message.certificates

-- these places lead from the message's signer up to an anchor of the module
abbrev pub IsPath : Module → Message → PathPlaces → Type 0
IsPath m message path = PathOf message.signer.sid (certificates_in message) m.anchors path

-- the contentType and messageDigest attributes are those of the content (RFC 5652, sections 11.1 and 11.2), and a path
-- leads from the signer to an anchor (RFC 5280, section 6.1)
abbrev pub value_conditions : Module → Values → List Asked
value_conditions m v =
    asked 20 (v.described.content ≡ firmware_package)
    ∷ asked 21 (v.described.digest ≡ sha256 v.message.content)
    ∷ asked 22 ((path : PathPlaces) × IsPath m v.message path)
    ∷ []

-- ---- 23 to 29: the path

-- The signer's path has these members, the signer's certificate first, under this anchor.
pub record LeadsUp (m : Module) (message : Message) (anchor : TrustAnchor) (members : List Certificate) : Type 0 where
  pub path : PathPlaces
  pub is_path : IsPath m message path
  pub anchor_is : slice_get m.anchors path.anchor ≡ Some anchor
  pub members_are : members ≡ members_at (certificates_in message) path.members

-- The signature is one over the signed attributes (RFC 5652, section 5.4) under the key of the signer's certificate, or
-- of the anchor where the path has no certificate (RFC 8554, section 6.3).
abbrev pub IsSignedUnder : TrustAnchor → List Certificate → Message → Type 0
IsSignedUnder anchor members message =
    (key : HssKey) × IsKeyAbove anchor members key
    × HssHolds key (to_be_signed message.signer.signed_attributes) message.signer.signature

-- the certificates of the path (23 to 27; RFC 5280, section 6.1), what it permits (RFC 6010, section 4), and the
-- package's own signature (RFC 5652, section 5.6)
abbrev pub signature_conditions : ℕ → TrustAnchor → List Certificate → Message → List Asked
signature_conditions at anchor members message =
    path_conditions at anchor members
    ++ asked 28 (PathPermits firmware_package message.signer.signed_attributes anchor members)
    ∷ asked 29 (IsSignedUnder anchor members message)
    ∷ []

-- ---- 30 to 41: what is installed

-- the module as packages see it
abbrev pub hardware_of : Module → Hardware
hardware_of m =
    record { hw_type = m.hw_type; serial = m.serial; communities = m.communities; kinds = m.kinds }

-- the same with the package, which has this image
abbrev pub installed_with : Description → List ℕ → State ℕ → State ℕ
installed_with described image state = with_package (offer_of described) (sha256 image) (length image) state

-- how many blocks of 4,096 octets all images take, each from the start of a block
abbrev pub blocks_taken : State ℕ → ℕ
blocks_taken state = sum_by (λ (entry : Entry ℕ). blocks_for entry.image) state.packages

-- with the package the images have room, and so have the tables (39 and 40), and the sequence number can be counted up;
-- all of these are this project's own
abbrev pub room_conditions : Module → ℕ → State ℕ → List ℕ → List Asked
room_conditions m sequence after image =
    asked 37 (1 ≤ length image)
    ∷ asked 38 (blocks_taken after ≤ m.capacity)
    ∷ (overflow_conditions after ++ asked 41 (sequence < 2 ^ 64 - 1) ∷ [])

-- the package is for this module, and goes with what it has installed (30 to 36; RFC 4108, section 2.2), and there is
-- room for it
abbrev pub rule_conditions : Module → ℕ → State ℕ → Description → List ℕ → List Asked
rule_conditions m sequence state described image =
    let after = installed_with described image state in
    module_conditions (hardware_of m) described state after ++ room_conditions m sequence after image
