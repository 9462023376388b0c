-- What a module answers a firmware package with: the receipt where it is loaded, and the error where it isn't (RFC 4108,
-- sections 3.1.3 and 4.1.3).
--
--   FirmwarePackageLoadReceipt ::= SEQUENCE {
--     version FWReceiptVersion DEFAULT v1,
--     hwType OBJECT IDENTIFIER,
--     hwSerialNum OCTET STRING,
--     fwPkgName PreferredOrLegacyPackageIdentifier,
--     trustAnchorKeyID OCTET STRING OPTIONAL,
--     decryptKeyID [1] OCTET STRING OPTIONAL }
--
--   FirmwarePackageLoadError ::= SEQUENCE {
--     version FWErrorVersion DEFAULT v1,
--     hwType OBJECT IDENTIFIER,
--     hwSerialNum OCTET STRING,
--     errorCode FirmwarePackageLoadErrorCode,
--     vendorErrorCode VendorLoadErrorCode OPTIONAL,
--     fwPkgName PreferredOrLegacyPackageIdentifier OPTIONAL,
--     config [1] SEQUENCE OF CurrentFWConfig OPTIONAL }
--
--   CurrentFWConfig ::= SEQUENCE {
--     fwPkgType INTEGER OPTIONAL,
--     fwPkgName PreferredOrLegacyPackageIdentifier }
--
-- The version is v1, which isn't written, [1] is implicit, and VendorLoadErrorCode is INTEGER. This project's own are that
-- a receipt names the anchor's key and no other; that vendorErrorCode is the number of the condition that failed; and which
-- conditions are answered with a name, and with what is installed.
use Rattle.std.specs.Prelude.{◌≤◌, ℕ, Bool, List, [], ◌++◌, Option, ◌&&◌, ◌↔◌, IsSome, nat_le, if◌then◌else◌}
use Rattle.std.specs.List.{flat_map}
use Rattle.der_core.specs.Condition.{error_of}
use Rattle.der_core.specs.Element.{enc}
use Rattle.der_core.specs.LoadError.{error_number}
use Rattle.der_core.specs.Number.{number_contents}
use Rattle.der_core.specs.Shapes.{text_if}
use Rattle.package_attrs.specs.declared.name.PackageName.{PackageName}
use Rattle.package_attrs.specs.Identifier.{name_text}
use Rattle.package_attrs.specs.Information.{kind_text}
use Rattle.config_table.specs.State.{Entry, State}
use Rattle.module_record.specs.ModuleRecord.{number_text, oid_text}
use Rattle.module_record.specs.declared.module.Module.{Module}

-- hwType and hwSerialNum: whose answer it is
abbrev pub hardware_text : Module → List ℕ
hardware_text m = oid_text m.hw_type ++ enc 0x04 m.serial

-- ---- the receipt

abbrev pub receipt_contents : Module → PackageName → List ℕ → List ℕ
receipt_contents m name anchor_key = hardware_text m ++ (name_text name ++ enc 0x04 anchor_key)

-- the receipt for the package of this name, whose path ended at the anchor with this key identifier
abbrev pub receipt_text : Module → PackageName → List ℕ → List ℕ
receipt_text m name anchor_key = enc 0x30 (receipt_contents m name anchor_key)

-- ---- the error

-- CurrentFWConfig: an installed package, with its type where that is kept
abbrev pub current_text : {I : Type 0} → Entry I → List ℕ
current_text entry = enc 0x30 (text_if kind_text entry.kind ++ name_text entry.name)

-- config: all packages that are installed, in the order of their first installation
abbrev pub config_text : {I : Type 0} → State I → List ℕ
config_text state = enc 0xA1 (flat_map current_text state.packages)

-- the conditions on dependencies and on needs, 34 to 36, are answered with it
abbrev pub tells_config : ℕ → Bool
tells_config number = nat_le 34 number && nat_le number 36

-- a package's name is told from condition 20 on
abbrev pub IsNamed : ℕ → Option PackageName → Type 0
IsNamed number name = IsSome name ↔ (20 ≤ number)

abbrev pub error_contents : {I : Type 0} → Module → State I → ℕ → Option PackageName → List ℕ
error_contents m state number name =
    hardware_text m
    ++ (enc 0x0A (number_contents (error_number (error_of number)))
    ++ (number_text number
    ++ (text_if name_text name ++ (if tells_config number then config_text state else []))))

-- the error for a package that fails the condition of this number first, where the module has this state
abbrev pub error_text : {I : Type 0} → Module → State I → ℕ → Option PackageName → List ℕ
error_text m state number name = enc 0x30 (error_contents m state number name)
