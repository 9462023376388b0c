-- The codes of FirmwarePackageLoadErrorCode (RFC 4108, section 4.1.3) that conditions are answered with.
use Rattle.std.specs.Prelude.{ℕ}
use Rattle.der_core.specs.declared.load_error.LoadErrorCode.{LoadErrorCode}
use Rattle.der_core.specs.declared.load_error.LoadErrorCode.TheVariants.{DecodeFailure, BadContentInfo}
use Rattle.der_core.specs.declared.load_error.LoadErrorCode.TheVariants.{BadSignedData, BadEncapContent}
use Rattle.der_core.specs.declared.load_error.LoadErrorCode.TheVariants.{BadCertificate, BadSignerInfo}
use Rattle.der_core.specs.declared.load_error.LoadErrorCode.TheVariants.{BadSignedAttrs, BadUnsignedAttrs}
use Rattle.der_core.specs.declared.load_error.LoadErrorCode.TheVariants.{MissingContent, NoTrustAnchor}
use Rattle.der_core.specs.declared.load_error.LoadErrorCode.TheVariants.{NotAuthorized, BadDigestAlgorithm}
use Rattle.der_core.specs.declared.load_error.LoadErrorCode.TheVariants.{BadSignatureAlgorithm}
use Rattle.der_core.specs.declared.load_error.LoadErrorCode.TheVariants.{UnsupportedKeySize, SignatureFailure}
use Rattle.der_core.specs.declared.load_error.LoadErrorCode.TheVariants.{ContentTypeMismatch, NoDecryptKey}
use Rattle.der_core.specs.declared.load_error.LoadErrorCode.TheVariants.{BadCompressAlgorithm, WrongHardware}
use Rattle.der_core.specs.declared.load_error.LoadErrorCode.TheVariants.{StalePackage, NotInCommunity}
use Rattle.der_core.specs.declared.load_error.LoadErrorCode.TheVariants.{UnsupportedPackageType}
use Rattle.der_core.specs.declared.load_error.LoadErrorCode.TheVariants.{MissingDependency}
use Rattle.der_core.specs.declared.load_error.LoadErrorCode.TheVariants.{WrongDependencyVersion}
use Rattle.der_core.specs.declared.load_error.LoadErrorCode.TheVariants.{InsufficientMemory, BadFirmware}
use Rattle.der_core.specs.declared.load_error.LoadErrorCode.TheVariants.{BreaksDependency, OtherError}

-- the number of a code (section 4.1.3)
abbrev pub error_number : LoadErrorCode → ℕ
error_number DecodeFailure = 1
error_number BadContentInfo = 2
error_number BadSignedData = 3
error_number BadEncapContent = 4
error_number BadCertificate = 5
error_number BadSignerInfo = 6
error_number BadSignedAttrs = 7
error_number BadUnsignedAttrs = 8
error_number MissingContent = 9
error_number NoTrustAnchor = 10
error_number NotAuthorized = 11
error_number BadDigestAlgorithm = 12
error_number BadSignatureAlgorithm = 13
error_number UnsupportedKeySize = 14
error_number SignatureFailure = 15
error_number ContentTypeMismatch = 16
error_number NoDecryptKey = 22
error_number BadCompressAlgorithm = 24
error_number WrongHardware = 27
error_number StalePackage = 28
error_number NotInCommunity = 29
error_number UnsupportedPackageType = 30
error_number MissingDependency = 31
error_number WrongDependencyVersion = 32
error_number InsufficientMemory = 33
error_number BadFirmware = 34
error_number BreaksDependency = 36
error_number OtherError = 99
