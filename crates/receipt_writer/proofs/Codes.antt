-- The number of a code is one octet.
use Rattle.std.proofs.Common.{◌≡◌, ◌∷◌, [], refl}
use Rattle.der_core.specs.LoadError.{error_number}
use Rattle.der_core.specs.Number.{number_contents}
use Rattle.der_core.specs.declared.load_error.LoadErrorCode.{LoadErrorCode}
use Rattle.der_core.specs.declared.load_error.LoadErrorCode.TheVariants as codes

pub code_text : (code : LoadErrorCode) → number_contents (error_number code) ≡ error_number code ∷ []
unfolding number_contents
code_text codes.DecodeFailure = refl
code_text codes.BadContentInfo = refl
code_text codes.BadSignedData = refl
code_text codes.BadEncapContent = refl
code_text codes.BadCertificate = refl
code_text codes.BadSignerInfo = refl
code_text codes.BadSignedAttrs = refl
code_text codes.BadUnsignedAttrs = refl
code_text codes.MissingContent = refl
code_text codes.NoTrustAnchor = refl
code_text codes.NotAuthorized = refl
code_text codes.BadDigestAlgorithm = refl
code_text codes.BadSignatureAlgorithm = refl
code_text codes.UnsupportedKeySize = refl
code_text codes.SignatureFailure = refl
code_text codes.ContentTypeMismatch = refl
code_text codes.NoDecryptKey = refl
code_text codes.BadCompressAlgorithm = refl
code_text codes.WrongHardware = refl
code_text codes.StalePackage = refl
code_text codes.NotInCommunity = refl
code_text codes.UnsupportedPackageType = refl
code_text codes.MissingDependency = refl
code_text codes.WrongDependencyVersion = refl
code_text codes.InsufficientMemory = refl
code_text codes.BadFirmware = refl
code_text codes.BreaksDependency = refl
code_text codes.OtherError = refl
