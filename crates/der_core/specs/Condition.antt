-- The conditions under which a firmware package is accepted, and the code that a failing one is answered with
-- (RFC 4108, section 4.1.3).
use Rattle.std.specs.Prelude.{ℕ, ◌-◌, ◌≤◌, List, [], ◌∷◌, slice_index_or}
use Rattle.der_core.specs.declared.load_error.LoadErrorCode.{LoadErrorCode}
use Rattle.der_core.specs.declared.load_error.LoadErrorCode.TheVariants.{DecodeFailure, BadContentInfo}
use Rattle.der_core.specs.declared.load_error.LoadErrorCode.TheVariants.{BadSignedData, BadEncapContent}
use Rattle.der_core.specs.declared.load_error.LoadErrorCode.TheVariants.{BadCertificate, BadSignerInfo}
use Rattle.der_core.specs.declared.load_error.LoadErrorCode.TheVariants.{BadSignedAttrs, BadUnsignedAttrs}
use Rattle.der_core.specs.declared.load_error.LoadErrorCode.TheVariants.{MissingContent, NoTrustAnchor}
use Rattle.der_core.specs.declared.load_error.LoadErrorCode.TheVariants.{NotAuthorized, BadDigestAlgorithm}
use Rattle.der_core.specs.declared.load_error.LoadErrorCode.TheVariants.{BadSignatureAlgorithm}
use Rattle.der_core.specs.declared.load_error.LoadErrorCode.TheVariants.{UnsupportedKeySize, SignatureFailure}
use Rattle.der_core.specs.declared.load_error.LoadErrorCode.TheVariants.{ContentTypeMismatch, NoDecryptKey}
use Rattle.der_core.specs.declared.load_error.LoadErrorCode.TheVariants.{BadCompressAlgorithm, WrongHardware}
use Rattle.der_core.specs.declared.load_error.LoadErrorCode.TheVariants.{StalePackage, NotInCommunity}
use Rattle.der_core.specs.declared.load_error.LoadErrorCode.TheVariants.{UnsupportedPackageType}
use Rattle.der_core.specs.declared.load_error.LoadErrorCode.TheVariants.{MissingDependency}
use Rattle.der_core.specs.declared.load_error.LoadErrorCode.TheVariants.{WrongDependencyVersion}
use Rattle.der_core.specs.declared.load_error.LoadErrorCode.TheVariants.{InsufficientMemory, BadFirmware}
use Rattle.der_core.specs.declared.load_error.LoadErrorCode.TheVariants.{BreaksDependency, OtherError}

-- there are 41 conditions, numbered from 1 in the order in which they are asked
pub record IsCondition (number : ℕ) : Type 0 where
  pub least : 1 ≤ number
  pub most : number ≤ 41

-- the code of each condition, in their order
abbrev pub errors : List LoadErrorCode
errors =
    -- 1: the item is one element of tag 30 (all tags in base 16)
    DecodeFailure
    -- 2: its contents have at most 17,825,792 octets
    ∷ InsufficientMemory
    -- 3: it has the shape of a ContentInfo
    ∷ BadContentInfo
    -- 4: its type is signedData
    ∷ BadContentInfo
    -- 5: its content has the shape of SignedData, with version 1, 3, 4 or 5
    ∷ BadSignedData
    -- 6: encapContentInfo has its shape
    ∷ BadEncapContent
    -- 7: eContentType isn't encryptedData
    ∷ NoDecryptKey
    -- 8: eContentType isn't compressedData
    ∷ BadCompressAlgorithm
    -- 9: eContentType is firmwarePackage
    ∷ BadEncapContent
    -- 10: eContent is there
    ∷ MissingContent
    -- 11: at most 1,048,576 octets of SignedData's contents follow encapContentInfo
    ∷ BadSignedData
    -- 12: certificates, where there, are elements, and each of tag 30 is a certificate
    ∷ BadCertificate
    -- 13: signerInfos holds one element, of tag 30, and no other
    ∷ BadSignedData
    -- 14: it has the shape of a SignerInfo, with version 1 or 3
    ∷ BadSignerInfo
    -- 15: unsigned attributes, where there, are Attributes
    ∷ BadUnsignedAttrs
    -- 16: signed attributes are there, are Attributes in ascending order, and no type stands twice
    ∷ BadSignedAttrs
    -- 17: the digest algorithm is SHA-256
    ∷ BadDigestAlgorithm
    -- 18: the signature algorithm is HSS/LMS
    ∷ BadSignatureAlgorithm
    -- 19: the signed attributes that a package needs are there, and those that are read have one value, of their form
    ∷ BadSignedAttrs
    -- 20: the contentType attribute is firmwarePackage
    ∷ ContentTypeMismatch
    -- 21: the messageDigest attribute is the digest of eContent
    ∷ SignatureFailure
    -- 22: a path from an anchor to the signer exists
    ∷ NoTrustAnchor
    -- 23: the extensions of every certificate on it read
    ∷ BadCertificate
    -- 24: the time lies in the validity of every certificate on it
    ∷ BadCertificate
    -- 25: the rules of paths hold
    ∷ BadCertificate
    -- 26: the key of every certificate on it is an HSS key that reads
    ∷ UnsupportedKeySize
    -- 27: every certificate on it is signed, by HSS/LMS, under the key above it
    ∷ BadCertificate
    -- 28: the path and its anchor permit firmwarePackage with these signed attributes
    ∷ NotAuthorized
    -- 29: the signer's signature holds
    ∷ SignatureFailure
    -- 30: the module's hardware type is among the target hardware identifiers
    ∷ WrongHardware
    -- 31: there is no community attribute, or one of its entries holds
    ∷ NotInCommunity
    -- 32: there is no package type, or the module lists it
    ∷ UnsupportedPackageType
    -- 33: the name isn't stale
    ∷ StalePackage
    -- 34: every dependency is installed in some version
    ∷ MissingDependency
    -- 35: every dependency is installed in its version or a greater one
    ∷ WrongDependencyVersion
    -- 36: no need of an installed package that stays is met before and not afterwards
    ∷ BreaksDependency
    -- 37: the image isn't empty
    ∷ BadFirmware
    -- 38: the images have room afterwards
    ∷ InsufficientMemory
    -- 39: at most 64 packages are installed afterwards
    ∷ OtherError
    -- 40: there are at most 256 stale entries afterwards
    ∷ OtherError
    -- 41: the sequence number is below 2^64 - 1
    ∷ OtherError
    ∷ []

-- the code that a failing condition is answered with
abbrev pub error_of : ℕ → LoadErrorCode
error_of number = slice_index_or errors (number - 1) OtherError
