-- The types of the signed attributes that a package is read from, as the contents of their OBJECT IDENTIFIERs.
use Rattle.std.specs.Prelude.{ℕ, List, [], ◌∷◌, ◌++◌}

-- 1.2.840.113549.1.9, pkcs-9 (RFC 5652, section 11)
abbrev pub pkcs_9 : List ℕ
pkcs_9 = 0x2A ∷ 0x86 ∷ 0x48 ∷ 0x86 ∷ 0xF7 ∷ 0x0D ∷ 0x01 ∷ 0x09 ∷ []

-- 1.2.840.113549.1.9.3, id-contentType (RFC 5652, section 11.1)
abbrev pub content_type : List ℕ
content_type = pkcs_9 ++ 3 ∷ []

-- 1.2.840.113549.1.9.4, id-messageDigest (RFC 5652, section 11.2)
abbrev pub message_digest : List ℕ
message_digest = pkcs_9 ++ 4 ∷ []

-- 1.2.840.113549.1.9.5, id-signingTime (RFC 5652, section 11.3)
abbrev pub signing_time : List ℕ
signing_time = pkcs_9 ++ 5 ∷ []

-- 1.2.840.113549.1.9.16.2.35, id-aa-firmwarePackageID (RFC 4108, section 2.2.3)
abbrev pub firmware_package_id : List ℕ
firmware_package_id = pkcs_9 ++ 16 ∷ 2 ∷ 35 ∷ []

-- 1.2.840.113549.1.9.16.2.36, id-aa-targetHardwareIDs (RFC 4108, section 2.2.4)
abbrev pub target_hardware_ids : List ℕ
target_hardware_ids = pkcs_9 ++ 16 ∷ 2 ∷ 36 ∷ []

-- 1.2.840.113549.1.9.16.2.40, id-aa-communityIdentifiers (RFC 4108, section 2.2.8)
abbrev pub community_identifiers : List ℕ
community_identifiers = pkcs_9 ++ 16 ∷ 2 ∷ 40 ∷ []

-- 1.2.840.113549.1.9.16.2.42, id-aa-firmwarePackageInfo (RFC 4108, section 2.2.9)
abbrev pub firmware_package_info : List ℕ
firmware_package_info = pkcs_9 ++ 16 ∷ 2 ∷ 42 ∷ []
