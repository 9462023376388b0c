-- The key record, in which a board keeps a signing key; this project's own.
--
--   KeyRecord ::= SEQUENCE { INTEGER 2, key Key }
--
--   Key ::= SEQUENCE {
--     lmsType INTEGER,
--     otsType INTEGER,
--     seed OCTET STRING (SIZE (32)),
--     id OCTET STRING (SIZE (16)) }
--
-- The two types are typecodes of RFC 8554, sections 4.1 and 5.1: those of H5 and H10, and of W1, W2, W4 and W8.
use Rattle.std.specs.Prelude.{◌≡◌, ℕ, List, ◌++◌}
use Rattle.der_core.specs.Element.{enc}
use Rattle.der_core.specs.Number.{number_contents}
use Rattle.lms_sign.specs.declared.key.SignKey.{SignKey}
use Rattle.lms_sign.specs.PublicKeys.{IsSignKey}
use Rattle.lms_verify.specs.Kinds.{lms_number, ots_number}

-- the fields of Key: the two typecodes, SEED and I
abbrev pub key_fields_text : SignKey → List ℕ
key_fields_text key =
    enc 0x02 (number_contents (lms_number key.kind))
    ++ (enc 0x02 (number_contents (ots_number key.ots)) ++ (enc 0x04 key.seed ++ enc 0x04 key.id))

-- Key: the SEQUENCE of these fields
abbrev pub key_text : SignKey → List ℕ
key_text key = enc 0x30 (key_fields_text key)

-- KeyRecord: the SEQUENCE of the number 2 and the key
abbrev pub key_record_text : SignKey → List ℕ
key_record_text key = enc 0x30 (enc 0x02 (number_contents 2) ++ key_text key)

-- the octets begin with the record of a valid key, whatever follows
abbrev pub BeginsWithKeyRecord : List ℕ → SignKey → Type 0
BeginsWithKeyRecord octets key = IsSignKey key × (rest : List ℕ) × (octets ≡ key_record_text key ++ rest)
