-- The signature that a signing key makes with a leaf (RFC 8554, sections 4.5, 5.4.1 and 6.2).
use Rattle.std.specs.Prelude.{ℕ, List, ◌++◌, slice_index}
use Rattle.std.specs.List.{flat_map}
use Rattle.lms_verify.specs.Kinds.{chain_count}
use Rattle.lms_verify.specs.Digits.{u32str, below, message_digits}
use Rattle.lms_verify.specs.OneTime.{chain, message_value}
use Rattle.lms_verify.specs.Signatures.{LmsSignature, signature_text}
use Rattle.lms_sign.specs.declared.key.SignKey.{SignKey}
use Rattle.lms_sign.specs.Secrets.{secret, randomizer}
use Rattle.lms_sign.specs.Nodes.{path}

-- the value y[i] of a signature of the message value: the secret x[i], as many steps on as the
-- digit a[i] says (4.5)
abbrev pub signature_value : SignKey → ℕ → List ℕ → ℕ → List ℕ
signature_value key q value i =
    chain key.id q i 0 (slice_index (message_digits key.ots value) i) (secret key q i)

-- the values y[0] to y[p - 1], one after the other (4.5)
abbrev pub signature_values : SignKey → ℕ → List ℕ → List ℕ
signature_values key q value =
    flat_map (signature_value key q value) (below (chain_count key.ots))

-- the signature of the message with leaf q (4.5, 5.4.1)
abbrev pub signature_of : SignKey → ℕ → List ℕ → LmsSignature
signature_of key q message = record {
  q = q;
  randomizer = randomizer key q;
  values = signature_values key q (message_value key.id q (randomizer key q) message);
  path = path key q;
}

-- its octets under HSS with one level: u32str(0) || sig[0] (6.2)
abbrev pub sign_text : SignKey → ℕ → List ℕ → List ℕ
sign_text key q message =
    u32str 0 ++ signature_text key.kind key.ots (signature_of key q message)
