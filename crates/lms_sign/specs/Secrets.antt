-- The secrets of a signing key, all of which follow from SEED (RFC 8554, Appendix A), and the one-time
-- public keys over them (section 4.3).
use Rattle.std.specs.Prelude.{ℕ, ◌-◌, ◌^◌, List, ◌++◌}
use Rattle.std.specs.List.{flat_map}
use Rattle.sha2.specs.Sha256.{sha256}
use Rattle.lms_verify.specs.Kinds.{width, chain_count}
use Rattle.lms_verify.specs.Digits.{u8str, u16str, u32str, below}
use Rattle.lms_verify.specs.OneTime.{chain, one_time_key}
use Rattle.lms_sign.specs.declared.key.SignKey.{SignKey}

-- the secret x[i] of leaf q: H(I || u32str(q) || u16str(i) || u8str(0xff) || SEED) (Appendix A)
abbrev pub secret : SignKey → ℕ → ℕ → List ℕ
secret key q i = sha256 (key.id ++ u32str q ++ u16str i ++ u8str 0xff ++ key.seed)

-- The randomizer C of leaf q. The standard leaves it to the signer (section 4.5); here it is as if it
-- were the secret of number FF FD, as other implementations have it.
abbrev pub randomizer : SignKey → ℕ → List ℕ
randomizer key q = secret key q 0xfffd

-- the end of chain i of leaf q: its secret, after the steps 0 to 2^w - 2 (4.3)
abbrev pub whole_chain : SignKey → ℕ → ℕ → List ℕ
whole_chain key q i = chain key.id q i 0 (2 ^ width key.ots - 1) (secret key q i)

-- the one-time public key K of leaf q (4.3)
abbrev pub one_time_public : SignKey → ℕ → List ℕ
one_time_public key q =
    one_time_key key.id q (flat_map (whole_chain key q) (below (chain_count key.ots)))
