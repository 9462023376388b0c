-- LM-OTS, the one-time signature, over SHA-256 (RFC 8554, section 4). `id` is I, the identifier of
-- the key pair, and q the number of the leaf.
use Rattle.std.specs.Prelude.{ℕ, zero, suc, ◌+◌, ◌-◌, ◌*◌, ◌^◌, List, [], ◌∷◌, ◌++◌, take, drop, slice_index}
use Rattle.std.specs.List.{flat_map}
use Rattle.sha2.specs.Sha256.{sha256}
use Rattle.lms_verify.specs.declared.kind.OtsKind.{OtsKind}
use Rattle.lms_verify.specs.Kinds.{width, chain_count}
use Rattle.lms_verify.specs.Digits.{u8str, u16str, u32str, below, message_digits}

-- what tells the hash of a message from others (7.1: D_MESG)
abbrev pub d_mesg : List ℕ
d_mesg = 0x81 ∷ 0x81 ∷ []

-- what tells the hash of a one-time key from others (7.1: D_PBLC)
abbrev pub d_pblc : List ℕ
d_pblc = 0x80 ∷ 0x80 ∷ []

-- the message value Q, with the randomizer C (4.5, step 5; 4.6)
abbrev pub message_value : List ℕ → ℕ → List ℕ → List ℕ → List ℕ
message_value id q randomizer message = sha256 (id ++ u32str q ++ d_mesg ++ randomizer ++ message)

-- step j of chain i, from a value to the next one (4.3, 4.5 and 4.6: the inner loop)
abbrev pub chain_step : List ℕ → ℕ → ℕ → ℕ → List ℕ → List ℕ
chain_step id q i j value = sha256 (id ++ u32str q ++ u16str i ++ u8str j ++ value)

-- the value after n steps of chain i, of which step a is the first
unfoldable pub chain_after : List ℕ → ℕ → ℕ → ℕ → ℕ → List ℕ → List ℕ
chain_after id q i a zero value = value
chain_after id q i a (suc n) value = chain_step id q i (a + n) (chain_after id q i a n value)

-- chain i from place a to place b: the value after the steps from a to b - 1 (4.3, 4.5, 4.6)
abbrev pub chain : List ℕ → ℕ → ℕ → ℕ → ℕ → List ℕ → List ℕ
chain id q i a b value = chain_after id q i a (b - a) value

-- value i of values of 32 octets that stand one after the other
abbrev pub value_at : List ℕ → ℕ → List ℕ
value_at values i = take 32 (drop (32 * i) values)

-- the end z[i] of chain i: a signature's value y[i], taken from its digit's place to the last one (4.6)
abbrev pub chain_end : OtsKind → List ℕ → ℕ → List ℕ → List ℕ → ℕ → List ℕ
chain_end ots id q value values i =
    chain id q i (slice_index (message_digits ots value) i) (2 ^ width ots - 1) (value_at values i)

-- the one-time public key over the ends of all chains, which stand one after the other (4.3, 4.6)
abbrev pub one_time_key : List ℕ → ℕ → List ℕ → List ℕ
one_time_key id q ends = sha256 (id ++ u32str q ++ d_pblc ++ ends)

-- the key Kc to which a signature's values lead, for the message value Q (4.6, algorithm 4b)
abbrev pub candidate_key : OtsKind → List ℕ → ℕ → List ℕ → List ℕ → List ℕ
candidate_key ots id q value values =
    one_time_key id q (flat_map (chain_end ots id q value values) (below (chain_count ots)))
