-- What a signing key signs holds under its public key.
use Rattle.std.proofs.Common.{◌≡◌, ℕ, zero, suc, ◌+◌, ◌-◌, ◌*◌, ◌^◌, ◌<◌, ◌≤◌, List, [], ◌++◌, map, length, length-append, refl, ap, sym, ◌∙◌, arith}
use Rattle.std.specs.Prelude.{slice_index}
use Rattle.std.proofs.lemmas.Nat.{mod_below, pow_pos}
use Rattle.std.proofs.lemmas.List.FromFn.{length-map-range_with_len, get_or-map-range_with_len}
use Rattle.sha2.proofs.Facts256.{length-sha256}
use Rattle.hss_chain.specs.Chains.{HssHolds}
use Rattle.lms_verify.specs.declared.kind.LmsKind.{LmsKind}
use Rattle.lms_verify.specs.declared.kind.OtsKind.{OtsKind}
use Rattle.lms_verify.specs.Kinds.{chain_count, height, lms_number, width}
use Rattle.lms_verify.specs.Digits.{below, checked_value, digit, message_digits, u32str}
use Rattle.lms_verify.specs.OneTime.{candidate_key, chain, chain_after, chain_end, message_value, one_time_key}
use Rattle.lms_verify.specs.Signatures.{LmsSignature, signature_size, signature_text}
use Rattle.lms_verify.specs.Tree.{Leads, leaf_value, node}
use Rattle.lms_sign.specs.declared.key.SignKey.{SignKey}
use Rattle.lms_sign.specs.PublicKeys.{hss_signature_size, leaf_count}
use Rattle.lms_sign.specs.Secrets.{one_time_public, randomizer, secret, whole_chain}
use Rattle.lms_sign.specs.Nodes.{above, beside, path, path_value, tree_node}
use Rattle.lms_sign.specs.Roots.{public_key}
use Rattle.lms_sign.specs.SignTexts.{sign_text, signature_of, signature_value, signature_values}
use Rattle.lms_sign.proofs.ChainLemmas.{chain_on, flat_map_below_same, length-flat_map_below, value_at_below}
use Rattle.lms_sign.proofs.TreeLemmas.{is_tree, length-tree_node}
use Rattle.lms_sign.proofs.PathLemmas.{above_at_leaf, above_at_root, node_on_the_way}

-- a value after any count of steps has 32 octets where the first has
length-chain_after : (id : List ℕ) (q i a n : ℕ) (value : List ℕ) → length value ≡ 32
    → length (chain_after id q i a n value) ≡ 32
unfolding chain_after
length-chain_after id q i a zero value size = size
length-chain_after id q i a (suc n) value size = length-sha256 _

length-signature_value : (key : SignKey) (q : ℕ) (value : List ℕ) (i : ℕ)
    → length (signature_value key q value i) ≡ 32
length-signature_value key q value i =
    length-chain_after key.id q i 0 (slice_index (message_digits key.ots value) i - 0) (secret key q i)
    (length-sha256 _)

-- a digit is no more than the last place of a chain
digit_within : (key : SignKey) (value : List ℕ) (i : ℕ) → i < chain_count key.ots
    → slice_index (message_digits key.ots value) i ≤ 2 ^ width key.ots - 1
digit_within key value i lt =
    let w = width key.ots in
    let octets = checked_value key.ots value in
    let here : slice_index (message_digits key.ots value) i ≡ digit w octets i =
    get_or-map-range_with_len (λ k. digit w octets k) 0 (chain_count key.ots) i i 0 lt (omega arith) in
    let small : digit w octets i < 2 ^ w = mod_below _ (2 ^ w) (pow_pos w) in
    rw here (omega arith)

-- each value of a signature leads to the end of its chain
end_is : (key : SignKey) (q : ℕ) (value : List ℕ) (i : ℕ) → i < chain_count key.ots
    → chain_end key.ots key.id q value (signature_values key q value) i ≡ whole_chain key q i
end_is key q value i lt =
    let a = slice_index (message_digits key.ots value) i in
    let last = 2 ^ width key.ots - 1 in
    ap (λ (y : List ℕ). chain key.id q i a last y)
    (value_at_below (signature_value key q value) (length-signature_value key q value) (chain_count key.ots) i lt)
    ∙ chain_on key.id q i 0 a last (secret key q i) (omega arith) (digit_within key value i lt)

-- so all of them lead to the one-time public key
candidate_is : (key : SignKey) (q : ℕ) (value : List ℕ)
    → candidate_key key.ots key.id q value (signature_values key q value) ≡ one_time_public key q
candidate_is key q value =
    ap (one_time_key key.id q)
    (flat_map_below_same (chain_end key.ots key.id q value (signature_values key q value)) (whole_chain key q)
    (chain_count key.ots) (end_is key q value))

-- the tree's nodes on the way up, in a list
on_the_way : SignKey → ℕ → List (List ℕ)
on_the_way key q = map (λ i. tree_node key (above key q i)) (below (height key.kind + 1))

on_the_way_at : (key : SignKey) (q i : ℕ) → i ≤ height key.kind
    → node (on_the_way key q) i ≡ tree_node key (above key q i)
unfolding on_the_way
on_the_way_at key q i le =
    get_or-map-range_with_len (λ k. tree_node key (above key q k)) 0 (height key.kind + 1) i i [] (omega arith)
    (omega arith)

leads_up : (key : SignKey) (q : ℕ) (leaf : List ℕ) → q < leaf_count key
    → leaf ≡ leaf_value key.id (leaf_count key + q) (one_time_public key q)
    → Leads key.id (leaf_count key + q) (height key.kind) (path key q) leaf (tree_node key 1)
unfolding on_the_way
leads_up key q leaf lt leaf-is =
    let r = leaf_count key + q in
    let back : r - leaf_count key ≡ q = omega arith in
    record {
      nodes = on_the_way key q;
      size = length-map-range_with_len (λ i. tree_node key (above key q i)) 0 (height key.kind + 1);
      first = on_the_way_at key q 0 (omega arith) ∙ ap (tree_node key) (above_at_leaf key q)
          ∙ (is_tree key).leaf r (omega arith)
          ∙ ap (λ (k : ℕ). leaf_value key.id r (one_time_public key k)) back ∙ sym leaf-is;
      each = λ i i-lt. rw (on_the_way_at key q i (omega arith))
          (on_the_way_at key q (i + 1) (omega arith) ∙ node_on_the_way key q i lt i-lt);
      last = on_the_way_at key q (height key.kind) (omega arith) ∙ ap (tree_node key) (above_at_root key q lt);
    }

pub signature_holds : (key : SignKey) (q : ℕ) (message : List ℕ) → q < leaf_count key
    → HssHolds (public_key key) message (sign_text key q message)
signature_holds key q message lt =
    let value = message_value key.id q (randomizer key q) message in
    record {
      signed = [];
      last = signature_text key.kind key.ots (signature_of key q message);
      levels = refl;
      most = omega arith;
      text = refl;
      holds = record {
        signature = signature_of key q message;
        spells = record {
          text = refl;
          leaf = lt;
          randomizer = length-sha256 _;
          values = length-flat_map_below (signature_value key q value) (length-signature_value key q value)
              (chain_count key.ots);
          path = length-flat_map_below (path_value key q)
              (λ k. length-tree_node key (beside (above key q k))) (height key.kind);
        };
        leads = leads_up key q _ lt (ap (leaf_value key.id (leaf_count key + q)) (candidate_is key q value));
      };
    }

-- how many octets the parts of a signature have
text_size : (kind : LmsKind) (ots : OtsKind) (s : LmsSignature) → length s.randomizer ≡ 32
    → length s.values ≡ 32 * chain_count ots → length s.path ≡ 32 * height kind
    → length (u32str 0 ++ signature_text kind ots s) ≡ 4 + signature_size kind ots
text_size kind ots s random values path =
    omega (
      arith,
      length-append s.randomizer s.values,
      length-append (s.randomizer ++ s.values) (u32str (lms_number kind)),
      length-append ((s.randomizer ++ s.values) ++ u32str (lms_number kind)) s.path,
      random,
      values,
      path,
    )

pub length-sign_text : (key : SignKey) (q : ℕ) (message : List ℕ)
    → length (sign_text key q message) ≡ hss_signature_size key
length-sign_text key q message =
    let value = message_value key.id q (randomizer key q) message in
    text_size key.kind key.ots (signature_of key q message) (length-sha256 _)
    (length-flat_map_below (signature_value key q value) (length-signature_value key q value) (chain_count key.ots))
    (length-flat_map_below (path_value key q) (λ k. length-tree_node key (beside (above key q k))) (height key.kind))
