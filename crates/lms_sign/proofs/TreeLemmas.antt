-- The nodes of a tree, by the equations of the standard.
use Rattle.std.proofs.Common.{◌≡◌, ℕ, zero, suc, ◌+◌, ◌*◌, ◌^◌, ◌<◌, ◌≤◌, List, length, inl, inr, refl, ap, sym, ◌∙◌, arith}
use Rattle.std.proofs.lemmas.Bool.{cases_lt, lt-ltb, le-ltb}
use Rattle.std.proofs.Math.Nat.{pow-zero, pow-suc, le-mul_of_pos_right}
use Rattle.sha2.proofs.Facts256.{length-sha256}
use Rattle.lms_verify.specs.Kinds.{height}
use Rattle.lms_verify.specs.Tree.{inner_value}
use Rattle.lms_sign.specs.declared.key.SignKey.{SignKey}
use Rattle.lms_sign.specs.PublicKeys.{leaf_count}
use Rattle.lms_sign.specs.Nodes.{IsTree, leaf_node, node_within, tree_node}

-- a leaf is one however far the leaves may be
node_of_leaf : (key : SignKey) (d r : ℕ) → leaf_count key ≤ r → node_within key d r ≡ leaf_node key r
unfolding node_within
node_of_leaf key zero r le = refl
node_of_leaf key (suc d) r le = rw (le-ltb r (leaf_count key) le) refl

-- an inner node is over the two nodes below it
node_over : (key : SignKey) (d r : ℕ) → r < leaf_count key
    → node_within key (suc d) r
    ≡ inner_value key.id r (node_within key d (2 * r)) (node_within key d (2 * r + 1))
unfolding node_within
node_over key d r lt = rw (lt-ltb r (leaf_count key) lt) refl

-- the leaves are as near to the nodes below as they are to this one, but one level
nearer : (n r d : ℕ) → n ≤ r * 2 ^ suc d → (n ≤ 2 * r * 2 ^ d) × (n ≤ (2 * r + 1) * 2 ^ d)
nearer n r d le =
    let same : r * 2 ^ suc d ≡ r * (2 ^ d * 2) = ap (λ (p : ℕ). r * p) (pow-suc 2 d) in
    (omega arith, omega arith)

-- where the leaves are at most d levels away, it doesn't matter that they may be farther
node_within_more : (key : SignKey) (d r : ℕ) → leaf_count key ≤ r * 2 ^ d
    → node_within key (suc d) r ≡ node_within key d r
node_within_more key zero r le =
    let leaf : leaf_count key ≤ r = omega (arith, pow-zero 2) in
    node_of_leaf key 1 r leaf ∙ sym (node_of_leaf key zero r leaf)
node_within_more key (suc d) r le =
    let near = nearer (leaf_count key) r d le in
    elim (cases_lt r (leaf_count key)) [
      | inl lt ↦ node_over key (suc d) r lt
          ∙ ap (λ (left : List ℕ). inner_value key.id r left (node_within key (suc d) (2 * r + 1)))
          (node_within_more key d (2 * r) near.0)
          ∙ ap (λ (right : List ℕ). inner_value key.id r (node_within key d (2 * r)) right)
          (node_within_more key d (2 * r + 1) near.1)
          ∙ sym (node_over key d r lt)
      | inr ge ↦ node_of_leaf key (suc (suc d)) r ge ∙ sym (node_of_leaf key (suc d) r ge)
    ]

-- an inner node is over the two nodes below it, within as many levels
node_over_same : (key : SignKey) (d r : ℕ) → r < leaf_count key → leaf_count key ≤ r * 2 ^ suc d
    → node_within key (suc d) r
    ≡ inner_value key.id r (node_within key (suc d) (2 * r)) (node_within key (suc d) (2 * r + 1))
node_over_same key d r lt le =
    let near = nearer (leaf_count key) r d le in
    node_over key d r lt
    ∙ ap (λ (left : List ℕ). inner_value key.id r left (node_within key d (2 * r + 1)))
    (sym (node_within_more key d (2 * r) near.0))
    ∙ ap (λ (right : List ℕ). inner_value key.id r (node_within key (suc d) (2 * r)) right)
    (sym (node_within_more key d (2 * r + 1) near.1))

-- the same where the leaves are as far away as they are from the root
node_over_all : (key : SignKey) (h r : ℕ) → leaf_count key ≡ 2 ^ h → 1 ≤ r → r < leaf_count key
    → node_within key h r
    ≡ inner_value key.id r (node_within key h (2 * r)) (node_within key h (2 * r + 1))
node_over_all key zero r count first lt = absurd (omega (arith, pow-zero 2))
node_over_all key (suc d) r count first lt =
    node_over_same key d r lt (omega (arith, le-mul_of_pos_right (2 ^ suc d) first))

pub is_tree : (key : SignKey) → IsTree key
unfolding tree_node
is_tree key = record {
  leaf = λ r le. node_of_leaf key (height key.kind) r le;
  inner = λ r first lt. node_over_all key (height key.kind) r refl first lt;
}

-- each node's value has 32 octets
length-inner : (key : SignKey) (d r : ℕ) → r < leaf_count key → length (node_within key d r) ≡ 32
unfolding node_within
length-inner key zero r lt = length-sha256 _
length-inner key (suc d) r lt = ap length (node_over key d r lt) ∙ length-sha256 _

length-node_within : (key : SignKey) (d r : ℕ) → length (node_within key d r) ≡ 32
length-node_within key d r =
    elim (cases_lt r (leaf_count key)) [
      | inl lt ↦ length-inner key d r lt
      | inr ge ↦ ap length (node_of_leaf key d r ge) ∙ length-sha256 _
    ]

pub length-tree_node : (key : SignKey) (r : ℕ) → length (tree_node key r) ≡ 32
unfolding tree_node
length-tree_node key r = length-node_within key (height key.kind) r
