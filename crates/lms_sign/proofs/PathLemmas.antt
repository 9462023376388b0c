-- The nodes on the way from a leaf to the root, and those beside them.
use Rattle.std.proofs.Common.{◌≡◌, ℕ, zero, suc, ◌+◌, ◌-◌, ◌*◌, ◌/◌, ◌%◌, ◌^◌, ◌<◌, ◌≤◌, List, inl, inr, ap, sym, ◌∙◌, add-one, arith, lit<}
use Rattle.std.proofs.lemmas.Bool.{cases_eq, eq-eqb, ne_eqb}
use Rattle.std.proofs.lemmas.Nat.{div_below, le-div, pow_pos, shr-shr}
use Rattle.std.proofs.Math.Nat.{pow-suc, pow-zero, div-one, pow-le-pow_right, mul-le-mul_left}
use Rattle.lms_verify.specs.Kinds.{height}
use Rattle.lms_verify.specs.OneTime.{value_at}
use Rattle.lms_verify.specs.Tree.{inner_value, node, parent_value}
use Rattle.lms_sign.specs.declared.key.SignKey.{SignKey}
use Rattle.lms_sign.specs.PublicKeys.{leaf_count}
use Rattle.lms_sign.specs.Nodes.{GoesUp, above, beside, path, path_value, tree_node}
use Rattle.lms_sign.proofs.ChainLemmas.{value_at_below}
use Rattle.lms_sign.proofs.TreeLemmas.{is_tree, length-tree_node}

-- the number of the node i levels above leaf q of a tree of height h
pub above_least : (h q i : ℕ) → i ≤ h → 1 ≤ (2 ^ h + q) / 2 ^ i
above_least h q i le =
    le-div 1 (2 ^ h + q) (2 ^ i) (pow_pos i) (omega (arith, pow-le-pow_right {n = 2} (lit< tt) le))

above_two : (h q i : ℕ) → i < h → 2 ≤ (2 ^ h + q) / 2 ^ i
above_two h q i lt =
    let more : 2 ^ suc i ≤ 2 ^ h = pow-le-pow_right {n = 2} (lit< tt) (omega arith) in
    le-div 2 (2 ^ h + q) (2 ^ i) (pow_pos i) (omega (arith, pow-suc 2 i))

above_below : (h q i : ℕ) → q < 2 ^ h → (2 ^ h + q) / 2 ^ i < 2 * 2 ^ h
above_below h q i lt =
    div_below (2 ^ h + q) (2 ^ i) (2 * 2 ^ h) (pow_pos i)
    (omega (arith, mul-le-mul_left (2 * 2 ^ h) (pow_pos i)))

-- no level above a leaf it is the leaf's
pub above_at_leaf : (key : SignKey) (q : ℕ) → above key q 0 ≡ leaf_count key + q
above_at_leaf key q =
    ap (λ (p : ℕ). (leaf_count key + q) / p) (pow-zero 2) ∙ div-one (leaf_count key + q)

-- and h levels above it the root's
pub above_at_root : (key : SignKey) (q : ℕ) → q < leaf_count key → above key q (height key.kind) ≡ 1
above_at_root key q leaf =
    let h = height key.kind in
    let least = above_least h q h (omega arith) in
    let most : above key q h < 2 = div_below (2 ^ h + q) (2 ^ h) 2 (pow_pos h) (omega arith) in
    omega arith

-- one level up halves the number
above_next : (n i : ℕ) → n / 2 ^ (i + 1) ≡ n / 2 ^ i / 2
above_next n i = sym (shr-shr n i 1)

-- the node beside one that isn't the root
beside_within : (m n : ℕ) → 2 ≤ m → m < 2 * n → (1 ≤ beside m) × (beside m < 2 * n)
beside_within m n two lt =
    elim (cases_eq (m % 2) 0) [
      | inl even ↦ rw (eq-eqb (m % 2) 0 even) (omega arith, omega arith)
      | inr odd ↦ rw (ne_eqb (m % 2) 0 odd) (omega arith, omega arith)
    ]

-- the nodes of a path are nodes of the tree
pub path_within : (key : SignKey) (q i : ℕ) → q < leaf_count key → i < height key.kind
    → (1 ≤ beside (above key q i)) × (beside (above key q i) < 2 * leaf_count key)
path_within key q i leaf lt =
    beside_within (above key q i) (leaf_count key) (above_two (height key.kind) q i lt)
    (above_below (height key.kind) q i leaf)

-- a node's value follows from those of a node below it and the one beside that
parent_of : (key : SignKey) (m : ℕ) → 2 ≤ m → m / 2 < leaf_count key
    → tree_node key (m / 2)
    ≡ parent_value key.id m (tree_node key m) (tree_node key (beside m))
parent_of key m two lt =
    let up : tree_node key (m / 2)
    ≡ inner_value key.id (m / 2) (tree_node key (2 * (m / 2))) (tree_node key (2 * (m / 2) + 1)) =
    (is_tree key).inner (m / 2) (omega arith) lt in
    elim (cases_eq (m % 2) 0) [
      | inl even ↦
          let left : 2 * (m / 2) ≡ m = omega arith in
          rw (eq-eqb (m % 2) 0 even)
          (up ∙ ap (λ (k : ℕ). inner_value key.id (m / 2) (tree_node key k) (tree_node key (k + 1))) left)
      | inr odd ↦
          let left : 2 * (m / 2) ≡ m - 1 = omega arith in
          let right : 2 * (m / 2) + 1 ≡ m = omega arith in
          rw (ne_eqb (m % 2) 0 odd)
          (up ∙ ap (λ (k : ℕ). inner_value key.id (m / 2) (tree_node key k) (tree_node key (2 * (m / 2) + 1))) left
          ∙ ap (λ (k : ℕ). inner_value key.id (m / 2) (tree_node key (m - 1)) (tree_node key k)) right)
    ]

-- value i of a path
value_at_path : (key : SignKey) (q i : ℕ) → i < height key.kind
    → value_at (path key q) i ≡ path_value key q i
value_at_path key q i lt =
    value_at_below (path_value key q) (λ k. length-tree_node key (beside (above key q k)))
    (height key.kind) i lt

-- the next node on the way up
pub node_on_the_way : (key : SignKey) (q i : ℕ) → q < leaf_count key → i < height key.kind
    → tree_node key (above key q (i + 1))
    ≡ parent_value key.id (above key q i) (tree_node key (above key q i)) (value_at (path key q) i)
node_on_the_way key q i leaf lt =
    let h = height key.kind in
    let m = above key q i in
    let low : m < 2 * 2 ^ h = above_below h q i leaf in
    ap (tree_node key) (above_next (leaf_count key + q) i)
    ∙ parent_of key m (above_two h q i lt) (omega arith)
    ∙ ap (λ (value : List ℕ). parent_value key.id m (tree_node key m) value) (sym (value_at_path key q i lt))

-- node values that go up from a leaf by its path are those of the tree
pub goes_up : (key : SignKey) (q : ℕ) (nodes : List (List ℕ)) → q < leaf_count key → GoesUp key q nodes
    → (i : ℕ) → i ≤ height key.kind → node nodes i ≡ tree_node key (above key q i)
goes_up key q nodes leaf up zero le =
    up.first ∙ ap (tree_node key) (sym (above_at_leaf key q))
goes_up key q nodes leaf up (suc i) le =
    ap (λ (k : ℕ). node nodes k) (sym (add-one i)) ∙ up.each i (omega arith)
    ∙ ap (λ (value : List ℕ). parent_value key.id (above key q i) value (value_at (path key q) i))
    (goes_up key q nodes leaf up i (omega arith))
    ∙ sym (node_on_the_way key q i leaf (omega arith))
    ∙ ap (λ (k : ℕ). tree_node key (above key q k)) (add-one i)
