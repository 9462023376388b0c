-- The nodes of a signing key's tree (RFC 8554, section 5.3). Node 1 is the root, the nodes 2 * r and
-- 2 * r + 1 are below node r, and leaf q is node 2 ^ h + q.
use Rattle.std.specs.Prelude.{◌≡◌, ℕ, zero, suc, ◌+◌, ◌-◌, ◌*◌, ◌/◌, ◌%◌, ◌^◌, ◌<◌, ◌≤◌, List, if◌then◌else◌, nat_lt, ◌==◌}
use Rattle.std.specs.List.{flat_map}
use Rattle.lms_verify.specs.Kinds.{height}
use Rattle.lms_verify.specs.Digits.{below}
use Rattle.lms_verify.specs.OneTime.{value_at}
use Rattle.lms_verify.specs.Tree.{leaf_value, inner_value, node, parent_value}
use Rattle.lms_sign.specs.declared.key.SignKey.{SignKey}
use Rattle.lms_sign.specs.PublicKeys.{leaf_count}
use Rattle.lms_sign.specs.Secrets.{one_time_public}

-- the value of node r, which is that of a leaf (5.3)
abbrev pub leaf_node : SignKey → ℕ → List ℕ
leaf_node key r = leaf_value key.id r (one_time_public key (r - leaf_count key))

-- the value of node r, where the leaves below it are at most d levels away
unfoldable pub node_within : SignKey → ℕ → ℕ → List ℕ
node_within key zero r = leaf_node key r
node_within key (suc d) r =
    if nat_lt r (leaf_count key)
    then inner_value key.id r (node_within key d (2 * r)) (node_within key d (2 * r + 1))
    else leaf_node key r

-- the value T[r] of node r (5.3)
unfoldable pub tree_node : SignKey → ℕ → List ℕ
tree_node key r = node_within key (height key.kind) r

-- The nodes of a tree are those of the standard (5.3): from 2 ^ h on those of the leaves, and below
-- that each is over the two nodes below it.
pub record IsTree (key : SignKey) : Type 0 where
  pub leaf : (r : ℕ) → leaf_count key ≤ r → tree_node key r ≡ leaf_node key r
  pub inner : (r : ℕ) → 1 ≤ r → r < leaf_count key
      → tree_node key r ≡ inner_value key.id r (tree_node key (2 * r)) (tree_node key (2 * r + 1))

-- the node beside node r, below the same node
abbrev pub beside : ℕ → ℕ
beside r = if r % 2 == 0 then r + 1 else r - 1

-- the number of the node i levels above leaf q
abbrev pub above : SignKey → ℕ → ℕ → ℕ
above key q i = (leaf_count key + q) / 2 ^ i

-- path[i] of leaf q: the value of the node beside the one that is i levels above the leaf (5.4)
abbrev pub path_value : SignKey → ℕ → ℕ → List ℕ
path_value key q i = tree_node key (beside (above key q i))

-- the values path[0] to path[h - 1], one after the other (5.4)
abbrev pub path : SignKey → ℕ → List ℕ
path key q = flat_map (path_value key q) (below (height key.kind))

-- These node values begin at leaf q, and each follows from the one below it and the path's value
-- beside that (5.4.2, algorithm 6a).
pub record GoesUp (key : SignKey) (q : ℕ) (nodes : List (List ℕ)) : Type 0 where
  pub first : node nodes 0 ≡ tree_node key (leaf_count key + q)
  pub each : (i : ℕ) → i < height key.kind → node nodes (i + 1)
      ≡ parent_value key.id (above key q i) (node nodes i) (value_at (path key q) i)
