-- The nodes of a signing key's tree, kept in a list in which node r stands at place r (RFC 8554, section
-- 5.3). As the root is node 1, place 0 has none.
use Rattle.std.specs.Prelude.{◌≡◌, ℕ, ◌*◌, ◌<◌, ◌≤◌, Bool, true, List, length}
use Rattle.lms_verify.specs.Tree.{node}
use Rattle.lms_sign.specs.declared.key.SignKey.{SignKey}
use Rattle.lms_sign.specs.PublicKeys.{leaf_count}
use Rattle.lms_sign.specs.Nodes.{tree_node}

-- the nodes from this number on stand each at its place
abbrev pub StandFrom : SignKey → ℕ → List (List ℕ) → Type 0
StandFrom key first nodes =
    (r : ℕ) → first ≤ r → r < 2 * leaf_count key → node nodes r ≡ tree_node key r

-- There is room for all of the nodes, and where they were computed, all stand at their places.
pub record KeepsNodes (key : SignKey) (is_computed : Bool) (nodes : List (List ℕ)) : Type 0 where
  pub size : length nodes ≡ 2 * leaf_count key
  pub stand : is_computed ≡ true → StandFrom key 1 nodes
