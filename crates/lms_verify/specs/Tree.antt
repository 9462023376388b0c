-- The tree of an LMS key over SHA-256 (RFC 8554, section 5). Node 1 is the root, and the nodes
-- 2 * m and 2 * m + 1 are below node m, on its left and on its right.
use Rattle.std.specs.Prelude.{◌≡◌, ℕ, ◌+◌, ◌/◌, ◌%◌, ◌^◌, ◌<◌, List, [], ◌∷◌, ◌++◌, length, slice_index_or, ◌==◌, if◌then◌else◌}
use Rattle.sha2.specs.Sha256.{sha256}
use Rattle.lms_verify.specs.Digits.{u32str}
use Rattle.lms_verify.specs.OneTime.{value_at}

-- what tells the hash of a leaf from others (7.1: D_LEAF)
abbrev pub d_leaf : List ℕ
d_leaf = 0x82 ∷ 0x82 ∷ []

-- what tells the hash of an inner node from others (7.1: D_INTR)
abbrev pub d_intr : List ℕ
d_intr = 0x83 ∷ 0x83 ∷ []

-- the value of leaf node r, over its one-time public key (5.3)
abbrev pub leaf_value : List ℕ → ℕ → List ℕ → List ℕ
leaf_value id r key = sha256 (id ++ u32str r ++ d_leaf ++ key)

-- the value of inner node m, over those of the nodes below it (5.3)
abbrev pub inner_value : List ℕ → ℕ → List ℕ → List ℕ → List ℕ
inner_value id m left right = sha256 (id ++ u32str m ++ d_intr ++ left ++ right)

-- the value of the node above node r, which has this value: the node beside it is on the right where
-- r is even, else on the left (5.4.2, algorithm 6a)
abbrev pub parent_value : List ℕ → ℕ → List ℕ → List ℕ → List ℕ
parent_value id r value beside =
    if r % 2 == 0 then inner_value id (r / 2) value beside else inner_value id (r / 2) beside value

-- node i of a list of node values
abbrev pub node : List (List ℕ) → ℕ → List ℕ
node nodes i = slice_index_or nodes i []

-- There are node values n[0] to n[h], from that of leaf node r to the root's, each of which follows
-- from the one below it and the path's value beside that (5.4.2, algorithm 6a).
pub record Leads (id : List ℕ) (r h : ℕ) (path leaf root : List ℕ) : Type 0 where
  pub nodes : List (List ℕ)
  pub size : length nodes ≡ h + 1
  pub first : node nodes 0 ≡ leaf
  pub each : (i : ℕ) → i < h
      → node nodes (i + 1) ≡ parent_value id (r / 2 ^ i) (node nodes i) (value_at path i)
  pub last : node nodes h ≡ root
