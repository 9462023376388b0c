use Rattle.std.proofs.Common.{◌≡◌, ℕ, ◌+◌, ◌/◌, ◌^◌, ap, ◌∙◌, arith}
use Rattle.lms_verify.specs.Kinds.{height}
use Rattle.lms_sign.specs.Nodes.{above, beside, path_value, tree_node}
use Rattle.lms_sign.proofs.PathLemmas.{above_least, path_within}
use Rattle.lms_sign.proofs.signing.put_path.Goals as goal

pub beside-requires-clause-first : goal.beside-requires-clause-first
beside-requires-clause-first c =
    rw c.leaf_count.ensures.value
    (above_least (height c.args.key.now.kind) c.args.q c.loop-i.i (omega arith))

-- the number of the node whose value is written
node_is : (c : goal.After-beside) → c.beside.result ≡ beside (above c.args.key.now c.args.q c.loop-i.i)
node_is c =
    c.beside.ensures
    ∙ ap (λ (n : ℕ). beside ((n + c.args.q) / 2 ^ c.loop-i.i)) c.leaf_count.ensures.value

pub tree_node-requires-clause-first : goal.tree_node-requires-clause-first
tree_node-requires-clause-first c =
    rw (node_is c) (path_within c.args.key.now c.args.q c.loop-i.i c.requires.leaf (omega arith)).0

pub tree_node-requires-clause-last : goal.tree_node-requires-clause-last
tree_node-requires-clause-last c =
    rw (node_is c) (path_within c.args.key.now c.args.q c.loop-i.i c.requires.leaf (omega arith)).1

pub loop-i-preserved : goal.loop-i-preserved
loop-i-preserved c =
    let key = c.args.key.now in
    let i = c.loop-i.i in
    let node-is : c.beside.result ≡ beside (above key c.args.q i) =
    c.beside.ensures ∙ ap (λ (n : ℕ). beside ((n + c.args.q) / 2 ^ i)) c.leaf_count.ensures.value in
    c.put_value.ensures (path_value key c.args.q) c.loop-i.invariant
    (c.tree_node.ensures ∙ ap (tree_node key) node-is)
