use Rattle.std.proofs.Common.{◌≡◌, ℕ, ◌+◌, ◌/◌, ◌^◌, ap, ◌∙◌, arith}
use Rattle.lms_verify.specs.Kinds.{height}
use Rattle.lms_verify.specs.Tree.{node}
use Rattle.lms_sign.specs.Nodes.{above, beside, path_value}
use Rattle.lms_sign.proofs.PathLemmas.{above_least, path_within}
use Rattle.lms_sign.proofs.key_tree.put_kept_path.Goals as goal

pub beside-requires-clause-first : goal.beside-requires-clause-first
beside-requires-clause-first c =
    rw c.leaf_count.ensures.value
    (above_least (height c.args.key.now.kind) c.args.q c.loop-i.i (omega arith))

pub loop-i-preserved : goal.loop-i-preserved
loop-i-preserved c =
    let key = c.args.key.now in
    let i = c.loop-i.i in
    let node-is : c.beside.result ≡ beside (above key c.args.q i) =
    c.beside.ensures ∙ ap (λ (n : ℕ). beside ((n + c.args.q) / 2 ^ i)) c.leaf_count.ensures.value in
    let within = path_within key c.args.q i c.requires.leaf (omega arith) in
    c.put_value.ensures (path_value key c.args.q) c.loop-i.invariant
    (ap (node c.args.nodes.now) node-is ∙ c.requires.nodes (beside (above key c.args.q i)) within.0 within.1)
