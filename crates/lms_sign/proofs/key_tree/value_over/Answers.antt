use Rattle.std.proofs.Common.{◌≡◌, ℕ, ◌+◌, ◌-◌, ◌*◌, ◌<◌, ◌≤◌, List, ap, sym, ◌∙◌, arith}
use Rattle.lms_verify.specs.Tree.{inner_value, leaf_value, node}
use Rattle.lms_sign.specs.Secrets.{one_time_public}
use Rattle.lms_sign.specs.PublicKeys.{leaf_count}
use Rattle.lms_sign.specs.Nodes.{tree_node}
use Rattle.lms_sign.proofs.TreeLemmas.{is_tree}
use Rattle.lms_sign.proofs.key_tree.value_over.Goals as goal

pub returns-then-r-leaves : goal.returns-then-r-leaves
returns-then-r-leaves c =
    let key = c.args.key.now in
    let r = c.args.r in
    let leaf : leaf_count key ≤ r = omega arith in
    let one_time : c.one_time_public.result ≡ one_time_public key (r - leaf_count key) =
    c.one_time_public.ensures
    ∙ ap (λ (n : ℕ). one_time_public key (r - n)) c.leaf_count-leaves.ensures.value in
    c.leaf_value.ensures.value ∙ ap (leaf_value key.id r) one_time ∙ sym ((is_tree key).leaf r leaf)

pub returns : goal.returns
returns c =
    let key = c.args.key.now in
    let r = c.args.r in
    let inner : r < leaf_count key = omega arith in
    let left : node c.args.nodes.now (2 * r) ≡ tree_node key (2 * r) =
    c.requires.below (2 * r) (omega arith) (omega arith) in
    let right : node c.args.nodes.now (2 * r + 1) ≡ tree_node key (2 * r + 1) =
    c.requires.below (2 * r + 1) (omega arith) (omega arith) in
    c.inner_value.ensures.value
    ∙ ap (λ (value : List ℕ). inner_value key.id r value (node c.args.nodes.now (2 * r + 1))) left
    ∙ ap (inner_value key.id r (tree_node key (2 * r))) right
    ∙ sym ((is_tree key).inner r c.requires.first inner)
