use Rattle.std.proofs.Common.{◌≡◌, ℕ, ◌-◌, ◌<◌, ◌≤◌, List, ap, sym, ◌∙◌, arith}
use Rattle.lms_verify.specs.Tree.{inner_value, leaf_value}
use Rattle.lms_sign.specs.Secrets.{one_time_public}
use Rattle.lms_sign.specs.PublicKeys.{leaf_count}
use Rattle.lms_sign.proofs.TreeLemmas.{is_tree}
use Rattle.lms_sign.proofs.tree.+tree_node.Goals as goal

pub returns-then-r-leaves : goal.returns-then-r-leaves
returns-then-r-leaves t c =
    let key = c.args.key.now in
    let r = c.args.r in
    let leaf : leaf_count key ≤ r = omega arith in
    let one_time : c.one_time_public.result ≡ one_time_public key (r - leaf_count key) =
    c.one_time_public.ensures
    ∙ ap (λ (n : ℕ). one_time_public key (r - n)) c.leaf_count-leaves.ensures.value in
    c.leaf_value.ensures.value ∙ ap (leaf_value key.id r) one_time ∙ sym ((is_tree key).leaf r leaf)

pub returns : goal.returns
returns t c =
    let key = c.args.key.now in
    let r = c.args.r in
    let inner : r < leaf_count key = omega arith in
    c.inner_value.ensures.value
    ∙ ap (λ (left : List ℕ). inner_value key.id r left c.tree_node-right.result) c.tree_node-left.ensures
    ∙ ap (inner_value key.id r _) c.tree_node-right.ensures
    ∙ sym ((is_tree key).inner r c.requires.first inner)
