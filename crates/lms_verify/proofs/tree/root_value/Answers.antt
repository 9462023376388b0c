use Rattle.std.proofs.Common.{◌≡◌, ℕ, ◌+◌, ◌-◌, ◌*◌, ◌/◌, ◌^◌, List, take, drop, refl, sym, ap, ◌∙◌, add-one, arith}
use Rattle.lms_verify.specs.OneTime.{value_at}
use Rattle.lms_verify.specs.Tree.{parent_value}
use Rattle.lms_verify.proofs.TreeLemmas.{node_above, leads_is}
use Rattle.lms_verify.proofs.tree.root_value.Goals as goal

pub loop-i-init : goal.loop-i-init
unfolding node_above
loop-i-init c = refl

pub loop-i-preserved : goal.loop-i-preserved
unfolding node_above
loop-i-preserved c =
    let id = c.args.id.now in
    let r = c.args.r in
    let path = c.args.path.now in
    let i = c.loop-i.i in
    let above = node_above id r path c.args.leaf.now in
    let size : 32 * i + 32 - 32 * i ≡ 32 = omega arith in
    let beside = λ (n : ℕ). parent_value id (r / 2 ^ i) c.loop-i.value (take n (drop (32 * i) path)) in
    let parent = λ (value : List ℕ). parent_value id (r / 2 ^ i) value (value_at path i) in
    c.parent_value-value.ensures ∙ ap beside size ∙ ap parent c.loop-i.invariant ∙ ap above (sym (add-one i))

pub returns : goal.returns
returns c =
    let id = c.args.id.now in
    let path = c.args.path.now in
    let leaf = c.args.leaf.now in
    let whole : c.loop-i.i ≡ c.args.height = omega arith in
    leads_is id c.args.r c.args.height path leaf c.loop-i.value
    (c.loop-i.invariant ∙ ap (node_above id c.args.r path leaf) whole)
