-- The node values on the way to the root, and what they lead to.
use Rattle.std.proofs.Common.{◌≡◌, ℕ, zero, suc, ◌+◌, ◌/◌, ◌^◌, ◌≤◌, List, [], map, refl, ap, sym, ◌∙◌, subst, arith, add-one}
use Rattle.std.specs.Prelude.{◌↔◌}
use Rattle.std.proofs.lemmas.List.FromFn.{length-map-range_with_len, get_or-map-range_with_len}
use Rattle.lms_verify.specs.OneTime.{value_at}
use Rattle.lms_verify.specs.Digits.{below}
use Rattle.lms_verify.specs.Tree.{Leads, node, parent_value}

-- the value i nodes above leaf node r
unfoldable pub node_above : List ℕ → ℕ → List ℕ → List ℕ → ℕ → List ℕ
node_above id r path leaf zero = leaf
node_above id r path leaf (suc i) =
    parent_value id (r / 2 ^ i) (node_above id r path leaf i) (value_at path i)

-- the values from the leaf's on, in a list
nodes_above_at : (id : List ℕ) (r : ℕ) (path leaf : List ℕ) (h i : ℕ) → i ≤ h
    → node (map (node_above id r path leaf) (below (h + 1))) i ≡ node_above id r path leaf i
nodes_above_at id r path leaf h i le =
    get_or-map-range_with_len (node_above id r path leaf) 0 (h + 1) i i [] (omega arith) (omega arith)

-- the path leads to the value that stands h nodes above
leads : (id : List ℕ) (r h : ℕ) (path leaf : List ℕ)
    → Leads id r h path leaf (node_above id r path leaf h)
unfolding node_above
leads id r h path leaf = record {
  nodes = map (node_above id r path leaf) (below (h + 1));
  size = length-map-range_with_len (node_above id r path leaf) 0 (h + 1);
  first = nodes_above_at id r path leaf h 0 (omega arith);
  each = λ i lt. rw (nodes_above_at id r path leaf h i (omega arith))
      (nodes_above_at id r path leaf h (i + 1) (omega arith) ∙ rw add-one refl);
  last = nodes_above_at id r path leaf h h (omega arith);
}

-- and to no other value
leads_there : (id : List ℕ) (r h : ℕ) (path leaf root : List ℕ) (by : Leads id r h path leaf root)
    → (i : ℕ) → i ≤ h → node by.nodes i ≡ node_above id r path leaf i
unfolding node_above
leads_there id r h path leaf root by zero le = by.first
leads_there id r h path leaf root by (suc i) le =
    rw (← add-one i) (by.each i (omega arith))
    ∙ ap (λ (value : List ℕ). parent_value id (r / 2 ^ i) value (value_at path i))
    (leads_there id r h path leaf root by i (omega arith))

pub leads_is : (id : List ℕ) (r h : ℕ) (path leaf value : List ℕ) → value ≡ node_above id r path leaf h
    → (root : List ℕ) → Leads id r h path leaf root ↔ (value ≡ root)
leads_is id r h path leaf value is root = (
  λ by. is ∙ sym (leads_there id r h path leaf root by h (omega arith)) ∙ by.last,
  λ same. let P : List ℕ → Type 0 = λ node. Leads id r h path leaf node in
      subst P (sym is ∙ same) (leads id r h path leaf),
)
