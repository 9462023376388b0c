use Rattle.std.proofs.Common.{Some, map, arith, sym, ◌∙◌, ap, subst}
use Rattle.std.specs.List.{IsDistinct}
use Rattle.std.specs.List.Sorted.{IsSorted}
use Rattle.std.specs.Ordering.{nat_cmp}
use Rattle.std.specs.Cmp.Lexicographic.{slice_cmp}
use Rattle.std.specs.Prelude.{bytes_eq}
use Rattle.std.proofs.lemmas.Bool.{false≢true}
use Rattle.der_core.specs.Attribute.{Attribute, attribute_text}
use Rattle.der_core.specs.AttributeReading.{attribute_at}
use Rattle.attribute_set.specs.Items.{items_of}
use Rattle.attribute_set.proofs.ItemLemmas.{is_items}
use Rattle.attribute_set.proofs.Readings.{reads_set, reads_none}
use Rattle.attribute_set.proofs.OwnTypes.{own_attributes}
use Rattle.attribute_set.proofs.read.read_attribute_set.Goals.{else-ascend-via-else-ascend}
use Rattle.attribute_set.proofs.read.read_attribute_set.Goals.{else-ascend-via-then-ascend+in_ok-have_own_types+else-branch}
use Rattle.attribute_set.proofs.read.read_attribute_set.Goals as goal

pub returns-then-branch-clause-spelled : goal.returns-then-branch-clause-spelled
returns-then-branch-clause-spelled c =
    let told = c.ascend.ensures.0 c.if-ascend.true in
    reads_set c.args.contents.now (items_of attribute_at c.args.contents.now) (λ i. omega (arith, c.type_inv.contents i))
    told.0 told.1
    ((own_attributes c.args.contents.now (λ i. omega (arith, c.type_inv.contents i)) told.0).0
    (c.in_ok-have_own_types.ensures.own.0 c.if-branch.true))

pub returns-then-branch-clause-distinct : goal.returns-then-branch-clause-distinct
returns-then-branch-clause-distinct c =
    let told = c.ascend.ensures.0 c.if-ascend.true in
    (own_attributes c.args.contents.now (λ i. omega (arith, c.type_inv.contents i)) told.0).0
    (c.in_ok-have_own_types.ensures.own.0 c.if-branch.true)

pub returns-else-ascend-clause-spelled : goal.returns-else-ascend-clause-spelled
returns-else-ascend-clause-spelled c =
    reads_none c.args.contents.now (λ these set is.
    let items = is_items attribute_at c.args.contents.now these is in
    elim c.else-ascend.branch [
      | else-ascend-via-then-ascend+in_ok-have_own_types+else-branch w ↦
          false≢true (sym w.if-branch.false
          ∙ w.in_ok-have_own_types.ensures.own.1
          ((own_attributes c.args.contents.now (λ i. omega (arith, c.type_inv.contents i)) (is ∙ ap Some (sym items))).1
          (subst (IsDistinct bytes_eq) (ap (map (λ (a : Attribute). a.kind)) (sym items)) set.distinct)))
      | else-ascend-via-else-ascend w ↦
          false≢true (sym w.if-ascend.false
          ∙ c.ascend.ensures.1 (
            is ∙ ap Some (sym items),
            subst (IsSorted (slice_cmp nat_cmp)) (ap (map attribute_text) (sym items)) set.ascending,
          ))
    ])
