use Rattle.std.proofs.Common.{arith, ap, sym, ◌∙◌, is_some}
use Rattle.std.proofs.lemmas.Bool.{false≢true}
use Rattle.attribute_set.proofs.ItemLemmas.{are_items}
use Rattle.cert_fields.specs.ConstraintsReading.{entry_at}
use Rattle.cert_fields.proofs.ConstraintLaws.{own_contents, all_told, not_own}
use Rattle.cert_fields.proofs.constraints.have_own_contents.Goals.{else-are_entries-via-then-are_entries+in_ok-have_own_types+else-branch}
use Rattle.cert_fields.proofs.constraints.have_own_contents.Goals.{else-are_entries-via-else-are_entries}
use Rattle.cert_fields.proofs.constraints.have_own_contents.Goals as goal

pub have_own_attributes-requires : goal.have_own_attributes-requires
have_own_attributes-requires c =
    are_items entry_at c.args.entries.now (sym c.are_entries.ensures ∙ c.if-are_entries.true)

pub returns-then-branch : goal.returns-then-branch
returns-then-branch c =
    all_told c.args.entries.now c.have_own_attributes.result (λ i. omega (arith, c.type_inv.entries i))
    (are_items entry_at c.args.entries.now (sym c.are_entries.ensures ∙ c.if-are_entries.true))
    (c.in_ok-have_own_types.ensures.own.0 c.if-branch.true) c.have_own_attributes.ensures

pub returns-else-are_entries : goal.returns-else-are_entries
returns-else-are_entries c = not_own c.args.entries.now (λ own. elim c.else-are_entries.branch [
  | else-are_entries-via-then-are_entries+in_ok-have_own_types+else-branch w ↦
      false≢true (sym w.if-branch.false
      ∙ w.in_ok-have_own_types.ensures.own.1
      ((own_contents c.args.entries.now (λ i. omega (arith, c.type_inv.entries i)) own.items).1 own.contents))
  | else-are_entries-via-else-are_entries w ↦
      false≢true (sym w.if-are_entries.false ∙ c.are_entries.ensures ∙ ap is_some own.items)
])
