use Rattle.std.proofs.Common.{sym, ◌∙◌, subst}
use Rattle.std.proofs.lemmas.Bool.{false≢true}
use Rattle.attribute_set.specs.Items.{items_of}
use Rattle.cert_fields.specs.Constraints.{HasOwnTypes}
use Rattle.cert_fields.specs.ConstraintsReading.{entry_at}
use Rattle.cert_fields.specs.ConstraintsView.{entry_view}
use Rattle.cert_fields.proofs.AllWhere.{one_further, not_all, all_good}
use Rattle.cert_fields.proofs.ConstraintLaws.{OwnKinds}
use Rattle.cert_fields.proofs.constraints.have_own_attributes.Goals as goal

pub have_own_kinds-requires : goal.have_own_kinds-requires
have_own_kinds-requires c = c.octets.ensures.items

pub returns-then-not-branch : goal.returns-then-not-branch
returns-then-not-branch c =
    not_all HasOwnTypes (items_of entry_at c.args.entries.now) c.loop-entry.left c.next.new.self
    (entry_view c.in-Some.entry) c.loop-entry.invariant c.in-Some.ensures.steps
    (λ own. false≢true (sym c.if-not-branch.true
    ∙ c.in_ok-have_own_kinds.ensures.1 (subst OwnKinds (sym c.octets.ensures.same) own)))

pub loop-entry-preserved : goal.loop-entry-preserved
loop-entry-preserved c =
    one_further HasOwnTypes (items_of entry_at c.args.entries.now) c.loop-entry.left c.next.new.self
    (entry_view c.in-Some.entry) c.loop-entry.invariant c.in-Some.ensures.steps
    (subst OwnKinds c.octets.ensures.same (c.in_ok-have_own_kinds.ensures.0 c.if-not-branch.false))

pub returns : goal.returns
returns c =
    all_good HasOwnTypes (items_of entry_at c.args.entries.now) c.loop-entry.left c.loop-entry.invariant
    c.in_default.ensures.steps.0
