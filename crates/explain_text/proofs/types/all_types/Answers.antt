use Rattle.std.proofs.Common.{◌++◌, ◌∷◌, [], take, map, List, sym, ap, subst, ◌∙◌, arith}
use Rattle.std.proofs.lemmas.List.{take_more, take_all}
use Rattle.cert_fields.specs.Constraints.{ContentConstraint}
use Rattle.cert_fields.specs.ConstraintsView.{entry_view}
use Rattle.constraint_meet.specs.Grants.{Members}
use Rattle.explain_text.proofs.AddedTypes.{AreOwn, member_added}
use Rattle.explain_text.proofs.types.all_types.Goals as goal

pub loop-member-preserved : goal.loop-member-preserved
loop-member-preserved c =
    let members = c.args.members.now in
    let i = c.loop-member.member-index in
    subst (λ (front : Members). AreOwn c.push_types.new.types.items front)
    (ap (λ (member : List ContentConstraint). take i members ++ member ∷ []) c.member-item.is
    ∙ sym (take_more members i c.member-item.result c.loop-member-test.true))
    (member_added c.push_types.new.types.items c.loop-member.types.items (take i members) c.member-item.result
    (map entry_view c.entries.result.now) c.loop-member.invariant c.entries.ensures.same c.in_ok-push_types.ensures)

pub returns : goal.returns
returns c =
    subst (λ (members : Members). AreOwn c.loop-member.types.items members)
    (take_all c.loop-member.member-index c.args.members.now (omega (arith, c.loop-member-test.false))) c.loop-member.invariant
