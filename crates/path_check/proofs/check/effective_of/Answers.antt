use Rattle.std.proofs.Common.{◌++◌, length, refl, ap, ◌∙◌, arith}
use Rattle.std.proofs.lemmas.List.{take_all, length-map}
use Rattle.std.proofs.lemmas.Option.{slice_get_read}
use Rattle.constraint_meet.specs.Grants.{of_path, of_certificate}
use Rattle.path_check.proofs.AllLemmas.{at_view}
use Rattle.path_check.proofs.PermitLemmas.{kept_constraints, lent, effective_more}
use Rattle.path_check.proofs.check.effective_of.Goals as goal

pub loop-member-preserved : goal.loop-member-preserved
loop-member-preserved c =
    let members = c.args.members.now in
    let n = c.loop-member.member-index in
    let member = c.member-item.result in
    effective_more (kept_constraints members) c.args.anchor.now.constraints n member.extensions.constraints
    c.loop-member.grant c.in_ok-grant-2.grant
    (at_view (λ m. m.extensions.constraints) members n member
    (slice_get_read members (length members) n member refl c.loop-member-test.true c.member-item.is))
    c.loop-member.invariant
    (c.in_ok-grant-2.ensures.more
    ∙ ap (λ k. c.loop-member.grant ++ of_certificate k)
    (lent c.as_ref-in-loop-member.result member.extensions.constraints c.as_ref-in-loop-member.ensures.value))

pub returns : goal.returns
returns c = record {
  value =
      c.loop-member.invariant
      ∙ ap (λ ks. of_path ks c.args.anchor.now.constraints)
      (take_all c.loop-member.member-index (kept_constraints c.args.members.now)
      (let size = length-map c.args.members.now (λ m. m.extensions.constraints) in
      omega (arith, size, c.loop-member-test.false)));
}
