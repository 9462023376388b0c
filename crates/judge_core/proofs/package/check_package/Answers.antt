use Rattle.std.proofs.Common.{◌≡◌, sym, subst, ◌∙◌}
use Rattle.der_core.specs.Asked.{FirstFail}
use Rattle.cert_fields.specs.Sid.{sid_view}
use Rattle.package_attrs.specs.Description.{description}
use Rattle.path_check.specs.Conditions.{members_at}
use Rattle.path_check.specs.Paths.{PathOf}
use Rattle.judge_core.specs.Conditions.{signature_conditions}
use Rattle.judge_core.specs.Verdicts.{bench}
use Rattle.judge_core.specs.Steps.{Stops, values_of}
use Rattle.judge_core.proofs.PackageLemmas.{says, has_anchor, stops_at_path, stops_at_rule, passes}
use Rattle.judge_core.proofs.package.check_package.Goals as goal

pub returns-in-Err-check-clause-fails : goal.returns-in-Err-check-clause-fails
returns-in-Err-check-clause-fails c = λ m image seen.
    let d = description c.args.offered.now in
    let owner = c.args.owner.now in
    let certificates = c.deref-2.result.now in
    let kept : certificates ≡ c.args.view.now.certs = c.deref-2.ensures.value ∙ c.in_ok-certs.ensures.kept in
    let is : PathOf (sid_view c.args.view.now.sid) certificates owner.anchors c.in-Ok.path =
    subst (λ cs. PathOf (sid_view c.args.view.now.sid) cs owner.anchors c.in-Ok.path)
    (c.deref.ensures.value ∙ sym c.deref-2.ensures.value) c.in-Ok.ensures.path in
    let there = has_anchor certificates owner.anchors (sid_view c.args.view.now.sid) c.in-Ok.path is in
    says (FirstFail (signature_conditions c.args.at there.0 (members_at certificates c.in-Ok.path.members) m))
    (Stops (bench owner c.args.state.now c.args.sequence c.args.at) (values_of m d) image) c.in-Err-check.fault
    (stops_at_path owner c.args.state.now c.args.sequence c.args.at m d image c.args.view.now seen.shows certificates kept
    c.in-Ok.path is (c.in-Ok.ensures.ok m seen.shows seen.digest) there.0 there.1)
    (c.in-Err-check.ensures.fails m there.0 seen.shows there.1)

pub returns-in-Some-clause-fails : goal.returns-in-Some-clause-fails
returns-in-Some-clause-fails c = λ m image seen.
    let d = description c.args.offered.now in
    let owner = c.args.owner.now in
    let certificates = c.deref-2.result.now in
    let kept : certificates ≡ c.args.view.now.certs = c.deref-2.ensures.value ∙ c.in_ok-certs.ensures.kept in
    let is : PathOf (sid_view c.args.view.now.sid) certificates owner.anchors c.in-Ok.path =
    subst (λ cs. PathOf (sid_view c.args.view.now.sid) cs owner.anchors c.in-Ok.path)
    (c.deref.ensures.value ∙ sym c.deref-2.ensures.value) c.in-Ok.ensures.path in
    let there = has_anchor certificates owner.anchors (sid_view c.args.view.now.sid) c.in-Ok.path is in
    stops_at_rule owner c.args.state.now c.args.sequence c.args.at m d image c.args.view.now seen.shows certificates kept
    c.in-Ok.path is (c.in-Ok.ensures.ok m seen.shows seen.digest) there.0 there.1 c.in-Some.failing
    (c.in-Ok-check.ensures.ok m there.0 seen.shows there.1).0 (c.in-Some.ensures.told image seen.size)

pub returns-clause-ok : goal.returns-clause-ok
returns-clause-ok c = λ m image seen.
    let d = description c.args.offered.now in
    let owner = c.args.owner.now in
    let certificates = c.deref-2.result.now in
    let kept : certificates ≡ c.args.view.now.certs = c.deref-2.ensures.value ∙ c.in_ok-certs.ensures.kept in
    let is : PathOf (sid_view c.args.view.now.sid) certificates owner.anchors c.in-Ok.path =
    subst (λ cs. PathOf (sid_view c.args.view.now.sid) cs owner.anchors c.in-Ok.path)
    (c.deref.ensures.value ∙ sym c.deref-2.ensures.value) c.in-Ok.ensures.path in
    let there = has_anchor certificates owner.anchors (sid_view c.args.view.now.sid) c.in-Ok.path is in
    let checked = c.in-Ok-check.ensures.ok m there.0 seen.shows there.1 in
    passes owner c.args.state.now c.args.sequence c.args.at m d image c.args.view.now seen.shows certificates kept
    c.in-Ok.path is (c.in-Ok.ensures.ok m seen.shows seen.digest) there.0 there.1 c.in-Ok-check.key_id
    checked.0 (c.in-None.ensures.told image seen.size) checked.1
