use Rattle.std.proofs.Common.{ℕ, ◌≡◌, ◌≤◌, ◌+◌, [], ◌∷◌, List, length, sym, subst, ◌∙◌, arith, length-append}
use Rattle.path_check.specs.Steps.{TellsAbove}
use Rattle.path_check.proofs.Chains.{Climbed, goes_up, ends, stops, too_far, pushed}
use Rattle.path_check.proofs.find.climb.Goals as goal

pub loop-preserved : goal.loop-preserved
loop-preserved c =
    let certificates = c.args.certs.now in
    let front = c.loop.members.items in
    let P : List ℕ → Type 0 = λ items. (length items ≡ c.loop.counter + 1)
    × Climbed certificates c.args.anchors.now c.args.first items c.in-Certificate.next in
    let size = length-append front (c.loop.place ∷ []) in
    let count = c.loop.invariant.0 in
    let told = subst (TellsAbove certificates c.args.anchors.now c.loop.place) c.in-Certificate.is
    c.in_ok-anchor.ensures.above in
    subst P (sym (pushed front c.loop.place c.in_ok-reserve.ensures.items c.push_reserved.ensures.items)) (
      omega (arith, size, count),
      goes_up certificates c.args.anchors.now c.args.first c.loop.place c.in-Certificate.next front c.loop.invariant.1
          told.0 told.1,
    )

pub returns-in-Anchor-clause-path : goal.returns-in-Anchor-clause-path
returns-in-Anchor-clause-path c =
    let certificates = c.args.certs.now in
    let front = c.loop.members.items in
    let few : length front ≤ 7 = omega (arith, c.loop.invariant.0, c.loop-test.true) in
    let told = subst (TellsAbove certificates c.args.anchors.now c.loop.place) c.in-Anchor.is
    c.in_ok-anchor.ensures.above in
    let found = ends certificates c.args.anchors.now c.args.first c.loop.place c.in-Anchor.anchor front
    c.loop.invariant.1 few told in
    (found.0, pushed front c.loop.place c.in_ok-reserve.ensures.items c.push_reserved.ensures.items ∙ found.1, found.2, found.3)

pub returns-in-Nothing-clause-none : goal.returns-in-Nothing-clause-none
returns-in-Nothing-clause-none c =
    let certificates = c.args.certs.now in
    let told = subst (TellsAbove certificates c.args.anchors.now c.loop.place) c.in-Nothing.is
    c.in_ok-anchor.ensures.above in
    λ said members anchor few leads.
    stops certificates c.args.anchors.now c.args.first c.loop.place c.loop.members.items c.loop.invariant.1
    told.0 told.1 members anchor leads

pub returns-clause-none : goal.returns-clause-none
returns-clause-none c = λ said members anchor few leads.
    let eight : length c.loop.members.items ≡ 8 = omega (arith, c.loop.invariant.0, c.loop-test.false) in
    too_far c.args.certs.now c.args.anchors.now c.args.first c.loop.place c.loop.members.items
    c.loop.invariant.1 eight members anchor few leads
