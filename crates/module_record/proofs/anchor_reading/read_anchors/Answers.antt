use Rattle.std.proofs.Common.{◌∙◌, ℕ, List, [], ◌++◌, ◌∷◌, sym, subst, ap}
use Rattle.der_core.specs.Shapes.{listed}
use Rattle.der_core.proofs.Lists.{some_left, none_left}
use Rattle.cert_fields.specs.Anchor.{TrustAnchor}
use Rattle.module_record.specs.ModuleReading.{AreMade, anchor_at}
use Rattle.module_record.specs.ModuleView.{anchor_parts}
use Rattle.module_record.proofs.AnchorLaws.{anchor_falls, one_more, not_read, not_made, all_made}
use Rattle.module_record.proofs.ListLemmas.{behind, starts, goes_on, stops, ends}
use Rattle.module_record.proofs.anchor_reading.read_anchors.Goals as goal

pub loop-items-init : goal.loop-items-init
loop-items-init c = (
  [],
  subst (λ (made : List TrustAnchor). AreMade made []) (sym c.new-anchors.ensures.items) tt,
  starts (listed anchor_at c.args.contents.now)
      ∙ ap (λ (left : List ℕ). behind [] (listed anchor_at left)) (sym c.new-items.ensures.all),
)

pub returns-in_default : goal.returns-in_default
returns-in_default c =
    not_read c.loop-items.anchors.items c.args.contents.now
    (stops anchor_at _ c.loop-items.invariant.0 c.loop-items.items
    (some_left c.loop-items.items c.at_end.result c.at_end.ensures.end c.loop-items-test.true)
    c.in_default.ensures.exact c.loop-items.invariant.2)

pub returns-in_default-2 : goal.returns-in_default-2
returns-in_default-2 c =
    not_made c.args.contents.now c.loop-items.invariant.0 c.loop-items.items c.read_anchor.new.items
    (anchor_parts c.in-Some.fields) _ c.in_default-2.is c.in_ok-anchor.ensures c.in-Some.ensures.exact
    c.loop-items.invariant.2

pub loop-items-smaller : goal.loop-items-smaller
loop-items-smaller c =
    anchor_falls c.loop-items.items (anchor_parts c.in-Some.fields, c.read_anchor.new.items) c.in-Some.ensures.exact

pub loop-items-preserved : goal.loop-items-preserved
loop-items-preserved c =
    let parts = anchor_parts c.in-Some.fields in
    let of_parts = (c.in_ok-anchor.ensures c.in-Some-2.anchor).0 c.in-Some-2.is in (
      c.loop-items.invariant.0 ++ parts ∷ [],
      subst (λ (made : List TrustAnchor). AreMade made (c.loop-items.invariant.0 ++ parts ∷ []))
          (sym c.in_ok-push.ensures.items)
          (one_more c.loop-items.anchors.items c.loop-items.invariant.0 c.in-Some-2.anchor parts
          c.loop-items.invariant.1 of_parts),
      goes_on anchor_at _ c.loop-items.invariant.0 c.loop-items.items c.read_anchor.new.items parts anchor_falls
          c.in-Some.ensures.exact c.loop-items.invariant.2,
    )

pub returns : goal.returns
returns c =
    all_made c.args.contents.now c.loop-items.anchors.items c.loop-items.invariant.0 c.loop-items.invariant.1
    (ends anchor_at _ c.loop-items.invariant.0 c.loop-items.items
    (none_left c.loop-items.items c.at_end.result c.at_end.ensures.end c.loop-items-test.false)
    c.loop-items.invariant.2) c.new.result c.new.ensures.anchors
