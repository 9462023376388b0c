use Rattle.der_core.specs.declared.attribute.Attr.{Attr}
use Rattle.explain_text.proofs.Groups.{in_turn, is_of_key, of_key_is, group_is}
use Rattle.explain_text.proofs.group.group_of.Goals as goal

pub slice_bounds-result-count : goal.slice_bounds-result-count
slice_bounds-result-count c =
    in_turn (λ (a : Attr). a.kind) c.args.attributes.now c.args.kind.now c.first_of-first.result c.end_of-end.result
    c.end_of-end.ensures.bound c.first_of-first.ensures.parted c.end_of-end.ensures.parted c.first_of-first.ensures.bound

pub slice_bounds-result-start : goal.slice_bounds-result-start
slice_bounds-result-start c =
    in_turn (λ (a : Attr). a.kind) c.args.attributes.now c.args.kind.now c.first_of-first.result c.end_of-end.result
    c.end_of-end.ensures.bound c.first_of-first.ensures.parted c.end_of-end.ensures.parted c.first_of-first.ensures.bound

pub returns : goal.returns
returns c =
    let low = in_turn (λ (a : Attr). a.kind) c.args.attributes.now c.args.kind.now c.first_of-first.result c.end_of-end.result
    c.end_of-end.ensures.bound c.first_of-first.ensures.parted c.end_of-end.ensures.parted c.first_of-first.ensures.bound in
    group_is c.args.attributes.now _ c.args.kind.now
    (is_of_key (λ (a : Attr). a.kind) c.args.attributes.now c.args.kind.now c.first_of-first.result c.end_of-end.result
    c.end_of-end.ensures.bound c.first_of-first.ensures.parted c.end_of-end.ensures.parted low)
    (of_key_is (λ (a : Attr). a.kind) c.args.attributes.now c.args.kind.now c.first_of-first.result c.end_of-end.result
    c.end_of-end.ensures.bound c.first_of-first.ensures.parted c.end_of-end.ensures.parted)
