use Rattle.std.proofs.Common.{ℕ, List, map, subst, IsPermutation}
use Rattle.std.proofs.lemmas.List.Sorted.{IsPermutation-refl}
use Rattle.std.proofs.lemmas.Result.{IfOk-weaker}
use Rattle.der_core.specs.Attribute.{attribute_text}
use Rattle.attribute_set.specs.AttributeSet.{set_contents}
use Rattle.signed_write.specs.Orders.{in_order}
use Rattle.der_write.proofs.Contents.{contents_length}
use Rattle.signed_write.proofs.Orders.{in_order_contents}
use Rattle.signed_write.proofs.attributes.sorted.Goals as goal

pub returns-clause-ok : goal.returns-clause-ok
returns-clause-ok c =
    let texts = map (λ part. part.items) c.args.parts.now in
    IfOk-weaker c.sorted_contents.result _ _ (λ contents set. λ attributes same.
    c.one_set.ensures.contents texts (map attribute_text attributes) contents.items (set_contents (in_order attributes))
    (subst (λ (others : List (List ℕ)). IsPermutation texts others) same (IsPermutation-refl texts)) set
    (in_order_contents attributes)) c.sorted_contents.ensures.ok

pub returns-clause-size : goal.returns-clause-size
returns-clause-size c =
    IfOk-weaker c.sorted_contents.result _ _
    (λ contents set. contents_length (map (λ part. part.items) c.args.parts.now) contents.items set) c.sorted_contents.ensures.ok
