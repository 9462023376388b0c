use Rattle.std.proofs.Common.{◌≡◌, ℕ, List, ◌++◌, length, inl, inr, arith, subst}
use Rattle.der_core.specs.Head.{head_octets, IsHead}
use Rattle.judge_core.proofs.SizeLemmas.{begins, no_head, size_is, item_of}
use Rattle.judge_core.proofs.size.first_size_failure.Goals as goal
use Rattle.judge_core.proofs.size.first_size_failure.Goals.{then-tag-ne-SEQUENCE-via-then-tag-ne-SEQUENCE, then-tag-ne-SEQUENCE-via-else-tag-ne-SEQUENCE+then-rest-from}

-- a head of this tag
at_tag : (tag size : ℕ) → tag ≡ 0x30 → IsHead tag size → IsHead 0x30 size
at_tag tag size is head = subst (λ t. IsHead t size) is head

text_at : (octets : List ℕ) (tag size : ℕ) (rest : List ℕ) → tag ≡ 0x30 → octets ≡ head_octets tag size ++ rest
    → octets ≡ head_octets 0x30 size ++ rest
text_at octets tag size rest is text = subst (λ t. octets ≡ head_octets t size ++ rest) is text

pub returns-in_default-clause-told : goal.returns-in_default-clause-told
returns-in_default-clause-told c =
    λ item like.
    inl (
      c.numbered.ensures.value,
      λ x.
          no_head c.args.octets.now c.in_default.field-0 0x30 (length x.0) c.in_default.ensures.fault
          (begins c.args.octets.now c.args.more item like x.0 x.1),
    )

pub returns-then-tag-ne-SEQUENCE-clause-told : goal.returns-then-tag-ne-SEQUENCE-clause-told
returns-then-tag-ne-SEQUENCE-clause-told c =
    λ item like.
    inl (
      c.numbered-then-tag-ne-SEQUENCE.ensures.value,
      λ x.
          let is = size_is c.args.octets.now c.args.more item like c.in-Ok.tag c.in-Ok.size c.in-Ok.rest.now
          c.in-Ok.ensures.found.0 c.in-Ok.ensures.found.1 x.0 x.1 in
          elim c.then-tag-ne-SEQUENCE.branch [
            | then-tag-ne-SEQUENCE-via-then-tag-ne-SEQUENCE w ↦ omega (arith, is.0, w.if-tag-ne-SEQUENCE.true)
            | then-tag-ne-SEQUENCE-via-else-tag-ne-SEQUENCE+then-rest-from w ↦
                omega (arith, is.2, w.from.ensures, w.from-else-tag-ne-SEQUENCE.ensures, w.if-rest-from.true)
          ],
    )

pub returns-then-size-gt-MOST_CONTENTS-clause-told : goal.returns-then-size-gt-MOST_CONTENTS-clause-told
returns-then-size-gt-MOST_CONTENTS-clause-told c =
    λ item like.
    let found = item_of c.args.octets.now c.args.more item like c.in-Ok.size c.in-Ok.rest.now (at_tag c.in-Ok.tag c.in-Ok.size c.if-tag-ne-SEQUENCE.false c.in-Ok.ensures.found.0)
    (text_at c.args.octets.now c.in-Ok.tag c.in-Ok.size c.in-Ok.rest.now c.if-tag-ne-SEQUENCE.false c.in-Ok.ensures.found.1)
    (omega (arith, c.from.ensures, c.from-else-tag-ne-SEQUENCE.ensures, c.if-rest-from.false)) in
    inr (
      (found.0, found.1),
      inl (
        c.numbered-then-size-gt-MOST_CONTENTS.ensures.value,
        λ x.
            let is = size_is c.args.octets.now c.args.more item like c.in-Ok.tag c.in-Ok.size c.in-Ok.rest.now
            c.in-Ok.ensures.found.0 c.in-Ok.ensures.found.1 x.0 x.1 in
            omega (arith, is.1, x.2, c.if-size-gt-MOST_CONTENTS.true),
      ),
    )

pub returns-clause-told : goal.returns-clause-told
returns-clause-told c =
    λ item like.
    let found = item_of c.args.octets.now c.args.more item like c.in-Ok.size c.in-Ok.rest.now (at_tag c.in-Ok.tag c.in-Ok.size c.if-tag-ne-SEQUENCE.false c.in-Ok.ensures.found.0)
    (text_at c.args.octets.now c.in-Ok.tag c.in-Ok.size c.in-Ok.rest.now c.if-tag-ne-SEQUENCE.false c.in-Ok.ensures.found.1)
    (omega (arith, c.from.ensures, c.from-else-tag-ne-SEQUENCE.ensures, c.if-rest-from.false)) in
    ((found.0, found.1), ((found.0, found.1, omega (arith, found.2, c.if-size-gt-MOST_CONTENTS.false)), tt))
