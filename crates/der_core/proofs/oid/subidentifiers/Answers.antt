use Rattle.std.proofs.Common.{◌∙◌}
use Rattle.std.proofs.lemmas.List.{drop_more, drop_all}
use Rattle.der_core.proofs.Objects.{IsOid-read, stuck, one_more, same_one, all_read}
use Rattle.der_core.proofs.oid.subidentifiers.Goals as goal
use Rattle.der_core.proofs.oid.subidentifiers.Goals.{then-octet-lt128+in_ok-push, else-octet-lt128}

pub unreachable-requires : goal.unreachable-requires
unreachable-requires c =
    let here = drop_more c.args.octets.now c.loop-octet.octet-index 0 c.loop-octet-test.true in
    stuck c.args.octets.now c.loop-octet.numbers.items _ _ _ (IsOid-read c.args.octets.now c.requires)
    (rw here at c.loop-octet.invariant) c.in_default.ensures.exact

pub loop-octet-preserved : goal.loop-octet-preserved
loop-octet-preserved c =
    let here = drop_more c.args.octets.now c.loop-octet.octet-index 0 c.loop-octet-test.true in
    elim c.if-octet-lt128.branch [
      | then-octet-lt128+in_ok-push w ↦
          rw (w.numbers-is, w.number-is, w.in_ok-push.ensures.items)
          (c.loop-octet.invariant
          ∙ rw here (one_more c.loop-octet.numbers.items _ _ _ _ w.if-octet-lt128.true c.in-Some.ensures.exact))
      | else-octet-lt128 w ↦
          rw (w.numbers-is, w.number-is)
          (c.loop-octet.invariant
          ∙ rw here (same_one c.loop-octet.numbers.items _ _ _ _ w.if-octet-lt128.false c.in-Some.ensures.exact))
    ]

pub returns : goal.returns
returns c =
    let none = drop_all c.loop-octet.octet-index c.args.octets.now c.loop-octet-test.false in
    all_read c.args.octets.now c.loop-octet.numbers.items c.loop-octet.number
    (IsOid-read c.args.octets.now c.requires) (rw none at c.loop-octet.invariant)
