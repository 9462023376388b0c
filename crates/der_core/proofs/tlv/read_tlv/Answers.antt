use Rattle.std.proofs.Common.{arith, ap, length}
use Rattle.std.proofs.lemmas.List.{length-append}
use Rattle.der_core.specs.Element.{enc}
use Rattle.der_core.proofs.Places.{is_first, length-enc}
use Rattle.der_core.proofs.tlv.read_tlv.Goals as goal

pub overflow_sub-result : goal.overflow_sub-result
overflow_sub-result c =
    let found = c.in_ok-tag.ensures.found in
    omega (
      arith,
      ap length found.1,
      length-append (enc c.in_ok-tag.tag c.in_ok-tag.contents.now) c.in_ok-tag.rest.now,
      length-enc c.in_ok-tag.tag c.in_ok-tag.contents.now,
    )

pub returns-clause-found : goal.returns-clause-found
returns-clause-found c =
    let found = c.in_ok-tag.ensures.found in
    is_first c.args.bytes.now c.in_ok-tag.tag c.in_ok-tag.contents.now c.in_ok-tag.rest.now found.0 found.1
