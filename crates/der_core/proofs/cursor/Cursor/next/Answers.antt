use Rattle.std.proofs.Common.{length, arith, ap}
use Rattle.std.proofs.lemmas.List.{length-append}
use Rattle.der_core.specs.Element.{enc}
use Rattle.der_core.proofs.Places.{length-enc}
use Rattle.der_core.proofs.cursor.Cursor.next.Goals as goal

pub returns-in-Ok-clause-shorter : goal.returns-in-Ok-clause-shorter
returns-in-Ok-clause-shorter c =
    let text = c.in-Ok.ensures.found.1 in
    omega (
      arith,
      ap length text,
      length-append (enc c.in-Ok.tag c.in-Ok.contents.now) c.in-Ok.rest.now,
      length-enc c.in-Ok.tag c.in-Ok.contents.now,
      ap length c.self.view_is,
    )
