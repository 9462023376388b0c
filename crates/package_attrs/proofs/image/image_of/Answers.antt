use Rattle.std.proofs.Common.{arith}
use Rattle.package_attrs.proofs.ReadingLemmas.{unwrapped, kept}
use Rattle.package_attrs.proofs.image.image_of.Goals as goal

pub returns-in-Some : goal.returns-in-Some
returns-in-Some c = record {
  image =
      unwrapped c.args.content.now c.in-Some.image.now (λ i. omega (arith, c.type_inv.content i))
      c.in-Some.ensures.exact;
}

pub returns-in-None : goal.returns-in-None
returns-in-None c = record { image = kept c.args.content.now c.in-None.ensures.exact }
