use Rattle.std.proofs.Common.{arith}
use Rattle.recipe_text.proofs.WordLemmas.{image_some, image_none, image_unread}
use Rattle.recipe_text.proofs.package_line.image_in.Goals as goal

pub returns-in_default : goal.returns-in_default
returns-in_default c = record {
  exact = image_unread c.args.word.now (rw c.in_default.is at c.in_ok-octets.ensures.exact);
}

pub returns-then-len-gt-IMAGE_MOST : goal.returns-then-len-gt-IMAGE_MOST
returns-then-len-gt-IMAGE_MOST c = record {
  exact = image_none c.args.word.now c.in-Some.octets.items (rw c.in-Some.is at c.in_ok-octets.ensures.exact)
      (λ few. omega (arith, few, c.len.ensures, c.in-Some.octets.ok.0, c.if-len-gt-IMAGE_MOST.true));
}

pub returns : goal.returns
returns c = record {
  exact = image_some c.args.word.now c.in-Some.octets.items (rw c.in-Some.is at c.in_ok-octets.ensures.exact)
      (omega (arith, c.len.ensures, c.in-Some.octets.ok.0, c.if-len-gt-IMAGE_MOST.false));
}
