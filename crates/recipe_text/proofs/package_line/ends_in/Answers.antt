use Rattle.recipe_text.specs.Words.{IsHex64}
use Rattle.recipe_text.proofs.WordLemmas.{pair_uncut, pair_no_first, pair_no_second, pair_some, hex64_without}
use Rattle.recipe_text.proofs.package_line.ends_in.Goals as goal

pub returns-in_default : goal.returns-in_default
returns-in_default c = record {
  exact = (pair_uncut IsHex64 IsHex64 hex64_without c.args.text.now c.in_default.ensures.exact);
}

pub returns-in_default-2 : goal.returns-in_default-2
returns-in_default-2 c = record {
  exact = (pair_no_first IsHex64 IsHex64 hex64_without c.args.text.now c.in-Some.first.now c.in-Some.last.now c.in-Some.ensures.exact
      (rw c.in_default-2.is at c.in_ok-low.ensures.exact));
}

pub returns-in_default-3 : goal.returns-in_default-3
returns-in_default-3 c = record {
  exact = (pair_no_second IsHex64 IsHex64 hex64_without c.args.text.now c.in-Some.first.now c.in-Some.last.now c.in-Some.ensures.exact
      (rw c.in_default-3.is at c.in_ok-high.ensures.exact));
}

pub returns : goal.returns
returns c = record {
  exact = (pair_some IsHex64 IsHex64 hex64_without c.args.text.now c.in-Some.first.now c.in-Some.last.now c.in-Some.ensures.exact
      c.in-Some-2.low c.in-Some-3.high (rw c.in-Some-2.is at c.in_ok-low.ensures.exact)
      (rw c.in-Some-3.is at c.in_ok-high.ensures.exact));
}
