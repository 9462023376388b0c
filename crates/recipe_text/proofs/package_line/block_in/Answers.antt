use Rattle.recipe_text.proofs.PackageWords.{block_some, block_none}
use Rattle.recipe_text.proofs.package_line.block_in.Goals as goal

pub returns-in_default : goal.returns-in_default
returns-in_default c = record {
  exact = block_none c.args.text.now (rw c.in_default.is at c.in_ok-ends.ensures.exact);
}

pub returns : goal.returns
returns c = record {
  exact = block_some c.args.text.now c.in-Some.ends (rw c.in-Some.is at c.in_ok-ends.ensures.exact);
}
