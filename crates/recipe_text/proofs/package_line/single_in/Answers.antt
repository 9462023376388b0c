use Rattle.recipe_text.proofs.PackageWords.{single_some, single_none}
use Rattle.recipe_text.proofs.package_line.single_in.Goals as goal

pub returns-in_default : goal.returns-in_default
returns-in_default c = record {
  exact = single_none c.args.text.now (rw c.in_default.is at c.in_ok-serial.ensures.exact);
}

pub returns : goal.returns
returns c = record {
  exact = single_some c.args.text.now c.in-Some.serial (rw c.in-Some.is at c.in_ok-serial.ensures.exact);
}
