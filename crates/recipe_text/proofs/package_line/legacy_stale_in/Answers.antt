use Rattle.recipe_text.proofs.PackageWords.{legacy_stale_some, legacy_stale_none}
use Rattle.recipe_text.proofs.package_line.legacy_stale_in.Goals as goal

pub returns-in_default : goal.returns-in_default
returns-in_default c = record {
  exact = legacy_stale_none c.args.text.now (rw c.in_default.is at c.in_ok-octets.ensures.exact);
}

pub returns : goal.returns
returns c = record {
  exact = legacy_stale_some c.args.text.now c.in-Some.octets (rw c.in-Some.is at c.in_ok-octets.ensures.exact);
}
