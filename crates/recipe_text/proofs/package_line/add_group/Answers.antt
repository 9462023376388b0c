use Rattle.recipe_text.proofs.PackagePlaces.{adds_one, adds_none}
use Rattle.recipe_text.proofs.PackageWords.{group_some, group_none}
use Rattle.recipe_text.proofs.package_line.add_group.Goals as goal

pub returns-in_default : goal.returns-in_default
returns-in_default c = record {
  adds = adds_none _ c.args.text.now _ _
      (group_none c.args.text.now (rw c.in_default.is at c.in_ok-id.ensures.exact));
}

pub returns : goal.returns
returns c = record {
  adds = adds_one _ c.args.text.now _ _ _ c.add_community.result
      (group_some c.args.text.now c.in-Some.id (rw c.in-Some.is at c.in_ok-id.ensures.exact))
      c.add_community.ensures.adds c.add_community.ensures.put;
}
