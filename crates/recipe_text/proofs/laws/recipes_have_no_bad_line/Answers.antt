use Rattle.recipe_text.proofs.RecipeLaws.{certificate_has_no_bad_line, package_has_no_bad_line, module_has_no_bad_line}
use Rattle.recipe_text.proofs.KeyRecipes.{key_has_no_bad_line}
use Rattle.recipe_text.proofs.laws.recipes_have_no_bad_line.Goals as goal

pub returns-clause-certificates : goal.returns-clause-certificates
returns-clause-certificates c = certificate_has_no_bad_line

pub returns-clause-packages : goal.returns-clause-packages
returns-clause-packages c = package_has_no_bad_line

pub returns-clause-modules : goal.returns-clause-modules
returns-clause-modules c = module_has_no_bad_line

pub returns-clause-keys : goal.returns-clause-keys
returns-clause-keys c = key_has_no_bad_line
