use Rattle.recipe_text.proofs.CertOne.{one_certificate_plan}
use Rattle.recipe_text.proofs.KeyRecipes.{one_key_recipe}
use Rattle.recipe_text.proofs.ModuleOne.{one_module}
use Rattle.recipe_text.proofs.PackageOne.{one_package_plan}
use Rattle.recipe_text.proofs.RecipeLaws.{one_bad_key_line, one_bad_certificate_line, one_bad_package_line}
use Rattle.recipe_text.proofs.RecipeLaws.{one_bad_module_line}
use Rattle.recipe_text.proofs.laws.recipes_say_one_thing.Goals as goal

pub returns : goal.returns
returns c = record {
  keys = one_key_recipe;
  certificates = one_certificate_plan c.one_time.ensures.generalized c.keys_have_one_text_each.ensures;
  packages = one_package_plan;
  modules = one_module c.one_constraints_text.ensures.unique;
  key_lines = one_bad_key_line;
  certificate_lines = one_bad_certificate_line;
  package_lines = one_bad_package_line;
  module_lines = one_bad_module_line;
}
