use Rattle.recipe_text.proofs.CertOne.{certificate_plan}
use Rattle.recipe_text.proofs.PackagePlans.{plan_limits}
use Rattle.recipe_text.proofs.laws.recipes_give_plans.Goals as goal

pub returns : goal.returns
returns c = record {
  certificates = λ text plan small recipe. certificate_plan text plan recipe small;
  packages = plan_limits;
}
