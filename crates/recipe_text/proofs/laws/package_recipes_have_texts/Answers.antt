use Rattle.recipe_text.proofs.PackagePlans.{plan_texts}
use Rattle.recipe_text.proofs.laws.package_recipes_have_texts.Goals as goal

pub returns : goal.returns
returns c = record { texts = plan_texts }
