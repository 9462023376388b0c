use Rattle.std.proofs.Common.{length}
use Rattle.recipe_text.specs.ModuleReading.{draft_parts}
use Rattle.recipe_text.specs.ModuleRecipe.{IsModuleFit, IsModuleLine, module_parts}
use Rattle.recipe_text.proofs.Going.{Going}
use Rattle.recipe_text.proofs.module_recipe.read_module_recipe.Given as goal

-- the draft keeps what the lines so far say
abbrev pub invariant-loop-line : goal.invariant-loop-line
invariant-loop-line l =
    Going IsModuleLine module_parts IsModuleFit l.fn.text l.lines.rest l.lines.number (draft_parts l.draft)

abbrev pub decreases-loop-line : goal.decreases-loop-line
decreases-loop-line l = length l.lines.rest
