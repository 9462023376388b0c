use Rattle.std.proofs.Common.{◌≡◌, ◌≢◌, ◌+◌, length, sym, ap, subst, arith}
use Rattle.std.proofs.lemmas.List.{nil_from_length}
use Rattle.recipe_text.specs.ModuleReading.{draft_parts, grow}
use Rattle.recipe_text.specs.ModuleRecipe.{IsModuleFit, IsModuleWhole, IsModuleLine, module_parts, plan_parts}
use Rattle.recipe_text.proofs.ModuleLines.{parts_more, closed}
use Rattle.recipe_text.proofs.ModulePlans.{module_view, same_plan, is_whole, limits, short_subjects}
use Rattle.recipe_text.proofs.Going.{going_start, going_on, going_bad, going_end, bad_behind, gives, refuses, plan_recipe}
use Rattle.recipe_text.proofs.Going.{gives_bad, refuses_bad}
use Rattle.recipe_text.proofs.Recipes.{shorter}
use Rattle.recipe_text.proofs.module_recipe.read_module_recipe.Goals as goal

pub loop-line-init : goal.loop-line-init
loop-line-init c =
    let text = c.args.text.now in
    rw c.new-lines.ensures.rest
    (going_start IsModuleLine IsModuleFit IsModuleWhole module_parts grow parts_more closed plan_parts module_view same_plan text c.new-lines.result.number (draft_parts c.new-draft.result) c.new-lines.ensures.number
    c.new-draft.ensures.none (rw c.new-draft.ensures.none (record { hw_types = omega arith; serials = omega arith; capacities = omega arith; keys = omega arith; communities = omega arith; kinds = omega arith; anchors = omega arith })))

pub loop-line-preserved : goal.loop-line-preserved
loop-line-preserved c =
    let f = c.in-Some.ensures.found in
    going_on IsModuleLine IsModuleFit IsModuleWhole module_parts grow parts_more closed plan_parts module_view same_plan c.args.text.now c.loop-line.lines.rest c.loop-line.lines.number (draft_parts c.loop-line.draft)
    c.loop-line.invariant c.in-Some.line.now c.next.new.self.rest f.2 c.next.new.self.number
    (draft_parts c.take.new.self) (record { skips = f.3; whole = f.0; counts = f.1 }) f.4
    (rw c.if-not-branch.false at c.in_ok-take.ensures.takes)

pub loop-line-smaller : goal.loop-line-smaller
loop-line-smaller c =
    let f = c.in-Some.ensures.found in
    shorter c.loop-line.lines.rest c.in-Some.line.now c.next.new.self.rest f.2 f.3

-- a line is bad
pub returns-then-not-branch : goal.returns-then-not-branch
returns-then-not-branch c =
    let text = c.args.text.now in
    let f = c.in-Some.ensures.found in
    let bad = going_bad IsModuleLine IsModuleFit IsModuleWhole module_parts grow parts_more closed plan_parts module_view same_plan text c.loop-line.lines.rest c.loop-line.lines.number (draft_parts c.loop-line.draft)
    c.loop-line.invariant c.in-Some.line.now c.next.new.self.rest f.2 c.next.new.self.number
    (draft_parts c.take.new.self) (record { skips = f.3; whole = f.0; counts = f.1 }) f.4
    (rw c.if-not-branch.true at c.in_ok-take.ensures.takes) in
    record {
      good = gives_bad IsModuleLine IsModuleFit IsModuleWhole module_parts grow parts_more closed plan_parts module_view same_plan text c.next.new.self.number c.here.result bad;
      bad = refuses_bad IsModuleLine IsModuleFit IsModuleWhole module_parts grow parts_more closed plan_parts module_view same_plan text c.next.new.self.number c.here.result c.here.ensures bad;
      valid = tt;
      short = tt;
    }

-- something is left behind the last line
pub returns-then-not-at_end : goal.returns-then-not-at_end
returns-then-not-at_end c =
    let text = c.args.text.now in
    let f = c.in_default.ensures.none in
    let after = c.next.new.self.rest in
    let number = c.next.new.self.number in
    let p = draft_parts c.loop-line.draft in
    let g = going_end IsModuleLine IsModuleFit IsModuleWhole module_parts grow parts_more closed plan_parts module_view same_plan text c.loop-line.lines.rest c.loop-line.lines.number p c.loop-line.invariant after f.1 number
    f.2 f.3 in
    let more : length after ≢ 0 = grind arith in
    let bad = bad_behind IsModuleLine IsModuleFit IsModuleWhole module_parts grow parts_more closed plan_parts module_view same_plan text after number p g f.0 (λ nothing whole. more (ap length nothing)) in
    record {
      good = gives_bad IsModuleLine IsModuleFit IsModuleWhole module_parts grow parts_more closed plan_parts module_view same_plan text (number + 1) c.behind.result bad;
      bad = refuses_bad IsModuleLine IsModuleFit IsModuleWhole module_parts grow parts_more closed plan_parts module_view same_plan text (number + 1) c.behind.result c.behind.ensures bad;
      valid = tt;
      short = tt;
    }

-- a needed line is missing
pub returns-in_default-module : goal.returns-in_default-module
returns-in_default-module c =
    let text = c.args.text.now in
    let f = c.in_default.ensures.none in
    let after = c.next.new.self.rest in
    let number = c.next.new.self.number in
    let p = draft_parts c.loop-line.draft in
    let g = going_end IsModuleLine IsModuleFit IsModuleWhole module_parts grow parts_more closed plan_parts module_view same_plan text c.loop-line.lines.rest c.loop-line.lines.number p c.loop-line.invariant after f.1 number
    f.2 f.3 in
    let bad = bad_behind IsModuleLine IsModuleFit IsModuleWhole module_parts grow parts_more closed plan_parts module_view same_plan text after number p g f.0 (λ nothing whole. c.in_default-module.ensures.missing whole) in
    record {
      good = gives_bad IsModuleLine IsModuleFit IsModuleWhole module_parts grow parts_more closed plan_parts module_view same_plan text (number + 1) c.behind-in_default-module.result bad;
      bad = refuses_bad IsModuleLine IsModuleFit IsModuleWhole module_parts grow parts_more closed plan_parts module_view same_plan text (number + 1) c.behind-in_default-module.result c.behind-in_default-module.ensures bad;
      valid = tt;
      short = tt;
    }

-- the whole is a recipe
pub returns : goal.returns
returns c =
    let text = c.args.text.now in
    let f = c.in_default.ensures.none in
    let after = c.next.new.self.rest in
    let number = c.next.new.self.number in
    let p = draft_parts c.loop-line.draft in
    let plan = c.in-Some-module.made in
    let is = c.in-Some-module.ensures.whole in
    let g = going_end IsModuleLine IsModuleFit IsModuleWhole module_parts grow parts_more closed plan_parts module_view same_plan text c.loop-line.lines.rest c.loop-line.lines.number p c.loop-line.invariant after f.1 number
    f.2 f.3 in
    let none : length after ≡ 0 = grind arith in
    let nothing = nil_from_length after none in
    let whole = subst IsModuleWhole (sym is) (is_whole plan c.in-Some-module.ensures.some) in
    let recipe = plan_recipe IsModuleLine IsModuleFit IsModuleWhole module_parts grow parts_more closed plan_parts module_view same_plan text after number p g nothing whole plan is in
    record {
      good = gives IsModuleLine IsModuleFit IsModuleWhole module_parts grow parts_more closed plan_parts module_view same_plan text after number p g nothing whole plan is;
      bad = refuses IsModuleLine IsModuleFit IsModuleWhole module_parts grow parts_more closed plan_parts module_view same_plan text after number p g nothing whole plan;
      valid = limits text plan recipe;
      short = c.short_modules_have_a_record.ensures.size plan (limits text plan recipe) (short_subjects text plan recipe);
    }
