use Rattle.recipe_text.specs.ModuleReading.{grow}
use Rattle.recipe_text.specs.ModuleRecipe.{IsModuleFit}
use Rattle.recipe_text.proofs.ModuleLines.{no_line, no_kind, value_line, line_value}
use Rattle.recipe_text.proofs.Taking.{if_ok_takes}
use Rattle.recipe_text.proofs.module_draft.ModuleDraft.take.Goals as goal

pub returns-in_default : goal.returns-in_default
returns-in_default c = record {
  takes = λ e said fit. no_line c.args.line.now c.in_default.ensures.exact e said;
}

pub returns-in_default-kind_named : goal.returns-in_default-kind_named
returns-in_default-kind_named c = record {
  takes = λ e said fit. no_kind c.args.line.now c.in-Some.name.now c.in-Some.text.now c.in-Some.ensures.exact
      c.in_default-kind_named.ensures.exact e said;
}

pub returns : goal.returns
returns c =
    let line = c.args.line.now in
    let name = c.in-Some.name.now in
    let text = c.in-Some.text.now in
    let kind = c.in-Some-kind_named.kind in
    record {
      takes = if_ok_takes _ _ IsModuleFit grow _ _ c.take_value.result
          (value_line line name text kind c.in-Some.ensures.exact c.in-Some-kind_named.ensures.exact)
          (line_value line name text kind c.in-Some.ensures.exact c.in-Some-kind_named.ensures.exact)
          c.take_value.ensures.takes;
    }
