use Rattle.std.proofs.Common.{◌∙◌, sym, codes, refl}
use Rattle.recipe_text.specs.PackageReading.{draft_parts, grow}
use Rattle.recipe_text.specs.PackageRecipe.{IsPackageFit}
use Rattle.recipe_text.proofs.KeyLines.{word_is}
use Rattle.recipe_text.proofs.Names.{isnt_word}
use Rattle.recipe_text.proofs.PackageLines.{no_line, no_kind, value_line, line_value}
use Rattle.recipe_text.proofs.PackagePlaces.{wrap_takes}
use Rattle.recipe_text.proofs.Taking.{if_ok_takes}
use Rattle.recipe_text.proofs.package_draft.PackageDraft.take.Goals as goal

pub returns-then-is_word : goal.returns-then-is_word
returns-then-is_word c = record {
  takes = wrap_takes (draft_parts c.args.self.now) (draft_parts c.take_wrap.new.self) c.requires.fit c.args.line.now
      (word_is c.args.line.now (codes "wrap") (sym c.is_word.ensures ∙ c.if-is_word.true)) c.args.self.now.wrap
      c.take_wrap.result refl c.take_wrap.ensures.fills c.take_wrap.ensures.filled;
}

pub returns-in_default : goal.returns-in_default
returns-in_default c = record {
  takes = λ e said fit. no_line c.args.line.now
      (isnt_word c.args.line.now (codes "wrap") c.is_word.result c.is_word.ensures c.if-is_word.false)
      c.in_default.ensures.exact e said;
}

pub returns-in_default-kind_named : goal.returns-in_default-kind_named
returns-in_default-kind_named c = record {
  takes = λ e said fit. no_kind c.args.line.now c.in-Some.name.now c.in-Some.text.now c.in-Some.ensures.exact
      c.in_default-kind_named.ensures.exact e said;
}

pub returns : goal.returns
returns c =
    let line = c.args.line.now in
    let name = c.in-Some.name.now in
    let text = c.in-Some.text.now in
    let kind = c.in-Some-kind_named.kind in
    record {
      takes = if_ok_takes _ _ IsPackageFit grow _ _ c.take_value.result
          (value_line line name text kind c.in-Some.ensures.exact c.in-Some-kind_named.ensures.exact)
          (line_value line name text kind c.in-Some.ensures.exact c.in-Some-kind_named.ensures.exact)
          c.take_value.ensures.takes;
    }
