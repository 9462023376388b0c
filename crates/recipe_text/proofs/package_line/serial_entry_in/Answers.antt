use Rattle.std.proofs.Common.{◌∙◌, sym, codes}
use Rattle.recipe_text.specs.PackageReading.{IsSingle, IsBlock}
use Rattle.recipe_text.specs.PackageRecipe.{IsSerialText}
use Rattle.recipe_text.proofs.KeyLines.{word_is}
use Rattle.recipe_text.proofs.Names.{isnt_word}
use Rattle.recipe_text.proofs.PackageWords.{serial_uncut, serial_single, serial_block, serial_none}
use Rattle.recipe_text.proofs.WordLemmas.{if_exact}
use Rattle.recipe_text.proofs.package_line.serial_entry_in.Goals as goal

pub returns-in_default : goal.returns-in_default
returns-in_default c = record {
  exact = serial_uncut c.args.text.now
      (isnt_word c.args.text.now (codes "all") c.is_word.result c.is_word.ensures c.if-is_word.false)
      c.in_default.ensures.exact;
}

pub returns-then-is_word-2 : goal.returns-then-is_word-2
returns-then-is_word-2 c =
    let word = c.in-Some.word.now in
    let rest = c.in-Some.rest.now in
    record {
      exact = if_exact (IsSingle rest) (IsSerialText c.args.text.now) c.single_in.result
          (serial_single c.args.text.now word rest c.in-Some.ensures.exact
          (word_is word (codes "single") (sym c.is_word-2.ensures ∙ c.if-is_word-2.true)))
          c.single_in.ensures.exact;
    }

pub returns-then-is_word-3 : goal.returns-then-is_word-3
returns-then-is_word-3 c =
    let word = c.in-Some.word.now in
    let rest = c.in-Some.rest.now in
    record {
      exact = if_exact (IsBlock rest) (IsSerialText c.args.text.now) c.block_in.result
          (serial_block c.args.text.now word rest c.in-Some.ensures.exact
          (word_is word (codes "block") (sym c.is_word-3.ensures ∙ c.if-is_word-3.true)))
          c.block_in.ensures.exact;
    }

pub returns : goal.returns
returns c =
    let word = c.in-Some.word.now in
    record {
      exact = serial_none c.args.text.now word c.in-Some.rest.now c.in-Some.ensures.exact
          (isnt_word word (codes "single") c.is_word-2.result c.is_word-2.ensures c.if-is_word-2.false)
          (isnt_word word (codes "block") c.is_word-3.result c.is_word-3.ensures c.if-is_word-3.false);
    }
