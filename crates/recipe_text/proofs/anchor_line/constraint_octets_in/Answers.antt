use Rattle.std.proofs.Common.{sym, ◌∙◌, codes, arith}
use Rattle.recipe_text.proofs.Anchors.{dash_read, short_unread, short_long, short_read}
use Rattle.recipe_text.proofs.KeyLines.{word_is}
use Rattle.recipe_text.proofs.Names.{isnt_word}
use Rattle.recipe_text.proofs.anchor_line.constraint_octets_in.Goals as goal

pub returns-then-is_word : goal.returns-then-is_word
returns-then-is_word c = record {
  exact = dash_read c.args.word.now (word_is c.args.word.now (codes "-") (sym c.is_word.ensures ∙ c.if-is_word.true));
}

pub returns-in_default : goal.returns-in_default
returns-in_default c = record {
  exact = short_unread c.args.word.now
      (isnt_word c.args.word.now (codes "-") c.is_word.result c.is_word.ensures c.if-is_word.false)
      (rw c.in_default.is at c.in_ok-octets.ensures.exact);
}

pub returns-then-len-gt-MOST_CONSTRAINTS : goal.returns-then-len-gt-MOST_CONSTRAINTS
returns-then-len-gt-MOST_CONSTRAINTS c = record {
  exact = short_long c.args.word.now
      (isnt_word c.args.word.now (codes "-") c.is_word.result c.is_word.ensures c.if-is_word.false)
      c.in-Some.octets.items (rw c.in-Some.is at c.in_ok-octets.ensures.exact) (grind arith);
}

pub returns : goal.returns
returns c = record {
  exact = short_read c.args.word.now
      (isnt_word c.args.word.now (codes "-") c.is_word.result c.is_word.ensures c.if-is_word.false)
      c.in-Some.octets.items (rw c.in-Some.is at c.in_ok-octets.ensures.exact) (grind arith);
}
