use Rattle.std.proofs.Common.{◌++◌, List, ℕ, ap, ◌∙◌}
use Rattle.der_core.specs.Objects.{oid_contents, subidentifier}
use Rattle.recipe_text.proofs.Oids.{no_word, no_tail, is_word_of}
use Rattle.recipe_text.proofs.oid_word.oid_in.Goals as goal

pub returns-in_default : goal.returns-in_default
returns-in_default c = record { exact = no_word c.args.word.now c.in_default.ensures.none }

pub returns-then-not-are : goal.returns-then-not-are
returns-then-not-are c =
    let spells = rw c.if-not-are.true at c.in_ok-are.ensures.spelled in
    record { exact = no_tail c.args.word.now c.in-Some.first _ c.in-Some.ensures.found spells }

pub returns : goal.returns
returns c =
    let spells = rw c.if-not-are.false at c.in_ok-are.ensures.spelled in
    let first = c.in_ok-put_subidentifier.ensures.ok
    ∙ ap (λ (x : List ℕ). x ++ subidentifier c.in-Some.first) c.new-contents.ensures.items in
    record {
      exact = is_word_of c.args.word.now c.in-Some.first _ c.in-Some.ensures.found spells.0 c.deref.result.now spells.1
          spells.2 (c.deref.ensures.value ∙ spells.3 ∙ ap (λ (x : List ℕ). x ++ oid_contents spells.0) first)
          c.read_oid.result c.read_oid.ensures.found;
    }
