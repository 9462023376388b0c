use Rattle.std.proofs.Common.{◌≡◌, ◌∷◌, ◌++◌, [], true, length-append, arith, rules}
use Rattle.recipe_text.specs.Lines.{is_skipped}
use Rattle.recipe_text.proofs.Texts.{skip_more}
use Rattle.recipe_text.proofs.lines.Lines.next.Goals as goal

pub loop-line-preserved : goal.loop-line-preserved
loop-line-preserved c =
    let line = c.in-Some.line.now in
    let skipped = c.loop-line.invariant.0 in
    let passed = c.in-Some.ensures.found in
    let skip : is_skipped line ≡ true = search rules in (
      skipped ++ line ∷ [],
      skip_more _ c.loop-line.self.rest line c.pass.new.self.rest skipped c.loop-line.invariant.1 passed.0 passed.1
          skip,
      omega (arith, length-append skipped (line ∷ []), c.loop-line.invariant.2, passed.2),
    )
