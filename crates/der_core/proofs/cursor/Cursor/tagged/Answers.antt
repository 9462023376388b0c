use Rattle.std.proofs.Common.{◌≡◌, ◌∙◌}
use Rattle.der_core.proofs.Theorems.{other_tag}
use Rattle.der_core.proofs.cursor.Cursor.tagged.Goals as goal

pub returns-then-found-tag-clause-absent : goal.returns-then-found-tag-clause-absent
returns-then-found-tag-clause-absent c =
    let passed = c.in_ok-found.ensures.element in
    let same : c.args.self.now ≡ c.new-ahead.result = cc (c.self.view_is, c.new-ahead.ensures.all) in
    other_tag c.args.tag c.in_ok-found.found c.in_ok-found.contents.now _ _ _ passed.0 passed.1
    (same ∙ passed.2) c.if-found-tag.true
