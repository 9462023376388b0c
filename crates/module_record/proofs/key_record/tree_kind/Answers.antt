use Rattle.std.proofs.Common.{◌≡◌, arith, rules}
use Rattle.module_record.proofs.KindLaws.{high_tree, known_tree}
use Rattle.module_record.proofs.key_record.tree_kind.Goals as goal

pub returns-then-height-gt10-clause-exact : goal.returns-then-height-gt10-clause-exact
returns-then-height-gt10-clause-exact c =
    let same : c.in-Ok.typecode ≡ c.args.number = search rules in
    high_tree c.args.number c.in_ok-kind.kind (rw same at c.in_ok-kind.ensures.found) (grind arith)

pub returns-clause-exact : goal.returns-clause-exact
returns-clause-exact c =
    let same : c.in-Ok.typecode ≡ c.args.number = search rules in
    known_tree c.args.number c.in_ok-kind.kind (rw same at c.in_ok-kind.ensures.read) (grind arith)
