use Rattle.std.proofs.Common.{arith, sym}
use Rattle.explain_text.proofs.Numbered.{last_after}
use Rattle.explain_text.proofs.keys.last_up_to.Goals as goal

pub returns-else-count-eq0-clause-last : goal.returns-else-count-eq0-clause-last
returns-else-count-eq0-clause-last c =
    last_after c.args.keys.now c.requires.ordered c.args.id.now c.args.number c.count_up_to-count.result
    c.count_up_to-count.ensures.bound c.count_up_to-count.ensures.parted c.index-keys-count.result
    (omega (arith, c.if-count-eq0.false)) (sym c.index-keys-count.is)
