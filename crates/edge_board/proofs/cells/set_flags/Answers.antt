use Rattle.std.proofs.Common.{true, ◌≡◌, ◌+◌, ◌-◌, ◌∙◌, sym, ap, arith, ℕ}
use Rattle.edge_board.specs.Events.{filled}
use Rattle.edge_board.proofs.Filled.{filled_turn, filled_none}
use Rattle.edge_board.proofs.cells.set_flags.Goals as goal

pub loop-i-preserved : goal.loop-i-preserved
loop-i-preserved c = filled_turn c.loop-i.i (c.args.at + c.args.count) true c.loop-i.flags
    c.loop-i-test.true ∙ c.loop-i.invariant

pub returns : goal.returns
returns c =
    let none : c.args.at + c.args.count - c.loop-i.i ≡ 0 = omega arith in
    sym (filled_none c.loop-i.i true c.loop-i.flags)
    ∙ ap (λ (k : ℕ). filled c.loop-i.i k true c.loop-i.flags) (sym none) ∙ c.loop-i.invariant
