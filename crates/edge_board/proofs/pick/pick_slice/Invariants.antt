use Rattle.std.proofs.Common.{◌≡◌, ℕ, ◌<◌, ◌≤◌, get_or, false}
use Rattle.edge_board.specs.Picks.{picked_at}
use Rattle.edge_board.proofs.pick.pick_slice.Given as goal

-- the cells so far are picked, and the others as before
abbrev pub invariant-loop-i : goal.invariant-loop-i
invariant-loop-i l = record {
  done : (k : ℕ) → k < l.i
      → get_or l.cells k 0
      ≡ picked_at l.pick (get_or l.fn.cells k 0) (get_or l.pending k false) (get_or l.synced k 0);
  rest : (k : ℕ) → l.i ≤ k → get_or l.cells k 0 ≡ get_or l.fn.cells k 0;
}
