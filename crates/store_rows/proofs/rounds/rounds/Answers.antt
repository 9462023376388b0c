use Rattle.std.proofs.Common.{ℕ, List, sym, subst, rules}
use Rattle.edge_board.specs.Board.{IsSettled}
use Rattle.edge_board.specs.MemBoard.{mem_view}
use Rattle.module_store.specs.Store.{IsStoreOf}
use Rattle.store_rows.proofs.rounds.rounds.Goals as goal

pub rounds_on-requires : goal.rounds_on-requires
rounds_on-requires c =
    let settled : IsSettled (mem_view c.open.new.board) = search rules in
    record {
      in_step = record {
        valid = c.in-Ok.ensures.valid;
        quiet = c.in-Ok.ensures.quiet;
        blocks = c.in-Ok.ensures.blocks;
        settled = settled;
        holds = subst (λ (l : List ℕ). IsStoreOf c.in-Ok.store l) (sym (c.open.ensures.unchanged tt))
            (c.in-Ok.ensures.store tt);
      };
    }
