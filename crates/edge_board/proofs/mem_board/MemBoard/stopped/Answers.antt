use Rattle.std.proofs.Common.{ℕ, List, Bool, length, sym, ◌∙◌, ap, subst}
use Rattle.edge_board.specs.Events.{BoardState, IsPending}
use Rattle.edge_board.specs.MemBoard.{mem_view, synced_cells}
use Rattle.edge_board.specs.Picks.{IsPicked, IsPickedBy}
use Rattle.edge_board.proofs.MemCalls.{long_cells, long_pending, long_synced, cells_are, is_picked, kept_same, if_ok_map}
use Rattle.edge_board.proofs.mem_board.MemBoard.stopped.Goals as goal

pub pick_cells-requires-clause-pending : goal.pick_cells-requires-clause-pending
pick_cells-requires-clause-pending c =
    ap length c.deref.ensures.value ∙ long_pending c.args.self ∙ sym (long_cells c.args.self)

pub pick_cells-requires-clause-synced : goal.pick_cells-requires-clause-synced
pick_cells-requires-clause-synced c =
    ap length c.deref-2.ensures.value ∙ long_synced c.args.self ∙ sym (long_cells c.args.self)

pub with_cells-requires-clause-size : goal.with_cells-requires-clause-size
with_cells-requires-clause-size c = c.pick_cells.ensures.size ∙ long_cells c.args.self

pub returns-clause-image : goal.returns-clause-image
returns-clause-image c =
    let by = subst (λ (ps : List Bool). IsPickedBy c.args.pick ps c.args.self.cells.items
    c.args.self.synced.items c.pick_cells.new.cells.items) c.deref.ensures.value
    (subst (λ (ss : List ℕ). IsPickedBy c.args.pick c.deref.result.now c.args.self.cells.items ss
    c.pick_cells.new.cells.items) c.deref-2.ensures.value c.pick_cells.ensures) in
    let picked = subst (λ (st : BoardState). IsPicked c.args.pick (IsPending st) st.cells st.synced
    c.pick_cells.new.cells.items) (sym c.args.self.stands)
    (is_picked c.args.self.cells.items c.args.self.pending.items c.args.self.synced.items
    c.pick_cells.new.cells.items c.args.pick by) in
    if_ok_map c.with_cells.result c.with_cells.ensures.begins (λ b begins.
    subst (λ (l : List ℕ). IsPicked c.args.pick (mem_view c.args.self).pending
    (mem_view c.args.self).cells (synced_cells c.args.self) l) (sym begins.cells) picked)

pub returns-clause-keep : goal.returns-clause-keep
returns-clause-keep c = λ keep.
    let by = subst (λ p. IsPickedBy p c.deref.result.now c.args.self.cells.items
    c.deref-2.result.now c.pick_cells.new.cells.items) keep c.pick_cells.ensures in
    if_ok_map c.with_cells.result c.with_cells.ensures.begins
    (λ b begins. begins.cells ∙ kept_same _ _ _ _ by ∙ sym (cells_are c.args.self))
