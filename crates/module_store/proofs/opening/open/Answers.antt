use Rattle.std.proofs.Common.{◌∙◌, sym, subst, ℕ, List}
use Rattle.edge_board.proofs.RunLemmas.{only_start, touch, touch_then}
use Rattle.module_store.specs.Store.{IsOwnedBy, HoldsNoModule}
use Rattle.module_store.proofs.Owners.{held_by_none, no_store}
use Rattle.module_store.proofs.opening.open.Goals as goal

pub read_banks-requires-clause-owned : goal.read_banks-requires-clause-owned
read_banks-requires-clause-owned g c = λ told.
    subst (λ (l : List ℕ). IsOwnedBy l c.in-Some.owner) (sym (c.read_owner.ensures.unchanged told))
    ((c.in_ok-owner.ensures.owner told c.in-Some.owner).0 c.in-Some.is)

pub returns-clause-not_a_module : goal.returns-clause-not_a_module
returns-clause-not_a_module g c = λ told refused.
    subst (λ (l : List ℕ). HoldsNoModule l) (c.read_owner.ensures.unchanged told ∙ c.sync.ensures.syncs.cells told)
    (c.read_banks.ensures.none told refused)

pub returns-clause-refuses : goal.returns-clause-refuses
returns-clause-refuses g c = λ told none.
    no_store (g.B.Board.view c.read_owner.new.board).cells c.read_banks.result (c.read_banks.ensures.store told)
    (subst (λ (l : List ℕ). HoldsNoModule l) (sym (c.read_owner.ensures.unchanged told ∙ c.sync.ensures.syncs.cells told)) none)

pub returns-clause-touches : goal.returns-clause-touches
returns-clause-touches g c =
    touch_then _ _ _ (touch _ _ (g.met.B.Board.honest c.args.board.now) c.sync.ensures.syncs.effect)
    (touch_then _ _ _ c.read_owner.ensures.touches c.read_banks.ensures.touches)

pub returns-clause-only_image : goal.returns-clause-only_image
returns-clause-only_image g c = λ told settled. only_start _ _ told settled
    (touch_then _ _ _ (touch _ _ (g.met.B.Board.honest c.args.board.now) c.sync.ensures.syncs.effect)
    (touch_then _ _ _ c.read_owner.ensures.touches c.read_banks.ensures.touches))

pub returns-in_default-clause-not_a_module : goal.returns-in_default-clause-not_a_module
returns-in_default-clause-not_a_module g c = λ told refused.
    subst (λ (l : List ℕ). HoldsNoModule l) (c.sync.ensures.syncs.cells told)
    (held_by_none _ c.in_ok-owner.field-0 (c.in_ok-owner.ensures.owner told) c.in_default.not-Some)

pub returns-in_default-clause-only_image : goal.returns-in_default-clause-only_image
returns-in_default-clause-only_image g c = λ told settled. only_start _ _ told settled
    (touch_then _ _ _ (touch _ _ (g.met.B.Board.honest c.args.board.now) c.sync.ensures.syncs.effect)
    c.read_owner.ensures.touches)
