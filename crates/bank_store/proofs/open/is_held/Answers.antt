use Rattle.std.proofs.Common.{refl, sym, ◌∙◌}
use Rattle.std.proofs.lemmas.Bool.{false≢true}
use Rattle.edge_board.proofs.RunLemmas.{only_start, touch_then}
use Rattle.bank_store.proofs.Reading.{held_by_key, held_by_no_key, held_where_true, free_where_false}
use Rattle.bank_store.proofs.open.is_held.Goals as goal

pub returns-then-is_some-clause-held : goal.returns-then-is_some-clause-held
returns-then-is_some-clause-held g c = λ told. (
  λ _. held_by_key _ c.in_ok-held_key.field-0 (c.in_ok-held_key.ensures.key told)
      (sym c.is_some.ensures ∙ c.if-is_some.true),
  λ _. refl,
)

pub returns-then-is_some-clause-nobody : goal.returns-then-is_some-clause-nobody
returns-then-is_some-clause-nobody g c = λ told. (
  λ is. absurd (false≢true (sym is)),
  λ free. absurd (held_by_key _ c.in_ok-held_key.field-0 (c.in_ok-held_key.ensures.key told)
      (sym c.is_some.ensures ∙ c.if-is_some.true) free),
)

pub returns-then-is_some-clause-only_image : goal.returns-then-is_some-clause-only_image
returns-then-is_some-clause-only_image g c = λ told settled. only_start _ _ told settled c.held_key.ensures.touches

pub returns-clause-held : goal.returns-clause-held
returns-clause-held g c = λ told. held_where_true _ _ (c.in_ok-held_key.ensures.unchanged told)
    (held_by_no_key _ c.in_ok-held_key.field-0 (c.in_ok-held_key.ensures.none told)
    (sym c.is_some.ensures ∙ c.if-is_some.false))
    c.is_modules.result (c.is_modules.ensures.held told) (c.is_modules.ensures.none told)

pub returns-clause-nobody : goal.returns-clause-nobody
returns-clause-nobody g c = λ told. free_where_false _ _ (c.in_ok-held_key.ensures.unchanged told)
    (held_by_no_key _ c.in_ok-held_key.field-0 (c.in_ok-held_key.ensures.none told)
    (sym c.is_some.ensures ∙ c.if-is_some.false))
    c.is_modules.result (c.is_modules.ensures.held told) (c.is_modules.ensures.none told)

pub returns-clause-only_image : goal.returns-clause-only_image
returns-clause-only_image g c = λ told settled.
    only_start _ _ told settled (touch_then _ _ _ c.held_key.ensures.touches c.is_modules.ensures.touches)

pub returns-clause-touches : goal.returns-clause-touches
returns-clause-touches g c = touch_then _ _ _ c.held_key.ensures.touches c.is_modules.ensures.touches
