use Rattle.edge_board.proofs.RunLemmas.{only_start}
use Rattle.bank_store.proofs.Reading.{not_a_key, refuses}
use Rattle.bank_store.proofs.open.open_key.Goals as goal

pub returns-clause-not_a_key : goal.returns-clause-not_a_key
returns-clause-not_a_key g c = λ told.
    not_a_key _ c.in_ok-held_key.field-0 _ c.ok_or.result c.ok_or.ensures.value (c.in_ok-held_key.ensures.none told)

pub returns-clause-refuses : goal.returns-clause-refuses
returns-clause-refuses g c = λ told.
    refuses _ c.in_ok-held_key.field-0 _ c.ok_or.result c.ok_or.ensures.value (c.in_ok-held_key.ensures.key told)

pub returns-clause-only_image : goal.returns-clause-only_image
returns-clause-only_image g c = λ told settled. only_start _ _ told settled c.held_key.ensures.touches
