use Rattle.bank_store.proofs.Reading.{some_module_found, no_module_found}
use Rattle.bank_store.proofs.open.is_modules.Goals as goal

pub returns-clause-held : goal.returns-clause-held
returns-clause-held g c = λ told. some_module_found _ c.open.result (c.open.ensures.store told) c.told_by.result
    c.told_by.ensures.held

pub returns-clause-none : goal.returns-clause-none
returns-clause-none g c = λ told. no_module_found _ c.open.result (c.open.ensures.not_a_module told) c.told_by.result
    c.told_by.ensures.none
