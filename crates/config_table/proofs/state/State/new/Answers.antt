use Rattle.config_table.specs.State.{last_stale}
use Rattle.config_table.proofs.KeyedLemmas.{keyed-empty}
use Rattle.config_table.proofs.state.State.new.Goals as goal

pub invariant_of-result : goal.invariant_of-result
invariant_of-result c =
    (keyed-empty (λ i. i.name) _ c.new.ensures.empty, keyed-empty last_stale _ c.new-2.ensures.empty)
