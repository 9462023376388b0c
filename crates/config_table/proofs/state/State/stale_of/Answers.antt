use Rattle.std.proofs.Common.{Some, option_map, sym, ap, ◌∙◌}
use Rattle.std.specs.Option.{option_copied}
use Rattle.config_table.specs.State.{last_stale, stale_number}
use Rattle.config_table.proofs.KeyedLemmas.{lookup-find}
use Rattle.config_table.proofs.state.State.stale_of.Goals as goal

pub returns-in-Some : goal.returns-in-Some
returns-in-Some c = rw (← c.self.view_is) (
    let found =
    sym (ap option_copied c.in-Some.is) ∙ c.get.ensures.value
    ∙ lookup-find last_stale c.args.name.now c.self.inside.stale.entries c.self.invariant.1 in
    record { number = ap Some c.number.ensures.number ∙ ap (option_map stale_number) found })

pub returns-in-None : goal.returns-in-None
returns-in-None c = rw (← c.self.view_is) (
    let found =
    sym (ap option_copied c.in-None.is) ∙ c.get.ensures.value
    ∙ lookup-find last_stale c.args.name.now c.self.inside.stale.entries c.self.invariant.1 in
    record { number = ap (option_map stale_number) found })
