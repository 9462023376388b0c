use Rattle.std.proofs.Common.{Some, None, sym, ap, ◌∙◌}
use Rattle.std.specs.Option.{option_copied}
use Rattle.config_table.specs.Names.{is_at_least}
use Rattle.config_table.proofs.KeyedLemmas.{stale_found}
use Rattle.config_table.proofs.state.State.stale_hit.Goals as goal

pub returns-in-Some : goal.returns-in-Some
returns-in-Some c = rw (← c.self.view_is) (
    let found =
    stale_found c.args.name.now c.self.inside.stale.entries c.self.invariant.1 (Some c.in-Some.entry.now)
    (sym (ap option_copied c.in-Some.is) ∙ c.get.ensures.value) in
    let is = c.is_at_least.ensures.at_least ∙ ap (λ last. is_at_least last c.args.name.now) c.last.ensures.last
    ∙ sym found in
    record { stale = (λ hit. sym is ∙ hit, λ stale. is ∙ stale) })

pub returns-in-None : goal.returns-in-None
returns-in-None c = rw (← c.self.view_is) (
    let found =
    stale_found c.args.name.now c.self.inside.stale.entries c.self.invariant.1 None
    (sym (ap option_copied c.in-None.is) ∙ c.get.ensures.value) in
    record { stale = (λ hit. found ∙ hit, λ stale. sym found ∙ stale) })
