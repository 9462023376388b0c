use Rattle.std.proofs.Common.{◌≡◌, ◌↔◌, Bool, true, false, Option, None, Some, Bor, sym, ◌∙◌, true≢false}
use Rattle.config_table.specs.declared.installed.Installed.{Installed}
use Rattle.config_table.specs.Names.{is_at_least}
use Rattle.config_table.specs.Rules.{IsDistinctState}
use Rattle.std.specs.Option.{IsSomeAnd, option_map_or}
use Rattle.config_table.proofs.KeyedLemmas.{find_entry, find_installed, find_met, distinct_tables}
use Rattle.config_table.proofs.state.State.find.Goals as goal

pub returns-clause-entry : goal.returns-clause-entry
returns-clause-entry c =
    rw (← c.self.view_is)
    (find_entry c.args.name.now c.self.inside.packages.entries c.get.result c.self.invariant.0 c.get.ensures.value)

pub returns-clause-found : goal.returns-clause-found
returns-clause-found c =
    let is = find_installed c.args.name.now c.args.self.now.packages c.get.result (returns-clause-entry c) in
    (λ some. sym is ∙ some, λ installed. is ∙ installed)

decides : (found : Bool) (r : Option (Bor Installed)) (test : Bor Installed → Bool) → found ≡ option_map_or test r false
    → (found ≡ true) ↔ IsSomeAnd r (λ i. test i ≡ true)
decides found None test e = (λ met. true≢false (sym met ∙ e), λ none. absurd none)
decides found (Some i) test e = (λ met. sym e ∙ met, λ met. e ∙ met)

pub returns-clause-met : goal.returns-clause-met
returns-clause-met c =
    let distinct : IsDistinctState c.args.self.now =
    rw (← c.self.view_is)
    (distinct_tables c.self.inside.packages.entries c.self.inside.stale.entries c.self.invariant.0
    c.self.invariant.1) in
    let met =
    find_met c.args.name.now c.args.self.now.packages c.get.result distinct.packages (returns-clause-entry c) in
    decides _ c.get.result (λ i. is_at_least i.now.name c.args.name.now) met
