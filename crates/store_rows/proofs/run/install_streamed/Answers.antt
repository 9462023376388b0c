use Rattle.std.proofs.Common.{ℕ, List, sym, subst}
use Rattle.module_store.specs.Store.{IsStoreOf}
use Rattle.store_rows.proofs.run.install_streamed.Goals as goal

-- opening changed no cell
pub is_installed-installed-requires-clause-holds : goal.is_installed-installed-requires-clause-holds
is_installed-installed-requires-clause-holds c =
    subst (λ (l : List ℕ). IsStoreOf c.in-Ok.store l) (sym (c.open.ensures.unchanged tt)) (c.in-Ok.ensures.store tt)
