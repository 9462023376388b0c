use Rattle.std.proofs.Common.{List, ℕ, subst}
use Rattle.bank_layout.specs.Recovery.{Recovers}
use Rattle.bank_layout.specs.Recovery.Holder.{module_board}
use Rattle.load_claims.specs.Lives.{fresh}
use Rattle.fwload_top.specs.BoardRuns.{loads_in}
use Rattle.fwload_top.proofs.laws.headline_over_all_runs.Goals as goal

pub returns : goal.returns
returns g c = record {
  life = λ told m first rounds found are tells.
      let runs = c.no_leaf_is_used_twice.ensures.loads told m (fresh m) first rounds found are tells in
      let ends = c.headline.ensures.life m first (loads_in runs.0) (record { empty = found; goes_on = runs.1.follow }) in (
        runs.0,
        runs.1,
        record {
          now = ends.0;
          recovers = subst (λ (image : List ℕ). Recovers image (module_board m ends.0)) runs.1.last ends.1;
          state = ends.2;
          sequence = ends.3;
          each = ends.4;
          exact = ends.5;
        },
      );
}
