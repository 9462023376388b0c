use Rattle.std.proofs.Common.{◌≡◌, ℕ, ◌<◌, ◌≤◌, true, false, slice_get, length, sym, subst, ◌∙◌, refl, true≢false, arith}
use Rattle.std.specs.Option.{option_map_or}
use Rattle.package_attrs.specs.declared.name.PackageName.{PackageName}
use Rattle.config_table.specs.State.{with_package}
use Rattle.dependency_check.specs.Dependencies.{Unbroken, IsFirstBroken}
use Rattle.dependency_check.specs.Deciding.{loses_need}
use Rattle.dependency_check.proofs.NeedLemmas.{unbroken, first_broken, broken_one, none_past}
use Rattle.dependency_check.proofs.broken.first_broken.Goals as goal

pub returns-then-loses_need_at-clause-first : goal.returns-then-loses_need_at-clause-first
returns-then-loses_need_at-clause-first c = λ offer digest image named.
    let state = c.args.state.now in
    let place = c.loop-place.place in
    let P : PackageName → Type 0 =
    λ name. option_map_or (loses_need name state) (slice_get state.packages place) false ≡ true
    → ((i : ℕ) → i < place → option_map_or (loses_need name state) (slice_get state.packages i) false ≡ false)
    → IsFirstBroken name state (with_package offer digest image state) place in
    subst P named (first_broken offer digest image state c.packages-place-end.ensures.distinct place)
    (sym c.loses_need_at.ensures.loses ∙ c.if-loses_need_at.true) c.loop-place.invariant

pub returns-then-loses_need_at-clause-unbroken : goal.returns-then-loses_need_at-clause-unbroken
returns-then-loses_need_at-clause-unbroken c = λ offer digest image named. (
  λ e. absurd (true≢false e),
  λ all. absurd (broken_one c.args.name.now c.args.state.now _ c.loop-place.place
      (returns-then-loses_need_at-clause-first c offer digest image named) all),
)

pub returns-clause-unbroken : goal.returns-clause-unbroken
returns-clause-unbroken c = λ offer digest image named.
    let state = c.args.state.now in
    let count : length state.packages ≤ c.loop-place.place = omega arith in
    let P : PackageName → Type 0 =
    λ name. ((i : ℕ) → option_map_or (loses_need name state) (slice_get state.packages i) false ≡ false)
    → Unbroken name state (with_package offer digest image state) in (
      λ e. subst P named (unbroken offer digest image state c.packages-place-end.ensures.distinct)
          (none_past (loses_need c.args.name.now state) state.packages c.loop-place.place count c.loop-place.invariant),
      λ all. refl,
    )
