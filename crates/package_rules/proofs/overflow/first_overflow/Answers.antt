use Rattle.std.proofs.Common.{ℕ, List, inl, inr, refl, sym, true≢false, arith}
use Rattle.der_core.specs.Asked.{Asked, FirstFail}
use Rattle.package_attrs.specs.Description.{description}
use Rattle.config_table.specs.State.{offer_of, with_package}
use Rattle.config_table.specs.Stored.{Stored}
use Rattle.package_rules.specs.Conditions.{overflow_conditions}
use Rattle.package_rules.proofs.AnswerLemmas.{answered_first, answered_hold}
use Rattle.package_rules.proofs.overflow.first_overflow.Goals as goal
use Rattle.package_rules.proofs.overflow.first_overflow.Goals.{After-new-then-not-has_room_for_stale}

-- what is asked there
abbrev conditions : After-new-then-not-has_room_for_stale → List ℕ → Stored → List Asked
conditions c digest image =
    overflow_conditions (with_package (offer_of (description c.args.offered.now)) digest image c.args.state.now)

-- where the stale entries have no room, that is the first condition that fails
fails : (c : After-new-then-not-has_room_for_stale) (digest : List ℕ) (image : Stored)
    → FirstFail (conditions c digest image) 40
fails c digest image =
    inr (
      (c.if-not-has_room_for_package.ensures.room digest image).0 refl,
      inl (
        refl,
        λ fits. true≢false (sym ((c.if-not-has_room_for_stale.ensures.room digest image).1 fits)),
      ),
    )

pub returns-then-not-has_room_for_stale-clause-hold : goal.returns-then-not-has_room_for_stale-clause-hold
returns-then-not-has_room_for_stale-clause-hold c = λ digest image.
    answered_hold (conditions c digest image) 40 (record { least = omega arith; most = omega arith })
    c.new-then-not-has_room_for_stale.result c.new-then-not-has_room_for_stale.ensures.found (fails c digest image)

pub returns-then-not-has_room_for_stale-clause-first : goal.returns-then-not-has_room_for_stale-clause-first
returns-then-not-has_room_for_stale-clause-first c = λ digest image.
    answered_first (conditions c digest image) 40 (record { least = omega arith; most = omega arith })
    c.new-then-not-has_room_for_stale.result c.new-then-not-has_room_for_stale.ensures.found (fails c digest image)

pub returns-clause-hold : goal.returns-clause-hold
returns-clause-hold c = λ digest image. (
  λ none. (
    (c.if-not-has_room_for_package.ensures.room digest image).0 refl,
    ((c.if-not-has_room_for_stale.ensures.room digest image).0 refl, tt),
  ),
  λ all. refl,
)
