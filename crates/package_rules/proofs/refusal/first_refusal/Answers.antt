use Rattle.std.proofs.Common.{ℕ, List, inl, inr, refl, sym, true≢false, arith}
use Rattle.der_core.specs.Asked.{Asked, FirstFail}
use Rattle.package_attrs.specs.Description.{description}
use Rattle.config_table.specs.State.{offer_of, with_package}
use Rattle.config_table.specs.Stored.{Stored}
use Rattle.package_rules.specs.Conditions.{module_conditions}
use Rattle.package_rules.proofs.AnswerLemmas.{answered_first, answered_hold}
use Rattle.package_rules.proofs.refusal.first_refusal.Goals as goal
use Rattle.package_rules.proofs.refusal.first_refusal.Goals.{After-new-in-Some}

-- what is asked there
abbrev conditions : After-new-in-Some → List ℕ → Stored → List Asked
conditions c digest image =
    module_conditions c.args.hardware.now (description c.args.offered.now) c.args.state.now
    (with_package (offer_of (description c.args.offered.now)) digest image c.args.state.now)

-- where a package is broken, that is the first condition that fails
fails : (c : After-new-in-Some) (digest : List ℕ) (image : Stored) → FirstFail (conditions c digest image) 36
fails c digest image =
    let met = c.in-None.ensures.met.0 refl in
    inr (
      c.if-not-is_for_hardware.ensures.exact.0 refl,
      inr (
        c.if-not-is_in_community.ensures.exact.0 refl,
        inr (
          c.if-not-is_of_listed_kind.ensures.exact.0 refl,
          inr (
            λ stale. true≢false (sym (c.if-stale_hit.ensures.stale.1 stale)),
            inr (met.0, inr (met.1, inl (refl, λ kept. true≢false ((c.in-Some.ensures.unbroken digest image).1 kept)))),
          ),
        ),
      ),
    )

pub returns-in-Some-clause-hold : goal.returns-in-Some-clause-hold
returns-in-Some-clause-hold c = λ digest image.
    answered_hold (conditions c digest image) 36 (record { least = omega arith; most = omega arith })
    c.new-in-Some.result c.new-in-Some.ensures.found (fails c digest image)

pub returns-in-Some-clause-first : goal.returns-in-Some-clause-first
returns-in-Some-clause-first c = λ digest image.
    answered_first (conditions c digest image) 36 (record { least = omega arith; most = omega arith })
    c.new-in-Some.result c.new-in-Some.ensures.found (fails c digest image)

pub returns-in-None-broken_by-clause-hold : goal.returns-in-None-broken_by-clause-hold
returns-in-None-broken_by-clause-hold c = λ digest image. (
  λ none.
      let met = c.in-None.ensures.met.0 refl in
      let kept = (c.in-None-broken_by.ensures.unbroken digest image).0 refl in (
        c.if-not-is_for_hardware.ensures.exact.0 refl,
        (
          c.if-not-is_in_community.ensures.exact.0 refl,
          (
            c.if-not-is_of_listed_kind.ensures.exact.0 refl,
            (
              λ stale. true≢false (sym (c.if-stale_hit.ensures.stale.1 stale)),
              (met.0, (met.1, (kept, tt))),
            ),
          ),
        ),
      ),
  λ all. refl,
)
