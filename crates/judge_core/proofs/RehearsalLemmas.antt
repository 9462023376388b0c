-- The verdict on a package's attributes, from what the rules answer.
use Rattle.std.proofs.Common.{ℕ, List, inr}
use Rattle.der_core.specs.Asked.{AllHold, FirstFail}
use Rattle.der_core.specs.Attribute.{Attribute}
use Rattle.der_core.proofs.AskedLemmas.{first_front, first_behind, all_hold}
use Rattle.package_attrs.specs.Description.{Description}
use Rattle.config_table.specs.State.{State}
use Rattle.config_table.specs.Stored.{Stored}
use Rattle.package_attrs.specs.Attributes.{Describes}
use Rattle.package_rules.specs.Module.{Module}
use Rattle.package_rules.specs.Conditions.{module_conditions, overflow_conditions}
use Rattle.judge_core.specs.Rehearsal.{accepted, refused, after, JudgesAttributes}

module _ (m : Module) (state : State Stored) (attrs : List Attribute) (d : Description)
    (describes : Describes attrs d) where
  -- the package fails a condition of the module
  pub refused_by_module : (number : ℕ) → FirstFail (module_conditions m d state (after state (accepted d))) number
      → JudgesAttributes m state attrs (refused number)
  refused_by_module number fails =
      inr (
        d,
        describes,
        first_front (module_conditions m d state (after state (accepted d)))
            (overflow_conditions (after state (accepted d))) number fails,
      )

  -- it fails none of those, and has no room
  pub refused_by_room : (number : ℕ) → AllHold (module_conditions m d state (after state (accepted d)))
      → FirstFail (overflow_conditions (after state (accepted d))) number
      → JudgesAttributes m state attrs (refused number)
  refused_by_room number hold fails =
      inr (
        d,
        describes,
        first_behind (module_conditions m d state (after state (accepted d)))
            (overflow_conditions (after state (accepted d))) number hold fails,
      )

  -- it fails none
  pub accepts : AllHold (module_conditions m d state (after state (accepted d)))
      → AllHold (overflow_conditions (after state (accepted d))) → JudgesAttributes m state attrs (accepted d)
  accepts hold room = (
    describes,
    all_hold (module_conditions m d state (after state (accepted d)))
        (overflow_conditions (after state (accepted d))) hold room,
  )
