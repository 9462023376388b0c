-- The state with the lengths of its images alone.
use Rattle.std.proofs.Common.{◌≡◌, ℕ, List, [], length, Option, None, Some, IsNone, IfSome, ◌↔◌, subst}
use Rattle.der_core.specs.Asked.{AllHold, FirstFail}
use Rattle.sha2.specs.Sha256.{sha256}
use Rattle.config_table.specs.State.{State, offer_of, with_package}
use Rattle.config_table.specs.Stored.{Stored, lengths}
use Rattle.config_table.proofs.StateLemmas.{with_package-state_with}
use Rattle.package_attrs.specs.Description.{Description}
use Rattle.package_rules.specs.Module.{Module}
use Rattle.package_rules.specs.Conditions.{module_conditions, overflow_conditions}
use Rattle.package_rules.proofs.AlikeLemmas.{modules_hold, modules_first, limits_hold, limits_first}
use Rattle.judge_core.specs.Conditions.{installed_with}
use Rattle.judge_core.specs.Steps.{Tells}
use Rattle.judge_core.proofs.TellsLemmas.{tells}

-- an image of so many octets, wherever it is
abbrev pub stored : ℕ → Stored
stored n = record { length = n; blocks = [] }

-- the code's state with the package
abbrev pub kept_with : Description → List ℕ → State Stored → State Stored
kept_with d image state = with_package (offer_of d) (sha256 image) (stored (length image)) state

pub lengths_with : (d : Description) (image : List ℕ) (state : State Stored)
    → lengths (kept_with d image state) ≡ installed_with d image (lengths state)
lengths_with d image state =
    with_package-state_with (λ (s : Stored). s.length) (offer_of d) (sha256 image) (stored (length image)) state

-- what is told of the rules over the code's state
pub modules_told : (m : Module) (d : Description) (image : List ℕ) (state : State Stored) (told : Option ℕ)
    → IsNone told ↔ AllHold (module_conditions m d state (kept_with d image state))
    → IfSome told (FirstFail (module_conditions m d state (kept_with d image state)))
    → Tells told (module_conditions m d (lengths state) (installed_with d image (lengths state)))
modules_told m d image state told hold first =
    subst (λ after. Tells told (module_conditions m d (lengths state) after)) (lengths_with d image state)
    (over_lengths told (tells _ told hold first))
  where
    over_lengths : (r : Option ℕ) → Tells r (module_conditions m d state (kept_with d image state))
        → Tells r (module_conditions m d (lengths state) (lengths (kept_with d image state)))
    over_lengths None all = (modules_hold (λ (s : Stored). s.length) m d state (kept_with d image state)).1 all
    over_lengths (Some n) fails = (modules_first (λ (s : Stored). s.length) m d state (kept_with d image state) n).1 fails

-- and of the tables' room
pub limits_told : (d : Description) (image : List ℕ) (state : State Stored) (told : Option ℕ)
    → IsNone told ↔ AllHold (overflow_conditions (kept_with d image state))
    → IfSome told (FirstFail (overflow_conditions (kept_with d image state)))
    → Tells told (overflow_conditions (installed_with d image (lengths state)))
limits_told d image state told hold first =
    subst (λ after. Tells told (overflow_conditions after)) (lengths_with d image state)
    (over_lengths told (tells _ told hold first))
  where
    over_lengths : (r : Option ℕ) → Tells r (overflow_conditions (kept_with d image state))
        → Tells r (overflow_conditions (lengths (kept_with d image state)))
    over_lengths None all = (limits_hold (λ (s : Stored). s.length) (kept_with d image state)).1 all
    over_lengths (Some n) fails = (limits_first (λ (s : Stored). s.length) (kept_with d image state) n).1 fails
