-- Conditions that are told one list after the other.
use Rattle.std.proofs.Common.{◌≡◌, ℕ, List, [], ◌∷◌, ◌++◌, Option, None, Some, IsNone, IfSome, is_some, true, false, true≢false, ◌↔◌, refl, sym}
use Rattle.der_core.specs.Asked.{Asked, AllHold, FirstFail}
use Rattle.der_core.proofs.AskedLemmas.{first_front, first_behind, all_hold, not_both}
use Rattle.judge_core.specs.Steps.{Tells}

-- where it is said that all hold, or which fails first
pub tells : (conditions : List Asked) (told : Option ℕ) → IsNone told ↔ AllHold conditions
    → IfSome told (FirstFail conditions) → Tells told conditions
tells conditions None hold first = hold.0 refl
tells conditions (Some n) hold first = first

-- those in front hold, and of those behind this is told
pub behind : (front back : List Asked) (told : Option ℕ) → AllHold front → Tells told back → Tells told (front ++ back)
behind front back None holds told = all_hold front back holds told
behind front back (Some n) holds told = first_behind front back n holds told

-- one of those in front fails
pub in_front : (front back : List Asked) (n : ℕ) → FirstFail front n → Tells (Some n) (front ++ back)
in_front front back n fails = first_front front back n fails

-- one of the conditions fails, or none does
pub tells_some : (conditions : List Asked) (told : Option ℕ) → is_some told ≡ true → Tells told conditions
    → AllHold conditions → ⊥
tells_some conditions None is told holds = absurd (true≢false (sym is))
tells_some conditions (Some n) is told holds = not_both conditions n told holds

pub tells_none : (conditions : List Asked) (told : Option ℕ) → is_some told ≡ false → Tells told conditions
    → AllHold conditions
tells_none conditions None is told = told
tells_none conditions (Some n) is told = absurd (true≢false is)

-- of conditions that hold those in front do, and those behind
pub front_holds : (front back : List Asked) → AllHold (front ++ back) → AllHold front
front_holds [] back holds = tt
front_holds (c ∷ more) back holds = (holds.0, front_holds more back holds.1)

pub back_holds : (front back : List Asked) → AllHold (front ++ back) → AllHold back
back_holds [] back holds = holds
back_holds (c ∷ more) back holds = back_holds more back holds.1
