-- A condition that is answered as the first that fails.
use Rattle.std.proofs.Common.{ℕ, List, Option, None, Some, SomeIff, IsNone, IfSome, ◌↔◌, sym, subst, true≢false}
use Rattle.der_core.specs.Asked.{Asked, AllHold, FirstFail}
use Rattle.der_core.specs.Condition.{IsCondition}
use Rattle.der_core.proofs.AskedLemmas.{not_both}

-- it is the first
pub answered_first : (conditions : List Asked) (n : ℕ) → IsCondition n → (answer : Option ℕ)
    → SomeIff answer (IsCondition n) n → FirstFail conditions n → IfSome answer (FirstFail conditions)
answered_first conditions n is None found fails = absurd (found is)
answered_first conditions n is (Some m) found fails = subst (FirstFail conditions) (sym found.1) fails

-- and not all of them hold
pub answered_hold : (conditions : List Asked) (n : ℕ) → IsCondition n → (answer : Option ℕ)
    → SomeIff answer (IsCondition n) n → FirstFail conditions n → IsNone answer ↔ AllHold conditions
answered_hold conditions n is None found fails = absurd (found is)
answered_hold conditions n is (Some m) found fails =
    (λ none. absurd (true≢false none), λ all. absurd (not_both conditions n fails all))
