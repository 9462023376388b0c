-- Conditions that are asked one after the other: one is the first that fails, and lists of them go one behind another.
use Rattle.std.proofs.Common.{◌≡◌, ℕ, List, [], ◌∷◌, ◌++◌, inl, inr, sym, ◌∙◌}
use Rattle.der_core.specs.Asked.{Asked, AllHold, FirstFail}

-- at most one condition is the first that fails
pub first_is_one : (conditions : List Asked) (m n : ℕ) → FirstFail conditions m → FirstFail conditions n → m ≡ n
first_is_one [] m n f g = absurd f
first_is_one (c ∷ more) m n (inl f) (inl g) = f.0 ∙ sym g.0
first_is_one (c ∷ more) m n (inl f) (inr g) = absurd (f.1 g.0)
first_is_one (c ∷ more) m n (inr f) (inl g) = absurd (g.1 f.0)
first_is_one (c ∷ more) m n (inr f) (inr g) = first_is_one more m n f.1 g.1

-- where one fails, not all hold
pub not_both : (conditions : List Asked) (n : ℕ) → FirstFail conditions n → AllHold conditions → ⊥
not_both [] n f all = absurd f
not_both (c ∷ more) n (inl f) all = f.1 all.0
not_both (c ∷ more) n (inr f) all = not_both more n f.1 all.1

-- the first that fails of the conditions in front is the first of all
pub first_front : (a b : List Asked) (n : ℕ) → FirstFail a n → FirstFail (a ++ b) n
first_front [] b n f = absurd f
first_front (c ∷ more) b n (inl f) = inl f
first_front (c ∷ more) b n (inr f) = inr (f.0, first_front more b n f.1)

-- where those in front hold, the first that fails behind them is the first of all
pub first_behind : (a b : List Asked) (n : ℕ) → AllHold a → FirstFail b n → FirstFail (a ++ b) n
first_behind [] b n all f = f
first_behind (c ∷ more) b n all f = inr (all.0, first_behind more b n all.1 f)

-- those in front hold and those behind them, so all do
pub all_hold : (a b : List Asked) → AllHold a → AllHold b → AllHold (a ++ b)
all_hold [] b front behind = behind
all_hold (c ∷ more) b front behind = (front.0, all_hold more b front.1 behind)
