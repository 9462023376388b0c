-- The row of a one-time signing key: an octet for each leaf number q (RFC 8554, section 5.2), FF
-- where the leaf is unspent. The octets are this project's own.
use Rattle.std.specs.Prelude.{◌≡◌, ℕ, suc, List, [], ◌∷◌, length, if◌then◌else◌, ◌==◌}

-- how many leaves stand before the first unspent one, or all of them
abbrev pub spent_in : List ℕ → ℕ
spent_in [] = 0
spent_in (x ∷ xs) = if x == 255 then 0 else suc (spent_in xs)

-- the row with its first unspent leaf spent, where there is one
abbrev pub use_in : List ℕ → List ℕ
use_in [] = []
use_in (x ∷ xs) = if x == 255 then 0 ∷ xs else x ∷ use_in xs

-- no leaf is unspent
abbrev pub IsUsedUp : List ℕ → Type 0
IsUsedUp row = spent_in row ≡ length row
