-- What it means to read exactly.
use Rattle.std.specs.Prelude.{◌≡◌, ◌↔◌, ℕ, List, Option, Some, None}

-- a reader answers a value exactly where it is valid and the octets are its text
abbrev pub Reads : {V : Type 0} → (V → List ℕ) → (V → Type 0) → List ℕ → Option V → Type 0
Reads {V} text IsValid bytes result = (v : V) → (result ≡ Some v) ↔ (IsValid v × (bytes ≡ text v))

-- what a function returned, seen by view, is this
abbrev pub Answers : {X Y : Type 0} → (X → Y) → Option X → Option Y → Type 0
Answers view (Some x) answer = answer ≡ Some (view x)
Answers view None answer = answer ≡ None
