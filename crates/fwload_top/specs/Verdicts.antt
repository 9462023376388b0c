-- The verdicts on attribute sets, one after the other, over what the accepted ones before have installed (RFC 4108,
-- section 2.2).
use Rattle.std.specs.Prelude.{◌≡◌, ◌⊎◌, ℕ, List, [], ◌∷◌, Bool, true, false}
use Rattle.der_core.specs.Attribute.{Attribute}
use Rattle.attribute_set.specs.AttributeSet.{set_contents, IsAttributeSet}
use Rattle.config_table.specs.State.{State}
use Rattle.config_table.specs.Stored.{Stored}
use Rattle.package_rules.specs.Module.{Module}
use Rattle.judge_core.specs.Rehearsal.{Verdict, after, JudgesAttributes}
use Rattle.judge_core.specs.Rehearsal.Verdict.{accepted, refused}

-- the contents of the set are these attributes, in ascending order and of different types (RFC 5652, section 5.3)
abbrev pub Holds : List ℕ → List Attribute → Type 0
Holds contents attrs = IsAttributeSet attrs × (contents ≡ set_contents attrs)

-- The verdict on a set of these contents, over this state. Condition 16 fails where it holds no attributes; else it is
-- the verdict on those that it holds.
abbrev pub Judges : Module → State Stored → List ℕ → Verdict → Type 0
Judges m state contents v =
    ((v ≡ refused 16) × ((attrs : List Attribute) → ¬ Holds contents attrs))
    ⊎ ((attrs : List Attribute) × Holds contents attrs × JudgesAttributes m state attrs v)

-- what verdicts leave installed, the first of them first
abbrev pub after_all : State Stored → List Verdict → State Stored
after_all state [] = state
after_all state (v ∷ vs) = after_all (after state v) vs

-- these are the verdicts on the sets, each over what those before it leave installed
abbrev pub JudgesAll : Module → State Stored → List (List ℕ) → List Verdict → Type 0
JudgesAll m state [] [] = Unit {0}
JudgesAll m state [] (v ∷ vs) = ⊥
JudgesAll m state (set ∷ sets) [] = ⊥
JudgesAll m state (set ∷ sets) (v ∷ vs) = Judges m state set v × JudgesAll m (after state v) sets vs

-- whether the set is refused
abbrev pub is_refused : Verdict → Bool
is_refused (accepted d) = false
is_refused (refused number) = true
