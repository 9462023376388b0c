-- The rules alone: the verdict on a package by its attributes, without a signature and an image, and what it leaves
-- installed (RFC 4108, section 2.2).
use Rattle.std.specs.Prelude.{◌≡◌, ◌⊎◌, ℕ, List, [], ◌++◌}
use Rattle.sha2.specs.Sha256.{sha256}
use Rattle.der_core.specs.Asked.{Asked, AllHold, FirstFail}
use Rattle.der_core.specs.Attribute.{Attribute}
use Rattle.config_table.specs.State.{State, offer_of, with_package}
use Rattle.config_table.specs.Stored.{Stored}
use Rattle.package_attrs.specs.Attributes.{Describes}
use Rattle.package_attrs.specs.Description.{Description, description}
use Rattle.package_rules.specs.Conditions.{module_conditions, overflow_conditions}
use Rattle.package_rules.specs.Module.{Module}
use Rattle.judge_core.specs.declared.rehearse.Rehearsed.{Rehearsed}
use Rattle.judge_core.specs.declared.rehearse.Rehearsed.TheVariants as found

-- A verdict on a package's attributes.
pub data Verdict : Type 0 where
  -- it goes in, and says this
  accepted : Description → Verdict
  -- the condition of this number is the first that fails
  refused : ℕ → Verdict

-- an image of no octets, in no block
abbrev pub no_image : Stored
no_image = record { length = 0; blocks = [] }

-- what a verdict leaves installed: a package that is accepted goes in, with an image of no octets, and nothing of one
-- that is refused
abbrev pub after : State Stored → Verdict → State Stored
after state (accepted d) = with_package (offer_of d) (sha256 []) no_image state
after state (refused number) = state

-- the conditions 30 to 36, 39 and 40, in this order
abbrev pub package_conditions : Module → State Stored → Description → List Asked
package_conditions m state d =
    let new = after state (accepted d) in
    module_conditions m d state new ++ overflow_conditions new

-- The verdict on these attributes, over this state. Condition 19 fails where they are no package's; and else the first
-- that the package fails, where there is one.
abbrev pub JudgesAttributes : Module → State Stored → List Attribute → Verdict → Type 0
JudgesAttributes m state attrs (accepted d) = Describes attrs d × AllHold (package_conditions m state d)
JudgesAttributes m state attrs (refused number) =
    ((number ≡ 19) × ((d : Description) → ¬ Describes attrs d))
    ⊎ ((d : Description) × Describes attrs d × FirstFail (package_conditions m state d) number)

-- an answer of the code
abbrev pub rehearsed_view : Rehearsed → Verdict
rehearsed_view (found.Accept p) = accepted (description p)
rehearsed_view (found.Refuse condition) = refused condition
