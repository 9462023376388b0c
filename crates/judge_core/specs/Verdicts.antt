-- The verdict on an item: all conditions hold, or one is the first that fails.
use Rattle.std.specs.Prelude.{◌≡◌, ◌⊎◌, ℕ, List, ◌++◌, Option, Some, None}
use Rattle.der_core.specs.Asked.{Asked, AllHold, FirstFail}
use Rattle.cert_fields.specs.Anchor.{TrustAnchor}
use Rattle.cert_fields.specs.Certificate.{Certificate}
use Rattle.config_table.specs.State.{State}
use Rattle.config_table.specs.Stored.{Stored, lengths}
use Rattle.module_record.specs.declared.module.Module.{Module}
use Rattle.package_attrs.specs.declared.name.PackageName.{PackageName}
use Rattle.package_attrs.specs.Description.{Description}
use Rattle.package_attrs.specs.Image.{IsImage}
use Rattle.judge_core.specs.Values.{Values, Spells}
use Rattle.judge_core.specs.Conditions.{octet_conditions, value_conditions, LeadsUp, signature_conditions}
use Rattle.judge_core.specs.Conditions.{rule_conditions}

-- What an item is judged by.
pub record Bench : Type 0 where
  pub holder : Module
  -- the moment
  pub at : ℕ
  -- the sequence number, which each accepted package counts up
  pub sequence : ℕ
  -- what is installed, with the lengths of the images
  pub state : State ℕ

-- the same of the tables of the code
abbrev pub bench : Module → State Stored → ℕ → ℕ → Bench
bench m state sequence at = record { holder = m; at = at; sequence = sequence; state = lengths state }

pub data Verdict : Type 0 where
  -- what is accepted: what the package says, its content, the image in it, and the key identifier of the anchor of its
  -- path
  accepts : (described : Description) (content image key_id : List ℕ) → Verdict
  -- the condition that fails first, and the package's name where the octets spell one
  refuses : (number : ℕ) (name : Option PackageName) → Verdict

-- the conditions 23 to 41, over the path and the image
abbrev pub later_conditions : Bench → Values → List ℕ → TrustAnchor → List Certificate → List Asked
later_conditions b v image anchor members =
    signature_conditions b.at anchor members v.message
    ++ rule_conditions b.holder b.sequence b.state v.described image

-- The item is admitted: it is the text of a signed package, this is the image in its content, its path leads up through
-- these members to this anchor, and all 41 conditions hold.
pub record Admits (b : Bench) (item : List ℕ) (v : Values) (image : List ℕ) (anchor : TrustAnchor) : Type 0 where
  pub octets : AllHold (octet_conditions item)
  pub spells : Spells item v
  pub values : AllHold (value_conditions b.holder v)
  pub image_is : IsImage v.message.content image
  pub members : List Certificate
  pub leads : LeadsUp b.holder v.message anchor members
  pub others : AllHold (later_conditions b v image anchor members)

-- it is admitted, with some values, image and anchor
abbrev pub IsAdmitted : Bench → List ℕ → Type 0
IsAdmitted b item = (v : Values) × (image : List ℕ) × (anchor : TrustAnchor) × Admits b item v image anchor

-- The condition of this number is the first from 20 on that fails: one of the values, or, where these hold, one of the
-- path or of what is installed.
abbrev pub FailsLater : Bench → Values → ℕ → Type 0
FailsLater b v number =
    FirstFail (value_conditions b.holder v) number
    ⊎ (AllHold (value_conditions b.holder v)
    × ((image : List ℕ) × (anchor : TrustAnchor) × (members : List Certificate) × IsImage v.message.content image
    × LeadsUp b.holder v.message anchor members × FirstFail (later_conditions b v image anchor members) number))

-- This is the verdict. A name is told from condition 20 on.
abbrev pub Judges : Bench → List ℕ → Verdict → Type 0
Judges b item (accepts described content image key_id) =
    (v : Values) × (anchor : TrustAnchor) × Admits b item v image anchor
    × (described ≡ v.described) × (content ≡ v.message.content) × (key_id ≡ anchor.key_id)
Judges b item (refuses number None) = FirstFail (octet_conditions item) number
Judges b item (refuses number (Some name)) =
    AllHold (octet_conditions item)
    × ((v : Values) × Spells item v × FailsLater b v number × (name ≡ v.described.identifier.name))

-- it accepts
abbrev pub IsAccepted : Verdict → Type 0
IsAccepted (accepts described content image key_id) = Unit {0}
IsAccepted (refuses number name) = ⊥
