-- What is known while the conditions from 19 on are asked one after the other. A bridge between the code and the
-- verdicts: nothing here has to be believed.
use Rattle.std.specs.Prelude.{◌≡◌, ◌↔◌, ◌⊎◌, ℕ, ◌+◌, List, length, Option, Some, None, Result, Ok, Err}
use Rattle.sha2.specs.Sha256.{sha256}
use Rattle.der_core.specs.Asked.{Asked, AllHold, FirstFail}
use Rattle.der_core.specs.Head.{BeginsWith}
use Rattle.cert_fields.specs.Anchor.{TrustAnchor}
use Rattle.cert_fields.specs.Certificate.{Certificate}
use Rattle.cms_signed.specs.Message.{Message}
use Rattle.cms_signed.specs.SignedAnswer.{Shows}
use Rattle.cms_signed.specs.declared.signed.SignedView.{SignedView}
use Rattle.package_attrs.specs.declared.name.PackageName.{PackageName}
use Rattle.package_attrs.specs.Attributes.{Describes}
use Rattle.package_attrs.specs.Description.{Description, description}
use Rattle.package_attrs.specs.Image.{IsImage}
use Rattle.judge_core.specs.declared.content.Content.{Content}
use Rattle.judge_core.specs.declared.fault.Fault.{Fault}
use Rattle.judge_core.specs.declared.fault.Fault.TheVariants.{Fails, Memory}
use Rattle.judge_core.specs.declared.verdict.CutVerdict.{CutVerdict}
use Rattle.judge_core.specs.declared.verdict.CutVerdict.TheVariants as cuts
use Rattle.judge_core.specs.Values.{Values}
use Rattle.judge_core.specs.Conditions.{value_conditions, LeadsUp}
use Rattle.judge_core.specs.Verdicts.{Bench, later_conditions}

-- no condition is told, and all of these hold, or it is the first that fails
abbrev pub Tells : Option ℕ → List Asked → Type 0
Tells None conditions = AllHold conditions
Tells (Some condition) conditions = FirstFail conditions condition

-- where a condition is told, this is said of its number
abbrev pub Says : Fault → (ℕ → Type 0) → Type 0
Says (Fails condition) P = P condition
Says Memory P = Unit {0}

abbrev pub FailsAs : {A : Type 0} → Result A Fault → (ℕ → Type 0) → Type 0
FailsAs (Ok value) P = Unit {0}
FailsAs (Err fault) P = Says fault P

-- a condition is told
abbrev pub IsFailure : Fault → Type 0
IsFailure (Fails condition) = Unit {0}
IsFailure Memory = ⊥

-- a fault is answered with this refusal
abbrev pub IsRefusal : Fault → PackageName → CutVerdict → Type 0
IsRefusal (Fails condition) name verdict = verdict ≡ cuts.Refuse condition (Some name)
IsRefusal Memory name verdict = ⊥

-- the octets begin as the item does, which has so many more
pub record BeginsLike (octets : List ℕ) (more : ℕ) (item : List ℕ) : Type 0 where
  pub count : length item ≡ length octets + more
  pub heads : (tag size : ℕ) → BeginsWith octets tag size ↔ BeginsWith item tag size

-- a message with what its attributes describe
abbrev pub values_of : Message → Description → Values
values_of message described = record { message = message; described = described }

-- the view shows the message, and this is known of its content and of the image in it
pub record IsSeen (view : SignedView) (known : Content) (message : Message) (image : List ℕ) : Type 0 where
  pub shows : Shows view message.certificates message.signer
  pub digest : known.digest ≡ sha256 message.content
  pub image_is : IsImage message.content image
  pub size : length image ≡ known.image

-- the conditions 20 to 41 hold, and this is the key identifier of the path's anchor
pub record Passes (b : Bench) (v : Values) (image key_id : List ℕ) : Type 0 where
  pub values : AllHold (value_conditions b.holder v)
  pub anchor : TrustAnchor
  pub members : List Certificate
  pub leads : LeadsUp b.holder v.message anchor members
  pub others : AllHold (later_conditions b v image anchor members)
  pub key_id_is : key_id ≡ anchor.key_id

-- the condition of this number is the first of them that fails
abbrev pub Stops : Bench → Values → List ℕ → ℕ → Type 0
Stops b v image number =
    FirstFail (value_conditions b.holder v) number
    ⊎ (AllHold (value_conditions b.holder v)
    × ((anchor : TrustAnchor) × (members : List Certificate) × LeadsUp b.holder v.message anchor members
    × FirstFail (later_conditions b v image anchor members) number))

-- the verdict on a message with this image, from condition 19 on
abbrev pub JudgesMessage : Bench → Message → List ℕ → CutVerdict → Type 0
JudgesMessage b m image (cuts.Accept firmware key_id) =
    Describes m.signer.signed_attributes (description firmware)
    × Passes b (values_of m (description firmware)) image key_id
JudgesMessage b m image (cuts.Refuse number None) =
    (number ≡ 19) × ((d : Description) → ¬ Describes m.signer.signed_attributes d)
JudgesMessage b m image (cuts.Refuse number (Some name)) =
    (d : Description) × Describes m.signer.signed_attributes d × Stops b (values_of m d) image number
    × (name ≡ d.identifier.name)
