-- What a package's path permits, whether or not the package is accepted: for those who explain a verdict.
use Rattle.std.specs.Prelude.{◌≡◌, ℕ, List, length, Option, None, Some, slice_get}
use Rattle.std.specs.List.{AllZip}
use Rattle.der_core.specs.Asked.{AllHold}
use Rattle.cert_fields.specs.Anchor.{TrustAnchor}
use Rattle.cert_fields.specs.Certificate.{Certificate}
use Rattle.cert_fields.specs.Constraints.{ContentConstraint}
use Rattle.cms_signed.specs.Message.{Message}
use Rattle.constraint_meet.specs.Grants.{Members, of_path}
use Rattle.module_record.specs.declared.module.Module.{Module}
use Rattle.package_attrs.specs.Attributes.{Describes}
use Rattle.package_attrs.specs.Description.{Description}
use Rattle.path_check.specs.Checked.{HasConstraints}
use Rattle.path_check.specs.Conditions.{members_at}
use Rattle.path_check.specs.Paths.{PathPlaces}
use Rattle.judge_core.specs.Values.{Values, Spells}
use Rattle.judge_core.specs.Steps.{values_of}
use Rattle.judge_core.specs.Conditions.{octet_conditions, value_conditions, certificates_in, IsPath}

-- a path: how many certificates it has, the place of its anchor, and the constraints of its members
pub record PathGrant : Type 0 where
  pub certificates : ℕ
  pub anchor : ℕ
  pub grant : Members

-- this is told of the path, or, where nothing is, it holds of nothing
abbrev pub IsTold : (PathGrant → Type 0) → Option PathGrant → Type 0
IsTold P None = (other : PathGrant) → P other → ⊥
IsTold P (Some told) = P told

-- The path's certificates and anchor are these, the extensions of each certificate read, and the grant has the anchor's
-- constraints, where it has any, and then those of each certificate, from the signer's up. A certificate without the
-- extension has no entries.
pub record IsGrantOf (m : Module) (certificates : List Certificate) (path : PathPlaces) (told : PathGrant) : Type 0 where
  pub certificates_are : told.certificates ≡ length path.members
  pub anchor_is : told.anchor ≡ path.anchor
  pub anchor : TrustAnchor
  pub found : slice_get m.anchors path.anchor ≡ Some anchor
  pub constraints : List (Option (List ContentConstraint))
  pub read : AllZip HasConstraints (members_at certificates path.members) constraints
  pub grant_is : told.grant ≡ of_path constraints anchor.constraints

-- The conditions 1 to 23 hold of the item, and this is its signer's path.
pub record Grants (m : Module) (item : List ℕ) (told : PathGrant) : Type 0 where
  pub octets : AllHold (octet_conditions item)
  pub v : Values
  pub spells : Spells item v
  pub values : AllHold (value_conditions m v)
  pub path : PathPlaces
  pub is_path : IsPath m v.message path
  pub told_is : IsGrantOf m (certificates_in v.message) path told

-- the same of a message that was read, from condition 19 on
pub record GrantsMessage (m : Module) (message : Message) (told : PathGrant) : Type 0 where
  pub described : Description
  pub describes : Describes message.signer.signed_attributes described
  pub values : AllHold (value_conditions m (values_of message described))
  pub path : PathPlaces
  pub is_path : IsPath m message path
  pub told_is : IsGrantOf m (certificates_in message) path told
