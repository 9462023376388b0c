-- What a path that was checked hands on.
use Rattle.std.specs.Prelude.{◌≡◌, ◌↔◌, ℕ, List, Option}
use Rattle.std.specs.List.{AllZip}
use Rattle.der_core.specs.Asked.{AllHold}
use Rattle.der_core.specs.Attribute.{Attribute}
use Rattle.cert_fields.specs.Anchor.{TrustAnchor}
use Rattle.cert_fields.specs.Certificate.{Certificate}
use Rattle.cert_fields.specs.Constraints.{ContentConstraint}
use Rattle.cert_fields.specs.Extensions.{HasExtensions}
use Rattle.cert_fields.specs.declared.extensions.Extensions.{Extensions}
use Rattle.constraint_meet.specs.Permits.{Within}
use Rattle.constraint_meet.specs.Grants.{Members, GrantPermits}
use Rattle.hss_chain.specs.declared.key.HssKey.{HssKey}
use Rattle.path_check.specs.Conditions.{path_conditions, IsKeyAbove}

-- the content constraints of a certificate, in extensions that read
abbrev pub HasConstraints : Certificate → Option (List ContentConstraint) → Type 0
HasConstraints c constraints = (e : Extensions) × HasExtensions c e × (e.constraints ≡ constraints)

-- every member of the path and its anchor permit this content with these attributes (RFC 6010, section 4)
abbrev pub PathPermits : List ℕ → List Attribute → TrustAnchor → List Certificate → Type 0
PathPermits content attributes anchor members =
    (constraints : List (Option (List ContentConstraint))) × AllZip HasConstraints members constraints
    × Within content attributes constraints anchor.constraints

-- the key that the signer signs with, what the path permits, and the key identifier of its anchor
pub record PathHandsOn : Type 0 where
  pub key : HssKey
  pub effective : Members
  pub anchor_key_id : List ℕ

-- a path of these members hands this on
pub record IsHandedOn (anchor : TrustAnchor) (members : List Certificate) (handed : PathHandsOn) : Type 0 where
  pub key : IsKeyAbove anchor members handed.key
  pub permits : (content : List ℕ) (attributes : List Attribute)
      → GrantPermits content attributes handed.effective ↔ PathPermits content attributes anchor members
  pub anchor_key_id : handed.anchor_key_id ≡ anchor.key_id

-- the conditions hold of the path, and it hands this on
pub record IsChecked (at : ℕ) (anchor : TrustAnchor) (members : List Certificate) (handed : PathHandsOn) : Type 0 where
  pub sound : AllHold (path_conditions at anchor members)
  pub handed_on : IsHandedOn anchor members handed
