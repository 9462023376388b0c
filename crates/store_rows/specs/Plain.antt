-- The packages of the rows.
use Rattle.std.specs.Prelude.{◌≡◌, [], None}
use Rattle.package_attrs.specs.Description.{Description}
use Rattle.package_attrs.specs.Identifier.{IsName}

-- A package with a name, without a stale value, a type and needs.
pub record IsPlain (d : Description) : Type 0 where
  pub name : IsName d.identifier.name
  pub stale : d.identifier.stale ≡ None
  pub kind : d.info.kind ≡ None
  pub needs : d.info.dependencies ≡ []
