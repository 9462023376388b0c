-- FirmwarePackageInfo: its values and their texts (RFC 4108, section 2.2.9).
--
--   FirmwarePackageInfo ::= SEQUENCE {
--     fwPkgType INTEGER OPTIONAL,
--     dependencies SEQUENCE OF
--       PreferredOrLegacyPackageIdentifier OPTIONAL }
--
-- Here fwPkgType is 0 to 2 ^ 128 - 1, and `dependencies`, where it is there, has 1 to 8 names: no dependencies are
-- written by leaving it out.
use Rattle.std.specs.Prelude.{ℕ, ◌<◌, ◌≤◌, ◌^◌, List, [], ◌∷◌, ◌++◌, length, None, IfSome}
use Rattle.std.specs.List.{AllByRecursion, flat_map}
use Rattle.der_core.specs.Element.{enc}
use Rattle.der_core.specs.Number.{number_contents}
use Rattle.der_core.specs.Shapes.{text_if}
use Rattle.package_attrs.specs.declared.name.PackageName.{PackageName}
use Rattle.package_attrs.specs.declared.package.Info.{Info}
use Rattle.package_attrs.specs.Identifier.{name_text, IsName}

-- fwPkgType
abbrev pub kind_text : ℕ → List ℕ
kind_text kind = enc 0x02 (number_contents kind)

-- `dependencies`: the SEQUENCE of the names, and nothing where there are none
abbrev pub dependencies_text : List PackageName → List ℕ
dependencies_text [] = []
dependencies_text (name ∷ names) = enc 0x30 (flat_map name_text (name ∷ names))

-- the SEQUENCE of the two
abbrev pub info_text : Info → List ℕ
info_text info = enc 0x30 (text_if kind_text info.kind ++ dependencies_text info.dependencies)

-- a type and dependencies that have a text
pub record IsInfo (info : Info) : Type 0 where
  pub kind : IfSome info.kind (λ kind. kind < 2 ^ 128)
  pub dependencies : AllByRecursion IsName info.dependencies
  pub count : length info.dependencies ≤ 8

-- neither a type nor dependencies
abbrev pub no_info : Info
no_info = record { kind = None; dependencies = [] }
