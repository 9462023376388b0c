-- The printed lines of names and identifiers; this project's own.
use Rattle.std.specs.Prelude.{ℕ, List, [], ◌++◌, Option, Some, None, codes}
use Rattle.std.specs.Fmt.{decimal}
use Rattle.hex.specs.Hex.{encode_lower}
use Rattle.package_attrs.specs.declared.name.PackageName.{PackageName}
use Rattle.package_attrs.specs.declared.name.PackageName.TheVariants as names
use Rattle.package_attrs.specs.declared.name.Stale.{Stale}
use Rattle.package_attrs.specs.declared.name.Stale.TheVariants as stales
use Rattle.package_attrs.specs.Identifier.{Named}
use Rattle.report_text.specs.Dotted.{dotted_of}

-- a name: `preferred OID VERSION` or `legacy HEX`
abbrev pub named : PackageName → List ℕ
named (names.Preferred id version) = codes "preferred " ++ dotted_of id ++ codes " " ++ decimal version
named (names.Legacy octets) = codes "legacy " ++ encode_lower octets

-- a stale value: a number or hex
abbrev pub stale_value : Stale → List ℕ
stale_value (stales.Upto n) = decimal n
stale_value (stales.Legacy octets) = encode_lower octets

-- what stands after a name: ` stale VALUE` where there is one
abbrev pub stale_part : Option Stale → List ℕ
stale_part None = []
stale_part (Some stale) = codes " stale " ++ stale_value stale

-- the line of an identifier
abbrev pub identifier_line : Named → List ℕ
identifier_line i = named i.name ++ stale_part i.stale ++ codes "\n"
