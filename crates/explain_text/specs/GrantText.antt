-- The printed lines of what a path permits; this project's own.
use Rattle.std.specs.Prelude.{◌≡◌, ℕ, List, ◌++◌, Option, Some, None, codes}
use Rattle.std.specs.List.{flat_map}
use Rattle.hex.specs.Hex.{encode_lower}
use Rattle.der_core.specs.Attribute.{Attribute}
use Rattle.cert_fields.specs.Constraints.{ContentConstraint}
use Rattle.constraint_meet.specs.Grants.{Members}
use Rattle.constraint_meet.specs.Permits.{any_content}
use Rattle.report_text.specs.Dotted.{dotted_of}
use Rattle.explain_text.specs.Ordered.{AreExactly, AreTexts}
use Rattle.explain_text.specs.Granted.{IsOwnType, sources_of, constrained_by, IsKind, IsShared}

-- a value, behind a space
abbrev pub value_text : List ℕ → List ℕ
value_text value = codes " " ++ encode_lower value

-- `attr OID HEX ..`, with those values
abbrev pub kind_line : List ℕ → List (List ℕ) → List ℕ
kind_line kind values = codes "attr " ++ (dotted_of kind ++ (flat_map value_text values ++ codes "\n"))

-- the line of a type of attributes: the values that it may have, ascending, each once
abbrev pub IsKindLine : List Attribute → List ℕ → List ℕ → Type 0
IsKindLine constrained kind text =
    (values : List (List ℕ)) × AreExactly (IsShared constrained kind) values × (text ≡ kind_line kind values)

-- those of all types that are constrained, ascending
abbrev pub AreKindLines : List Attribute → List ℕ → Type 0
AreKindLines constrained text =
    (kinds : List (List ℕ)) × AreExactly (IsKind constrained) kinds × AreTexts (IsKindLine constrained) kinds text

-- `deny NAME`
abbrev pub deny_line : List ℕ → List ℕ
deny_line name = codes "deny " ++ (name ++ codes "\n")

-- `allow NAME`
abbrev pub allow_line : List ℕ → List ℕ
allow_line name = codes "allow " ++ (name ++ codes "\n")

-- `deny NAME`, or `allow NAME` and the lines of attributes
abbrev pub AreTypeLines : List ℕ → Option (List ContentConstraint) → List ℕ → Type 0
AreTypeLines name None text = text ≡ deny_line name
AreTypeLines name (Some sources) text =
    (kinds : List ℕ) × AreKindLines (constrained_by sources) kinds × (text ≡ allow_line name ++ kinds)

-- the lines of a content type that is named
abbrev pub AreLinesOf : Members → List ℕ → List ℕ → Type 0
AreLinesOf members content text = AreTypeLines (dotted_of content) (sources_of content members) text

-- The lines of each content type that a member names but anyContentType, ascending, and then those of every other type,
-- for which the entries of anyContentType decide.
pub record IsGrantText (members : Members) (text : List ℕ) : Type 0 where
  pub types : List (List ℕ)
  pub named : AreExactly (IsOwnType members) types
  pub each : List ℕ
  pub lines : AreTexts (AreLinesOf members) types each
  pub other : List ℕ
  pub rest : AreTypeLines (codes "other") (sources_of any_content members) other
  pub is : text ≡ each ++ other
