-- The tests that tell what is permitted; that they do is the law `tests_tell`.
use Rattle.std.specs.Prelude.{ℕ, Bool, true, false, ◌&&◌, ◌||◌, not, List, Option, Some, None, bytes_eq}
use Rattle.std.specs.List.{list_any, list_all}
use Rattle.std.specs.Option.{option_map_or}
use Rattle.der_core.specs.Attribute.{Attribute}
use Rattle.cert_fields.specs.Constraints.{ContentConstraint}
use Rattle.constraint_meet.specs.Covers.{covers}
use Rattle.constraint_meet.specs.Permits.{deciding, values_in}

abbrev pub is_covered : Attribute → List ℕ → Bool
is_covered constrained value = list_any (λ listed. covers constrained.kind listed value) (values_in constrained.values)

abbrev pub are_covered : Attribute → List ℕ → Bool
are_covered constrained values = list_all (is_covered constrained) (values_in values)

abbrev pub meets : Attribute → Attribute → Bool
meets attribute constrained =
    not (bytes_eq constrained.kind attribute.kind) || are_covered constrained attribute.values

abbrev pub passes : ContentConstraint → Attribute → Bool
passes entry attribute = list_all (meets attribute) entry.attributes

abbrev pub entry_permits : List Attribute → ContentConstraint → Bool
entry_permits attributes entry = entry.can_source && list_all (passes entry) attributes

abbrev pub member_permits : List ℕ → List Attribute → List ContentConstraint → Bool
member_permits content attributes entries = option_map_or (entry_permits attributes) (deciding content entries) false

abbrev pub certificate_permits : List ℕ → List Attribute → Option (List ContentConstraint) → Bool
certificate_permits content attributes None = false
certificate_permits content attributes (Some entries) = member_permits content attributes entries

abbrev pub anchor_permits : List ℕ → List Attribute → Option (List ContentConstraint) → Bool
anchor_permits content attributes None = true
anchor_permits content attributes (Some entries) = member_permits content attributes entries
