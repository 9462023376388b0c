-- What several members permit together: their entries, side by side. Lists of values aren't intersected, as one value can
-- cover others.
use Rattle.std.specs.Prelude.{ℕ, Bool, List, [], ◌∷◌, ◌++◌, Option, Some, None}
use Rattle.std.specs.List.{AllByRecursion, list_all, flat_map}
use Rattle.der_core.specs.Attribute.{Attribute}
use Rattle.cert_fields.specs.Constraints.{ContentConstraint}
use Rattle.constraint_meet.specs.Permits.{Permits}
use Rattle.constraint_meet.specs.Tests.{member_permits}

abbrev pub Members : Type 0
Members = List (List ContentConstraint)

-- the entries of a member: none where it has no constraints
abbrev pub entries_of : Option (List ContentConstraint) → List ContentConstraint
entries_of None = []
entries_of (Some entries) = entries

-- each member permits
abbrev pub GrantPermits : List ℕ → List Attribute → Members → Type 0
GrantPermits content attributes members = AllByRecursion (Permits content attributes) members

-- the test that tells it
abbrev pub grant_permits : List ℕ → List Attribute → Members → Bool
grant_permits content attributes members = list_all (member_permits content attributes) members

-- no member, which permits all
abbrev pub everything : Members
everything = []

-- one member, without an entry
abbrev pub nothing : Members
nothing = [] ∷ []

-- the members that a certificate adds, and those that an anchor does
abbrev pub of_certificate : Option (List ContentConstraint) → Members
of_certificate None = nothing
of_certificate (Some entries) = entries ∷ []

abbrev pub of_anchor : Option (List ContentConstraint) → Members
of_anchor None = everything
of_anchor (Some entries) = entries ∷ []

-- what a path permits: the members of its anchor, then those of each certificate
abbrev pub of_path : List (Option (List ContentConstraint)) → Option (List ContentConstraint) → Members
of_path certificates anchor = of_anchor anchor ++ flat_map of_certificate certificates
