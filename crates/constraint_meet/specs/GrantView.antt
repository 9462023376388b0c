-- The members of what is kept of a grant.
use Rattle.std.specs.Prelude.{List, Option, None, Some}
use Rattle.std.specs.Borrow.{Bor}
use Rattle.cert_fields.specs.Constraints.{ContentConstraint}
use Rattle.constraint_meet.specs.Grants.{Members, everything, nothing}
use Rattle.constraint_meet.specs.declared.grant.Limits.{Limits}
use Rattle.constraint_meet.specs.declared.grant.Limits.TheVariants as limits

abbrev pub limits_view : Limits → Members
limits_view limits.Everything = everything
limits_view limits.Nothing = nothing
limits_view (limits.Each members) = members.items

-- constraints that are lent
abbrev pub constraints_view : Option (Bor (List ContentConstraint)) → Option (List ContentConstraint)
constraints_view None = None
constraints_view (Some constraints) = Some constraints.now
