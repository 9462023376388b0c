use Rattle.std.proofs.Common.{refl, arith}
use Rattle.der_core.proofs.Listed.{listed_end}
use Rattle.package_attrs.specs.Reading.{name_at}
use Rattle.package_attrs.proofs.dependencies.Dependencies.none.Goals as goal

pub invariant_of-result : goal.invariant_of-result
invariant_of-result c = rw (listed_end name_at) (refl, omega arith)

pub returns : goal.returns
returns c = record { none = rw (listed_end name_at) refl }
