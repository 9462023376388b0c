use Rattle.std.proofs.Common.{◌≡◌, drop}
use Rattle.std.specs.Prelude.{is_some}
use Rattle.der_core.specs.Reading.{subidentifiers_of, subidentifiers_after}
use Rattle.der_core.proofs.oid.are_subidentifiers.Given as goal

abbrev pub invariant-loop-octet : goal.invariant-loop-octet
invariant-loop-octet l =
    is_some (subidentifiers_after l.number (drop l.octet-index l.octets)) ≡ is_some (subidentifiers_of l.octets)
