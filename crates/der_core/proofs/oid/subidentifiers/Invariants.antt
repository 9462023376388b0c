use Rattle.std.proofs.Common.{◌≡◌, ◌++◌, drop, Some}
use Rattle.der_core.specs.Reading.{◌>>?◌, subidentifiers_of, subidentifiers_after}
use Rattle.der_core.proofs.oid.subidentifiers.Given as goal

-- those so far, and those that are still to come
abbrev pub invariant-loop-octet : goal.invariant-loop-octet
invariant-loop-octet l =
    subidentifiers_of l.octets ≡
    (subidentifiers_after l.number (drop l.octet-index l.octets) >>? λ ss. Some (l.numbers.items ++ ss))
