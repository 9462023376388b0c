use Rattle.std.proofs.Common.{◌≡◌, ◌<◌, ◌^◌, drop}
use Rattle.der_core.specs.TimeReading.{decimal_after}
use Rattle.der_core.proofs.time.read_decimal.Given as goal

abbrev pub invariant-loop-octet : goal.invariant-loop-octet
invariant-loop-octet l = record {
  so_far : decimal_after 0 l.digits ≡ decimal_after l.number (drop l.octet-index l.digits);
  small : l.number < 10 ^ l.octet-index;
}
