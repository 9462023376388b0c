-- What a block of serial numbers holds.
use Rattle.std.proofs.Common.{◌≡◌, ℕ, true, ◌&&◌, nat_eq, List, length, IsTrue, refl, arith}
use Rattle.std.proofs.lemmas.Bool.Decides.{nat_tests}
use Rattle.std.specs.Cmp.{first_so, second_so}
use Rattle.std.specs.declared.cmp.Ordering.{Ordering}
use Rattle.std.specs.declared.cmp.Ordering.TheVariants.{Less, Equal, Greater}
use Rattle.std.specs.Ordering.{nat_cmp, is_le, ordering_reverse}
use Rattle.std.specs.Cmp.Lexicographic.{slice_cmp, nat_list_cmp_total}
use Rattle.package_rules.specs.Communities.{is_up_to, is_in_block}

up_to_itself : (octets : List ℕ) → is_up_to octets octets ≡ true
up_to_itself octets = by (slice_cmp nat_cmp octets octets) (nat_list_cmp_total.antisymm octets octets)
  where
    by : (r : Ordering) → r ≡ ordering_reverse r → is_le r ≡ true
    by Less h = absurd (let n : Less ≡ Greater = h in cc)
    by Equal h = refl
    by Greater h = absurd (let n : Greater ≡ Less = h in cc)

-- its two ends
pub ends_held : (low high : List ℕ) → length low ≡ length high → IsTrue (is_up_to low high)
    → IsTrue (is_in_block low low high) × IsTrue (is_in_block high low high)
ends_held low high long up =
    let one : nat_eq (length low) (length low) ≡ true = grind (arith, nat_tests) in
    let other : nat_eq (length high) (length low) ≡ true = grind (arith, nat_tests) in
    let back : nat_eq (length low) (length high) ≡ true = grind (arith, nat_tests) in
    let last : nat_eq (length high) (length high) ≡ true = grind (arith, nat_tests) in
    (λ i. (one i && other i) && (up_to_itself low i && up i), λ i. (back i && last i) && (up i && up_to_itself high i))

-- and no serial number of another length
pub length_held : (serial low high : List ℕ) → IsTrue (is_in_block serial low high)
    → (length low ≡ length serial) × (length high ≡ length serial)
length_held serial low high held =
    let both = first_so (nat_eq (length low) (length serial) && nat_eq (length high) (length serial))
    (is_up_to low serial && is_up_to serial high) held in
    let one : nat_eq (length low) (length serial) ≡ true =
    first_so (nat_eq (length low) (length serial)) (nat_eq (length high) (length serial)) both in
    let other : nat_eq (length high) (length serial) ≡ true =
    second_so (nat_eq (length low) (length serial)) (nat_eq (length high) (length serial)) both in
    let is_low : length low ≡ length serial = grind (arith, nat_tests) in
    let is_high : length high ≡ length serial = grind (arith, nat_tests) in
    (is_low, is_high)
