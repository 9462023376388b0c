-- How many blocks the images of a state take.
use Rattle.std.proofs.Common.{◌≡◌, ℕ, ◌+◌, ◌≤◌, ◌<◌, List, [], ◌∷◌, length, take, get_or, slice_get, Bool, true, false, Some, None, map, refl, ap, arith, sym, ◌∙◌}
use Rattle.std.specs.List.{sum_by, find}
use Rattle.std.proofs.lemmas.List.Sums.{sum_by-cons, sum_by_more}
use Rattle.std.proofs.lemmas.Option.{slice_get-get_or}
use Rattle.std.specs.Option.{option_map_or}
use Rattle.package_attrs.specs.Image.{blocks_for}
use Rattle.package_attrs.specs.declared.name.PackageName.TheVariants as names
use Rattle.config_table.specs.State.{Entry, State, Offer, placed, entry_for, with_package, entry_with}
use Rattle.config_table.proofs.StateLemmas.{with_package-state_with}
use Rattle.config_table.specs.Stored.{Stored, lengths}
use Rattle.config_table.specs.Names.{is_same}
use Rattle.judge_core.specs.Conditions.{blocks_taken}

-- the blocks of a stored image
abbrev pub blocks_in : Entry Stored → ℕ
blocks_in entry = blocks_for entry.image.length

-- a package that isn't there
no_entry : Entry Stored
no_entry = record {
  name = names.Legacy [];
  digest = [];
  image = record { length = 0; blocks = [] };
  kind = None;
  needs = [];
}

-- the same sum, over the entries as they are kept
pub taken_as_kept : (packages : List (Entry Stored))
    → sum_by (λ (entry : Entry ℕ). blocks_for entry.image) (map (entry_with (λ (image : Stored). image.length)) packages)
    ≡ sum_by blocks_in packages
taken_as_kept [] = refl
taken_as_kept (entry ∷ packages) =
    let here = entry_with (λ (image : Stored). image.length) entry in
    let rest = map (entry_with (λ (image : Stored). image.length)) packages in
    omega (
      arith,
      sum_by-cons (λ (e : Entry ℕ). blocks_for e.image) here rest,
      sum_by-cons blocks_in entry packages,
      taken_as_kept packages,
    )

-- what a package that takes the place of another, or goes last, makes of the sum
pub placed_sum : (f : Entry Stored → ℕ) (new : Entry Stored) (packages : List (Entry Stored))
    → sum_by f (placed new packages) + option_map_or f (find (λ entry. is_same new.name entry.name) packages) 0
    ≡ sum_by f packages + f new
placed_sum f new [] = omega (arith, sum_by-cons f new [])
placed_sum f new (old ∷ packages) = by_case (is_same new.name old.name) refl (placed_sum f new packages)
  where
    by_case : (same : Bool) → is_same new.name old.name ≡ same
        → sum_by f (placed new packages) + option_map_or f (find (λ entry. is_same new.name entry.name) packages) 0
        ≡ sum_by f packages + f new
        → sum_by f (placed new (old ∷ packages))
        + option_map_or f (find (λ entry. is_same new.name entry.name) (old ∷ packages)) 0
        ≡ sum_by f (old ∷ packages) + f new
    by_case true e rest = rw e omega (arith, sum_by-cons f new packages, sum_by-cons f old packages)
    by_case false e rest =
        rw e omega (arith, sum_by-cons f old (placed new packages), sum_by-cons f old packages, rest)

-- the one that is found is among them
pub found_within : (f : Entry Stored → ℕ) (test : Entry Stored → Bool) (packages : List (Entry Stored))
    → option_map_or f (find test packages) 0 ≤ sum_by f packages
found_within f test [] = omega arith
found_within f test (old ∷ packages) = by_case (test old) refl (found_within f test packages)
  where
    by_case : (same : Bool) → test old ≡ same → option_map_or f (find test packages) 0 ≤ sum_by f packages
        → option_map_or f (find test (old ∷ packages)) 0 ≤ sum_by f (old ∷ packages)
    by_case true e rest = rw e omega (arith, sum_by-cons f old packages)
    by_case false e rest = rw e omega (arith, sum_by-cons f old packages, rest)

-- one package more
pub sum_more : (f : Entry Stored → ℕ) (packages : List (Entry Stored)) (i n : ℕ) → i < length packages
    → ((entry : Entry Stored) → slice_get packages i ≡ Some entry → n ≡ f entry)
    → sum_by f (take (i + 1) packages) ≡ sum_by f (take i packages) + n
sum_more f packages i n within is =
    let here = get_or packages i no_entry in
    omega (
      arith,
      sum_by_more f packages i no_entry within,
      is (get_or packages i no_entry) (slice_get-get_or packages i no_entry within),
    )

-- the sum once a package is installed, over the lengths
pub installed_sum : (offer : Offer) (digest : List ℕ) (image : ℕ) (state : State Stored)
    → blocks_taken (with_package offer digest image (lengths state))
    + option_map_or blocks_in (find (λ entry. is_same offer.name entry.name) state.packages) 0
    ≡ blocks_taken (lengths state) + blocks_for image
installed_sum offer digest image state =
    let kept = with_package offer digest (record { length = image; blocks = [] }) state in
    let same = with_package-state_with (λ (s : Stored). s.length) offer digest (record { length = image; blocks = [] }) state in
    let after : blocks_taken (with_package offer digest image (lengths state)) ≡ sum_by blocks_in kept.packages =
    sym (ap blocks_taken same) ∙ taken_as_kept kept.packages in
    omega (
      arith,
      after,
      taken_as_kept state.packages,
      placed_sum blocks_in (entry_for offer digest (record { length = image; blocks = [] })) state.packages,
    )
