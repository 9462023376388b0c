-- The runs of a board as spends and power cuts of the key's row.
use Rattle.std.proofs.Common.{◌≡◌, ℕ, ◌+◌, ◌<◌, ◌≤◌, ◌⊎◌, inl, List, [], ◌∷◌, ◌++◌, length, flat_map, Contains, refl, ap, subst, arith}
use Rattle.key_state.specs.Histories.{Event, gives, cuts, IsHistory, leaves_given}
use Rattle.key_state.specs.KeyBlock.{row_of, row_start, FirstUnspent}
use Rattle.key_state.specs.Row.{spent_in}
use Rattle.key_state.proofs.Rows.{row_keeps, row_length, row_used}
use Rattle.lms_sign.specs.declared.key.SignKey.{SignKey}
use Rattle.lms_sign.specs.PublicKeys.{leaf_count}
use Rattle.packager.specs.SigningRuns.{SigningRun, leaf_of, SpendsLeaf, leaf_if}
use Rattle.packager.specs.BoardRuns.{BoardRun, Signs, Stays, image_before, image_after, IsRunOf, AreBoardRuns, leaf_used}

-- a leaf is given where any octet was sent; a run that sent none is as a power cut
abbrev event_of : List ℕ → ℕ → List ℕ → Event
event_of [] leaf row = cuts row
event_of (octet ∷ octets) leaf row = gives leaf row

-- a run that leaves the board is as a power cut that changes nothing
abbrev run_of : ℕ → BoardRun → Event
run_of leaves (Signs output r) = event_of r.sent (leaf_of leaves r) (row_of leaves r.left)
run_of leaves (Stays image) = cuts (row_of leaves image)

abbrev pub events_of : ℕ → List BoardRun → List Event
events_of leaves [] = []
events_of leaves (r ∷ rs) = run_of leaves r ∷ events_of leaves rs

-- a signing run is such an event
run_event : (leaves : ℕ) (r : SigningRun) (events : List Event) → row_start + leaves ≤ length r.start
    → SpendsLeaf leaves r → IsHistory (row_of leaves r.left) [] events
    → IsHistory (row_of leaves r.start) [] (event_of r.sent (leaf_of leaves r) (row_of leaves r.left) ∷ events)
run_event leaves r events fits spends more = by_sent r.sent refl
  where
    by_sent : (s : List ℕ) → r.sent ≡ s
        → IsHistory (row_of leaves r.start) [] (event_of s (leaf_of leaves r) (row_of leaves r.left) ∷ events)
    by_sent [] is = (
      row_keeps {free = FirstUnspent leaves r.start} {places = λ place. (place ≡ spent_in (row_of leaves r.start)) ⊎ Contains [] place}
          leaves r.start r.left fits (λ place lt first. inl (omega (arith, first.1))) spends.kept,
      more,
    )
    by_sent (octet ∷ octets) is =
        let some : 0 < length r.sent = omega (arith, ap length is) in
        let spent = spends.spent some in (
          (
            omega (arith, row_length leaves r.start fits, spent.0),
            refl,
            row_used leaves r.start r.left fits spent.0 spends.kept spent.1,
          ),
          more,
        )

stays_event : (row : List ℕ) (events : List Event) → IsHistory row [] events
    → IsHistory row [] (cuts row ∷ events)
stays_event row events more = (record { size = refl; each = λ i other. refl }, more)

-- what a run leaves has room for the row
leaves_room : (key : SignKey) (r : BoardRun) → IsRunOf key r → length (image_after r) ≡ length (image_before r)
leaves_room key (Signs output r) signs = signs.leaf.kept.size
leaves_room key (Stays image) stays = refl

run_history : (key : SignKey) (r : BoardRun) (events : List Event) → IsRunOf key r
    → row_start + leaf_count key ≤ length (image_before r)
    → IsHistory (row_of (leaf_count key) (image_after r)) [] events
    → IsHistory (row_of (leaf_count key) (image_before r)) [] (run_of (leaf_count key) r ∷ events)
run_history key (Signs output r) events signs fits more = run_event (leaf_count key) r events fits signs.leaf more
run_history key (Stays image) events stays fits more = stays_event (row_of (leaf_count key) image) events more

-- runs are a history of the row
pub runs_history : (key : SignKey) (image : List ℕ) (runs : List BoardRun)
    → row_start + leaf_count key ≤ length image → AreBoardRuns key image runs
    → IsHistory (row_of (leaf_count key) image) [] (events_of (leaf_count key) runs)
runs_history key image [] fits are = tt
runs_history key image (r ∷ rs) fits (begins, is, more) =
    let starts : row_start + leaf_count key ≤ length (image_before r) = omega (arith, fits, ap length begins) in
    let left : row_start + leaf_count key ≤ length (image_after r) = omega (arith, starts, leaves_room key r is) in
    subst (λ (i : List ℕ). IsHistory (row_of (leaf_count key) i) [] (events_of (leaf_count key) (r ∷ rs))) begins
    (run_history key r (events_of (leaf_count key) rs) is starts (runs_history key (image_after r) rs left more))

given_by : (s : List ℕ) (leaf : ℕ) (row given : List ℕ) (events : List Event) → leaves_given events ≡ given
    → leaves_given (event_of s leaf row ∷ events) ≡ leaf_if s leaf ++ given
given_by [] leaf row given events more = more
given_by (octet ∷ octets) leaf row given events more = ap (λ (leaves : List ℕ). leaf ∷ leaves) more

-- and the leaves that it gives are those of which octets were sent
pub given_are_used : (leaves : ℕ) (runs : List BoardRun)
    → leaves_given (events_of leaves runs) ≡ flat_map (leaf_used leaves) runs
given_are_used leaves [] = refl
given_are_used leaves (Signs output r ∷ rs) =
    given_by r.sent (leaf_of leaves r) (row_of leaves r.left) (flat_map (leaf_used leaves) rs) (events_of leaves rs)
    (given_are_used leaves rs)
given_are_used leaves (Stays image ∷ rs) = given_are_used leaves rs
