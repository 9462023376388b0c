-- The leaves of runs on a board ascend.
use Rattle.std.proofs.Common.{◌≡◌, ◌∙◌, ⊎_elim, ℕ, ◌+◌, ◌<◌, ◌≤◌, List, [], ◌∷◌, length, get_or, refl, sym, ap, subst, arith}
use Rattle.std.specs.Prelude.{flat_map, AllPairs}
use Rattle.edge_board.specs.Board.{Keeps}
use Rattle.key_state.specs.Row.{spent_in}
use Rattle.key_state.specs.KeyBlock.{row_of, row_start, FirstUnspent}
use Rattle.key_state.proofs.Rows.{row_length, row_keeps, row_cell}
use Rattle.lms_sign.specs.declared.key.SignKey.{SignKey}
use Rattle.lms_sign.specs.PublicKeys.{leaf_count}
use Rattle.module_record.specs.declared.module.Module.{Module}
use Rattle.bank_layout.specs.Recovery.{Standing, Recovers}
use Rattle.bank_layout.specs.Recovery.Holder.{module_board}
use Rattle.packager.specs.SigningRuns.{SigningRun, SpendsLeaf, leaf_of, leaf_if}
use Rattle.load_claims.specs.Lives.{IsRound, leaves_of}
use Rattle.load_claims.specs.Lives.{Round as LoadRound}
use Rattle.load_claims.proofs.Rows.{spent_le, spent_lt}
use Rattle.load_claims.proofs.Living.{Climbs, climbs_then, climbing_pairs, leaves_climb}
use Rattle.fwload_top.specs.BoardRuns.{BoardRun, Loads, Signs, Stays, image_before, image_after, IsRunOf, AreBoardRuns}
use Rattle.fwload_top.specs.BoardRuns.{SignsWith, leaves_used}
use Rattle.fwload_top.proofs.SigningLemmas.{few_leaves}

-- ---- one run

-- how many leaves of the key are spent in an image
abbrev spent_at : SignKey → List ℕ → ℕ
spent_at key image = spent_in (row_of (leaf_count key) image)

-- the image has room for the key's row
abbrev HasRow : SignKey → List ℕ → Type 0
HasRow key image = row_start + leaf_count key ≤ length image

-- What a run leaves of the number of spent leaves, and of the row's room.
record Uses (key : SignKey) (start left : List ℕ) (leaves : List ℕ) : Type 0 where
  climbs : Climbs (spent_at key start) leaves (spent_at key left)
  row : HasRow key left

module_row : (m : Module) (image : List ℕ) (now : Standing) → Recovers image (module_board m now) → HasRow m.key image
module_row m image now found = omega (arith, few_leaves m.key.kind found.2.text.0.limits.key.low, found.2.size)

loads_use : (m : Module) (r : LoadRound) → IsRound m r → Uses m.key r.start r.end (leaves_of m r)
loads_use m r round = record {
  climbs =
      subst (λ (row : List ℕ). Climbs (spent_in row) (leaves_of m r) (spent_at m.key r.end))
      (ap (λ (s : Standing). s.row) round.from.3)
      (subst (λ (row : List ℕ). Climbs (spent_in r.from.row) (leaves_of m r) (spent_in row))
      (ap (λ (s : Standing). s.row) round.to.3)
      (leaves_climb m r.from r.verdicts r.to r.sent r.whole round.keeps));
  row = module_row m r.end r.to round.to;
}

signs_use : (key : SignKey) (r : SigningRun) → HasRow key r.start → SpendsLeaf (leaf_count key) r
    → Uses key r.start r.left (leaf_if r.sent (leaf_of (leaf_count key) r))
signs_use key r fits spends = record { climbs = by_sent r.sent refl; row = omega (arith, spends.kept.size, fits) }
  where
    rows : Keeps (λ place. place ≡ spent_at key r.start) (row_of (leaf_count key) r.start)
        (row_of (leaf_count key) r.left)
    rows = row_keeps {free = FirstUnspent (leaf_count key) r.start} {places = λ place. place ≡ spent_at key r.start}
        (leaf_count key) r.start r.left fits (λ place lt first. omega (arith, first.1)) spends.kept

    by_sent : (s : List ℕ) → r.sent ≡ s
        → Climbs (spent_at key r.start) (leaf_if s (leaf_of (leaf_count key) r)) (spent_at key r.left)
    by_sent [] is = spent_le (row_of (leaf_count key) r.start) (row_of (leaf_count key) r.left) rows.size rows.each
    by_sent (octet ∷ octets) is =
        let spent = spends.spent (omega (arith, ap length is)) in
        let blank : get_or (row_of (leaf_count key) r.left) (spent_at key r.start) 0 ≡ 0 =
        row_cell (leaf_count key) (spent_at key r.start) r.left spent.0 ∙ spent.1 in
        let more : spent_at key r.start < spent_at key r.left =
        spent_lt (row_of (leaf_count key) r.start) (row_of (leaf_count key) r.left) rows.size rows.each
        (omega (arith, spent.0, row_length (leaf_count key) r.start fits)) blank in
        (omega arith, omega (arith, more))

run_uses : (key : SignKey) (r : BoardRun) → HasRow key (image_before r) → IsRunOf key r
    → Uses key (image_before r) (image_after r) (leaves_used key r)
run_uses key (Loads m r) fits is =
    subst (λ (k : SignKey). Uses k r.start r.end (leaves_of m r)) is.0 (loads_use m r is.1)
run_uses key (Signs output r) fits is = signs_use key r fits is.leaf
run_uses key (Stays image) fits is = record { climbs = omega arith; row = fits }

-- ---- all of them

all_climb : (key : SignKey) (image : List ℕ) (runs : List BoardRun) → HasRow key image → AreBoardRuns key image runs
    → (high : ℕ) × Climbs (spent_at key image) (flat_map (leaves_used key) runs) high
all_climb key image [] fits are = (spent_at key image, omega arith)
all_climb key image (r ∷ runs) fits are =
    let uses : Uses key (image_before r) (image_after r) (leaves_used key r) =
    run_uses key r (subst (λ (i : List ℕ). HasRow key i) (sym are.0) fits) are.1 in
    let rest : (high : ℕ) × Climbs (spent_at key (image_after r)) (flat_map (leaves_used key) runs) high =
    all_climb key (image_after r) runs uses.row are.2 in (
      rest.0,
      climbs_then (spent_at key image) (spent_at key (image_after r)) rest.0 (leaves_used key r)
          (flat_map (leaves_used key) runs)
          (subst (λ (i : List ℕ). Climbs (spent_at key i) (leaves_used key r) (spent_at key (image_after r))) are.0
          uses.climbs)
          rest.1,
    )

has_row : (key : SignKey) (image : List ℕ) → SignsWith image key → HasRow key image
has_row key image signs = ⊎_elim
    (λ holds. omega (arith, few_leaves key.kind holds.text.0.low, holds.size))
    (λ by. subst (λ (k : SignKey). HasRow k image) by.2 (module_row by.0 image by.1 by.3))
    signs

pub leaves_ascend : (key : SignKey) (image : List ℕ) (runs : List BoardRun) → SignsWith image key
    → AreBoardRuns key image runs
    → AllPairs (λ earlier later. earlier < later) (flat_map (leaves_used key) runs)
leaves_ascend key image runs signs are =
    let climb : (high : ℕ) × Climbs (spent_at key image) (flat_map (leaves_used key) runs) high =
    all_climb key image runs (has_row key image signs) are in
    climbing_pairs (spent_at key image) climb.0 (flat_map (leaves_used key) runs) climb.1
