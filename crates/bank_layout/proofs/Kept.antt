-- The state that an install makes can be kept, and the banks are places.
use Rattle.std.proofs.Common.{◌≡◌, inl, inr, ℕ, ◌*◌, ◌<◌, List, [], ◌∷◌, length, Option, Some, None, arith}
use Rattle.std.proofs.Common.{refl, length-append}
use Rattle.std.proofs.lemmas.List.Sums.{sum_by-cons}
use Rattle.std.specs.Prelude.{sum_by, IfSome}
use Rattle.std.proofs.lemmas.Bool.{cases_Bool}
use Rattle.std.specs.List.{AllByRecursion}
use Rattle.package_attrs.specs.Image.{blocks_for}
use Rattle.bank_gate.specs.Places.{IsPlace}
use Rattle.package_attrs.specs.Identifier.{IsName}
use Rattle.config_table.specs.declared.stale_entry.StaleEntry.{StaleEntry}
use Rattle.config_table.specs.declared.stale_entry.StaleEntry.TheVariants as entries
use Rattle.config_table.specs.Names.{is_same}
use Rattle.config_table.specs.State.{Entry, State, Offer, entry_for, placed, raised, raised_by, greater, last_stale, with_package}
use Rattle.config_table.specs.Stored.{Stored}
use Rattle.config_table.proofs.StateLemmas.{distinct_with}
use Rattle.bank_layout.specs.declared.bank.Bank.{Bank}
use Rattle.bank_layout.specs.Layout.{place_of}
use Rattle.bank_layout.specs.declared.bank.Bank.TheVariants as banks
use Rattle.bank_layout.specs.Manifest.{IsEntry, IsKept, blocks_in}
use Rattle.bank_layout.specs.Changes.{IsNew}
use Rattle.bank_layout.proofs.Placed.{below_placed, blocks_apart}

entries_placed : (new : Entry Stored) (es : List (Entry Stored)) → IsEntry new → AllByRecursion IsEntry es
    → AllByRecursion IsEntry (placed new es)
entries_placed new [] p q = (p, tt)
entries_placed new (old ∷ rest) p q = elim (cases_Bool (is_same new.name old.name)) [
  | inl same ↦ rw same (p, q.1)
  | inr differs ↦ rw differs (q.0, entries_placed new rest p q.1)
]

abbrev IsStaleName : StaleEntry → Type 0
IsStaleName entry = IsName (last_stale entry)

greater_valid : (old new : StaleEntry) → IsStaleName old → IsStaleName new → IsStaleName (greater old new)
greater_valid (entries.Preferred id n) (entries.Preferred id' n') p q = (p.0, omega (arith, p.1, q.1))
greater_valid (entries.Preferred id n) (entries.Legacy octets) p q = p
greater_valid (entries.Legacy octets) new p q = p

raised_valid : (new : StaleEntry) (es : List StaleEntry) → IsStaleName new → AllByRecursion IsStaleName es
    → AllByRecursion IsStaleName (raised new es)
raised_valid new [] p q = (p, tt)
raised_valid new (old ∷ rest) p q = elim (cases_Bool (is_same (last_stale new) (last_stale old))) [
  | inl same ↦ rw same (greater_valid old new q.0 p, q.1)
  | inr differs ↦ rw differs (q.0, raised_valid new rest p q.1)
]

raised_by_valid : (made : Option StaleEntry) (es : List StaleEntry) → IfSome made IsStaleName
    → AllByRecursion IsStaleName es → AllByRecursion IsStaleName (raised_by made es)
raised_by_valid None es p q = q
raised_by_valid (Some new) es p q = raised_valid new es p q

pub kept_after : (capacity : ℕ) (offer : Offer) (digest : List ℕ) (stored : Stored) (state : State Stored)
    → IsKept capacity state → IsNew capacity offer digest stored state
    → IsKept capacity (with_package offer digest stored state)
kept_after capacity offer digest stored state kept new = record {
  packages = new.packages;
  entries = entries_placed (entry_for offer digest stored) state.packages new.entry kept.entries;
  stale = new.stale;
  stale_entries = raised_by_valid offer.makes_stale state.stale new.makes_stale kept.stale_entries;
  distinct = distinct_with offer digest stored state kept.distinct;
  blocks = record {
    below =
        below_placed (λ n. n < 2 * capacity) (entry_for offer digest stored) state.packages new.below kept.blocks.below;
    apart = blocks_apart (entry_for offer digest stored) state.packages new.apart kept.blocks.apart new.own;
    few = new.fit;
  };
}

pub bank_places : (bank : Bank) → IsPlace (place_of bank)
bank_places banks.Zero = record {
  below = record { gate = omega arith; manifest = omega arith; area = omega arith };
  gate_manifest = λ block g m. omega (arith, g.0, g.1, m.0, m.1);
  gate_area = λ block g m. omega (arith, m.0, m.1);
  manifest_area = λ block g m. omega (arith, m.0, m.1);
}
bank_places banks.One = record {
  below = record { gate = omega arith; manifest = omega arith; area = omega arith };
  gate_manifest = λ block g m. omega (arith, g.0, g.1, m.0, m.1);
  gate_area = λ block g m. omega (arith, m.0, m.1);
  manifest_area = λ block g m. omega (arith, m.0, m.1);
}

-- as many blocks are named as the lengths of the images ask for
pub blocks_counted : (es : List (Entry Stored)) → AllByRecursion IsEntry es
    → length (blocks_in es) ≡ sum_by (λ (entry : Entry Stored). blocks_for entry.image.length) es
blocks_counted [] v = refl
blocks_counted (e ∷ es) v = omega (
  arith,
  v.0.blocks,
  blocks_counted es v.1,
  length-append e.image.blocks (blocks_in es),
  sum_by-cons (λ (entry : Entry Stored). blocks_for entry.image.length) e es,
)

-- and so it is after a package was placed
pub placed_counted : (capacity : ℕ) (offer : Offer) (digest : List ℕ) (stored : Stored) (state : State Stored)
    → IsKept capacity state → IsEntry (entry_for offer digest stored)
    → length (blocks_in (placed (entry_for offer digest stored) state.packages))
    ≡ sum_by (λ (entry : Entry Stored). blocks_for entry.image.length) (placed (entry_for offer digest stored) state.packages)
placed_counted capacity offer digest stored state kept new =
    blocks_counted (placed (entry_for offer digest stored) state.packages)
    (entries_placed (entry_for offer digest stored) state.packages new kept.entries)
