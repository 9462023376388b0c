-- A package that a module has room for finds blocks, and can be prepared.
use Rattle.std.proofs.Common.{◌≡◌, inl, inr, ℕ, ◌+◌, ◌*◌, ◌<◌, ◌≤◌, ◌^◌, Bool, true, List, [], ◌∷◌, ◌++◌, length, map, take, refl, sym, ◌∙◌, ap, subst, arith}
use Rattle.std.specs.Prelude.{Option, None, Some, IfSome, All, Contains}
use Rattle.std.specs.List.{sum_by}
use Rattle.std.specs.Option.{option_and_then}
use Rattle.std.proofs.lemmas.Bool.{cases_Bool, false≢true}
use Rattle.std.proofs.lemmas.List.{length-map, length-take-le}
use Rattle.std.proofs.lemmas.List.Sums.{sum_by-cons}
use Rattle.std.proofs.lemmas.List.Elements.{Contains-get_or, Contains-append_left}
use Rattle.block_pool.specs.Numbers.{IsApart}
use Rattle.block_pool.specs.Pools.{IsFree, LiveExactly, free_numbers, marked}
use Rattle.block_pool.proofs.PoolLemmas.{length-marked}
use Rattle.package_attrs.specs.Image.{blocks_for}
use Rattle.content_stream.specs.Plans.{TakesBlocks}
use Rattle.package_attrs.specs.declared.name.PackageName.{PackageName}
use Rattle.package_attrs.specs.declared.name.PackageName.TheVariants as names
use Rattle.package_attrs.specs.declared.name.Stale.{Stale}
use Rattle.package_attrs.specs.declared.name.Stale.TheVariants as stales
use Rattle.package_attrs.specs.Description.{Description}
use Rattle.package_attrs.specs.Identifier.{IsIdentifier, IsName, IsStale}
use Rattle.package_attrs.specs.Information.{IsInfo}
use Rattle.config_table.specs.Names.{is_same}
use Rattle.config_table.specs.State.{Entry, Offer, State, entry_for, entry_with, last_stale, made_stale, offer_of, placed, with_package}
use Rattle.config_table.specs.Stored.{Stored, lengths}
use Rattle.config_table.proofs.StateLemmas.{with_package-state_with}
use Rattle.bank_layout.specs.Manifest.{IsEntry, IsKept, named_blocks}
use Rattle.module_store.specs.declared.store.Store.{Store}
use Rattle.module_store.specs.Room.{HasRoomFor, IsOffer}
use Rattle.module_store.specs.Store.{CanPrepare, IsQuiet, IsStore, manifest_of}
use Rattle.module_store.proofs.Keeping.{can_keep}

-- ---- what is offered

made_is_named : (name : PackageName) (stale : Option Stale) → IsName name → IfSome stale IsStale
    → IfSome (option_and_then (made_stale name) stale) (λ entry. IsName (last_stale entry))
made_is_named name None named is = tt
made_is_named (names.Preferred id version) (Some (stales.Upto n)) named is = (named.0, is)
made_is_named (names.Preferred id version) (Some (stales.Legacy octets)) named is = tt
made_is_named (names.Legacy name) (Some (stales.Upto n)) named is = tt
made_is_named (names.Legacy name) (Some (stales.Legacy octets)) named is = is

-- what a description brings can be written
pub described_offer : (described : Description) → IsIdentifier described.identifier → IsInfo described.info
    → IsOffer (offer_of described)
described_offer described identifier info = record {
  name = identifier.name;
  makes_stale = made_is_named described.identifier.name described.identifier.stale identifier.name identifier.stale;
  kind = info.kind;
  needs = info.dependencies;
  few_needs = info.count;
}

-- ---- lengths

-- the new one counts
placed_counts : (new : Entry Stored) (entries : List (Entry Stored))
    → blocks_for new.image.length ≤ sum_by (λ (entry : Entry Stored). blocks_for entry.image.length) (placed new entries)
placed_counts new [] = omega (arith, sum_by-cons (λ (entry : Entry Stored). blocks_for entry.image.length) new [])
placed_counts new (old ∷ rest) = elim (cases_Bool (is_same new.name old.name)) [
  | inl same ↦ rw same
      (omega (arith, sum_by-cons (λ (entry : Entry Stored). blocks_for entry.image.length) new rest))
  | inr differs ↦ rw differs (omega (
    arith,
    placed_counts new rest,
    sum_by-cons (λ (entry : Entry Stored). blocks_for entry.image.length) old (placed new rest),
  ))
]

-- the lengths alone tell how many blocks all images take
sum_lengths : (entries : List (Entry Stored))
    → sum_by (λ (entry : Entry ℕ). blocks_for entry.image) (map (entry_with (λ (i : Stored). i.length)) entries)
    ≡ sum_by (λ (entry : Entry Stored). blocks_for entry.image.length) entries
sum_lengths [] = refl
sum_lengths (e ∷ rest) = omega (
  arith,
  sum_lengths rest,
  sum_by-cons (λ (entry : Entry ℕ). blocks_for entry.image) (entry_with (λ (i : Stored). i.length) e)
      (map (entry_with (λ (i : Stored). i.length)) rest),
  sum_by-cons (λ (entry : Entry Stored). blocks_for entry.image.length) e rest,
)

module _ (capacity : ℕ) (offer : Offer) (digest : List ℕ) (size : ℕ) (state : State Stored)
    (room : HasRoomFor capacity offer digest size (lengths state)) (numbers : List ℕ) where
  abbrev Image : Stored
  Image = record { length = size; blocks = numbers }

  abbrev After : State Stored
  After = with_package offer digest Image state

  -- whatever blocks the image has
  after_is : lengths After ≡ with_package offer digest size (lengths state)
  after_is = with_package-state_with (λ (i : Stored). i.length) offer digest Image state

  pub sum_fits : sum_by (λ (entry : Entry Stored). blocks_for entry.image.length) After.packages ≤ capacity
  sum_fits = omega (
    arith,
    room.blocks,
    sum_lengths After.packages,
    ap (λ (t : State ℕ). sum_by (λ (entry : Entry ℕ). blocks_for entry.image) t.packages) after_is,
  )

  pub image_fits : blocks_for size ≤ capacity
  image_fits = omega (arith, sum_fits, placed_counts (entry_for offer digest Image) state.packages)

  pub few_packages : length After.packages ≤ 64
  few_packages = omega (
    arith,
    room.packages,
    ap (λ (t : State ℕ). length t.packages) after_is,
    length-map After.packages (entry_with (λ (i : Stored). i.length)),
  )

  pub few_stale : length After.stale ≤ 256
  few_stale = omega (arith, room.stale, ap (λ (t : State ℕ). length t.stale) after_is)

-- ---- the store

free_is_not_live : (pool : List Bool) (numbers named : List ℕ) → All (IsFree pool) numbers → LiveExactly pool named
    → (n : ℕ) → Contains numbers n → ¬ Contains named n
free_is_not_live pool numbers named free live n (k, lt, is) there =
    false≢true (sym (subst (λ (m : ℕ). IsFree pool m) is (free k n lt)).1 ∙ (live n).1 there)

module _ (s : Store) (offer : Offer) (digest : List ℕ) (size : ℕ) (pool : List Bool) (valid : IsStore s)
    (quiet : IsQuiet s) (room : HasRoomFor s.module.capacity offer digest size (lengths s.state)) where
  kept : IsKept s.module.capacity s.state
  kept = can_keep s.module.capacity s.running (manifest_of s) valid.manifest

  -- half of the blocks are free
  pub finds_blocks : ((pool : List Bool) (named : List ℕ) (capacity : ℕ) → LiveExactly pool named
      → length pool ≡ 2 * capacity → length named ≤ capacity → capacity ≤ length (free_numbers pool))
      → ¬ TakesBlocks (blocks_for size) s.pool pool None
  finds_blocks half none = absurd (omega (
    arith,
    none.0,
    image_fits s.module.capacity offer digest size s.state room [],
    half s.pool (named_blocks s.state) s.module.capacity quiet valid.blocks kept.blocks.few,
  ))

  module _ (numbers : List ℕ) (taken : TakesBlocks (blocks_for size) s.pool pool (Some numbers)) where
    abbrev Stands : Stored
    Stands = record { length = size; blocks = numbers }

    pub can_prepare : ((pool : List Bool) (n : ℕ) → IsApart (take n (free_numbers pool)))
        → ((pool : List Bool) (n : ℕ) → All (IsFree pool) (take n (free_numbers pool)))
        → ((pool : List Bool) (named taken : List ℕ) → LiveExactly pool named → All (IsFree pool) taken
        → LiveExactly (marked true taken pool) (named ++ taken))
        → ((capacity : ℕ) (offer : Offer) (digest : List ℕ) (stored : Stored) (state : State Stored)
        → IsKept capacity state → IsEntry (entry_for offer digest stored)
        → length (named_blocks (with_package offer digest stored state))
        ≡ sum_by (λ (entry : Entry Stored). blocks_for entry.image.length) (with_package offer digest stored state).packages)
        → IsOffer offer → length digest ≡ 32 → s.sequence + 1 < 2 ^ 64
        → CanPrepare (record s { pool = pool }) offer digest Stands
    can_prepare apart_law free_law live_law asked is digest_size sequence = record {
      valid = record {
        owner = valid.owner;
        manifest = valid.manifest;
        blocks = ap (λ (p : List Bool). length p) taken.2 ∙ length-marked true numbers s.pool ∙ valid.blocks;
        live = λ k e lt. (live _).1
            (Contains-append_left (named_blocks s.state) numbers _ (Contains-get_or (named_blocks s.state) k e lt));
      };
      sequence = sequence;
      fresh = record {
        entry = entry;
        makes_stale = is.makes_stale;
        below = λ k e lt. omega (arith, (free k e lt).0, valid.blocks);
        apart = subst (λ (l : List ℕ). IsApart l) (sym taken.1) (apart_law s.pool (blocks_for size));
        own = free_is_not_live s.pool numbers (named_blocks s.state) free quiet;
        fit = omega (
          arith,
          asked s.module.capacity offer digest Stands s.state kept entry,
          sum_fits s.module.capacity offer digest size s.state room numbers,
        );
        packages = few_packages s.module.capacity offer digest size s.state room numbers;
        stale = few_stale s.module.capacity offer digest size s.state room numbers;
      };
      live = live;
    }
      where
        free : All (IsFree s.pool) numbers
        free = subst (λ (l : List ℕ). All (IsFree s.pool) l) (sym taken.1) (free_law s.pool (blocks_for size))

        live : LiveExactly pool (named_blocks s.state ++ numbers)
        live = subst (λ (p : List Bool). LiveExactly p (named_blocks s.state ++ numbers)) (sym taken.2)
            (live_law s.pool (named_blocks s.state) numbers quiet free)

        entry : IsEntry (entry_for offer digest Stands)
        entry = record {
          name = is.name;
          digest = digest_size;
          some = room.some;
          blocks = ap length taken.1 ∙ length-take-le (blocks_for size) (free_numbers s.pool) taken.0;
          kind = is.kind;
          needs = is.needs;
          few_needs = is.few_needs;
        }
