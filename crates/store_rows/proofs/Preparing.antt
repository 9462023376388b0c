-- A package whose image stands in free blocks can be prepared.
use Rattle.std.proofs.Common.{◌≡◌, ℕ, ◌+◌, ◌<◌, ◌≤◌, ◌^◌, Bool, true, List, ◌++◌, length, Option, IfSome, All, Contains, sym, ap, subst, ◌∙◌, arith}
use Rattle.std.specs.List.{AllByRecursion}
use Rattle.std.specs.Option.{option_and_then}
use Rattle.std.proofs.lemmas.Bool.{false≢true}
use Rattle.std.proofs.lemmas.List.Elements.{Contains-get_or, Contains-append_left}
use Rattle.block_pool.specs.Numbers.{IsApart}
use Rattle.block_pool.specs.Pools.{IsFree, LiveExactly, marked}
use Rattle.block_pool.proofs.PoolLemmas.{length-marked}
use Rattle.package_attrs.specs.Image.{blocks_for}
use Rattle.package_attrs.specs.declared.name.PackageName.{PackageName}
use Rattle.package_attrs.specs.declared.name.Stale.{Stale}
use Rattle.package_attrs.specs.Description.{Description}
use Rattle.package_attrs.specs.Identifier.{IsName}
use Rattle.config_table.specs.State.{State, last_stale, made_stale, offer_of, with_package}
use Rattle.config_table.specs.Stored.{Stored}
use Rattle.bank_layout.specs.Manifest.{named_blocks}
use Rattle.module_store.specs.Store.{CanPrepare, IsQuiet, IsStore}
use Rattle.module_store.specs.declared.store.Store.{Store}
use Rattle.store_rows.specs.Plain.{IsPlain}

-- a block that is free isn't one of the live ones
free_is_not_live : (pool : List Bool) (numbers named : List ℕ) → All (IsFree pool) numbers → LiveExactly pool named
    → (n : ℕ) → Contains numbers n → ¬ Contains named n
free_is_not_live pool numbers named free live n (k, lt, is) there =
    false≢true (sym (subst (λ (m : ℕ). IsFree pool m) is (free k n lt)).1 ∙ (live n).1 there)

module _ (s : Store) (d : Description) (plain : IsPlain d) (digest : List ℕ) (digest_size : length digest ≡ 32)
    (size : ℕ) (numbers : List ℕ) (valid : IsStore s) (quiet : IsQuiet s) where
  abbrev Image : Stored
  Image = record { length = size; blocks = numbers }

  abbrev After : State Stored
  After = with_package (offer_of d) digest Image s.state

  pub can_prepare : s.sequence + 1 < 2 ^ 64 → 1 ≤ size → length numbers ≡ blocks_for size → All (IsFree s.pool) numbers
      → IsApart numbers → length (named_blocks After) ≤ s.module.capacity → length After.packages ≤ 64
      → length After.stale ≤ 256
      → ((pool : List Bool) (named taken : List ℕ) → LiveExactly pool named → All (IsFree pool) taken
      → LiveExactly (marked true taken pool) (named ++ taken))
      → (pool : List Bool) → pool ≡ marked true numbers s.pool
      → CanPrepare (record s { pool = pool }) (offer_of d) digest Image
  can_prepare sequence some blocks free apart fit packages stale law pool pool_is = record {
    valid = record {
      owner = valid.owner;
      manifest = valid.manifest;
      blocks = ap (λ (p : List Bool). length p) pool_is ∙ length-marked true numbers s.pool ∙ valid.blocks;
      live = λ k e lt. (live _).1
          (Contains-append_left (named_blocks s.state) numbers _ (Contains-get_or (named_blocks s.state) k e lt));
    };
    sequence = sequence;
    fresh = record {
      entry = record {
        name = plain.name;
        digest = digest_size;
        some = some;
        blocks = blocks;
        kind = subst (λ (k : Option ℕ). IfSome k (λ kind. kind < 2 ^ 128)) (sym plain.kind) tt;
        needs = subst (λ (l : List PackageName). AllByRecursion IsName l) (sym plain.needs) tt;
        few_needs = subst (λ (l : List PackageName). length l ≤ 8) (sym plain.needs) (omega arith);
      };
      makes_stale = subst (λ (o : Option Stale). IfSome (option_and_then (made_stale d.identifier.name) o)
          (λ entry. IsName (last_stale entry))) (sym plain.stale) tt;
      below = λ k e lt. omega (arith, (free k e lt).0, valid.blocks);
      apart = apart;
      own = free_is_not_live s.pool numbers (named_blocks s.state) free quiet;
      fit = fit;
      packages = packages;
      stale = stale;
    };
    live = live;
  }
    where
      live : LiveExactly pool (named_blocks s.state ++ numbers)
      live = subst (λ (p : List Bool). LiveExactly p (named_blocks s.state ++ numbers)) (sym pool_is)
          (law s.pool (named_blocks s.state) numbers quiet free)
