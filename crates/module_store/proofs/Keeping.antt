-- What a manifest that is in force says of a state: a manifest can keep it, and its blocks are the module's own.
use Rattle.std.proofs.Common.{ℕ, Option, None, Some, refl, sym, subst, arith}
use Rattle.std.specs.List.{IsDistinct}
use Rattle.config_table.specs.State.{empty_state}
use Rattle.bank_layout.specs.declared.bank.Bank.{Bank}
use Rattle.bank_layout.specs.Manifest.{Manifest, AreOwnBlocks, IsKept, named_blocks}
use Rattle.bank_layout.specs.Recovery.{first_manifest}
use Rattle.module_store.specs.Store.{CanRun}

module _ (capacity : ℕ) where
  pub own_blocks : (running : Option Bank) (m : Manifest) → CanRun capacity running m
      → AreOwnBlocks capacity (named_blocks m.state)
  own_blocks None m is =
      subst (λ (x : Manifest). AreOwnBlocks capacity (named_blocks x.state)) (sym is)
      (record {
        below = λ k d lt. absurd (omega (arith, lt));
        apart = λ i j d lt less. absurd (omega (arith, less));
        few = omega arith;
      })
  own_blocks (Some bank) m valid = valid.state.blocks

  -- and its state can be kept
  nothing_kept : IsKept capacity empty_state
  unfolding IsDistinct
  nothing_kept = record {
    packages = omega arith;
    entries = tt;
    stale = omega arith;
    stale_entries = tt;
    distinct = record { packages = tt; stale = tt };
    blocks = own_blocks None first_manifest refl;
  }

  pub can_keep : (running : Option Bank) (m : Manifest) → CanRun capacity running m → IsKept capacity m.state
  can_keep None m is = subst (λ (x : Manifest). IsKept capacity x.state) (sym is) nothing_kept
  can_keep (Some bank) m valid = valid.state
