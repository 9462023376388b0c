-- What stands on the board of an opened store.
use Rattle.std.proofs.Common.{◌≡◌, ℕ, List, length, refl, sym}
use Rattle.config_table.specs.State.{state_with}
use Rattle.bank_layout.specs.Recovery.{standing_of}
use Rattle.module_store.specs.declared.store.Store.{Store}
use Rattle.module_store.specs.Store.{IsStoreOf, manifest_of}
use Rattle.config_table.specs.Stored.{lengths}
use Rattle.fwload_top.specs.Standing.{StandsAt}

-- it is what the store says, whose images have the lengths of its manifest
abbrev pub stands_at : (s : Store) (cells : List ℕ) → IsStoreOf s cells
    → state_with (λ (octets : List ℕ). length octets) (standing_of s.module (manifest_of s) cells).state ≡ lengths s.state
    → StandsAt cells s.module s.sequence (lengths s.state)
stands_at s cells holds same = record {
  standing = standing_of s.module (manifest_of s) cells;
  recovers = (s.running, manifest_of s, holds, refl);
  sequence_is = refl;
  state_is = sym same;
}
