-- What is seen of the input of a run, and what of its source is still to be handed on.
use Rattle.std.specs.Prelude.{◌≡◌, ℕ, ◌+◌, ◌<◌, ◌^◌, ◌-◌, List, [], ◌∷◌, length, Option}
use Rattle.std.specs.Io.KnownBytes.{Keeps, Consumes, prepend_known}
use Rattle.edge_board.specs.Supply.{Supply}
use Rattle.load_input.specs.declared.input.ReadFault.{ReadFault}
use Rattle.load_input.specs.declared.input.ReadFault.TheVariants.{Failed, TooLong}

-- the octets that were taken and not handed on yet, and how many were handed on
pub record Buffered : Type 0 where
  pub octets : List ℕ
  pub passed : ℕ

-- what is still to be handed on, where the source tells it
abbrev pub ahead : Buffered → Supply → Option (List ℕ)
ahead b supply = prepend_known b.octets supply.left

-- Of the octets that the source gave meanwhile each was handed on or is there, but for these so many.
abbrev pub IsCounted : ℕ → Buffered → Buffered → ℕ → ℕ → Type 0
IsCounted n old new before now = now + (old.passed + length old.octets) ≡ before + (new.passed + length new.octets) + n

-- Nothing was there to be handed on, and a read has failed: nothing has changed.
pub record IsStopped (old new : Buffered) (before now : Supply) : Type 0 where
  pub none : old.octets ≡ []
  pub same : new ≡ old
  pub kept : Keeps (ahead old before) (ahead new now)
  pub taken : now.taken ≡ before.taken

-- The limit was handed on, and one octet more was taken, which isn't handed on.
pub record IsOver (old new : Buffered) (before now : Supply) : Type 0 where
  pub whole : old.passed ≡ 2 ^ 32
  pub none : old.octets ≡ []
  pub same : new ≡ old
  pub octet : ℕ
  pub text : Consumes (ahead old before) (ahead new now) (octet ∷ [])
  pub counted : now.taken < 2 ^ 64 - 1 → now.taken ≡ before.taken + 1

-- why nothing came, and what stands then
abbrev pub Fails : Buffered → Buffered → Supply → Supply → ReadFault → Type 0
Fails old new before now Failed = IsStopped old new before now
Fails old new before now TooLong = IsOver old new before now
