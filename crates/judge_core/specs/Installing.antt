-- What the verdict on a package that is accepted gives who installs it.
use Rattle.std.specs.Prelude.{ℕ, ◌+◌, ◌<◌, ◌≤◌, ◌^◌, List, length, IfSome}
use Rattle.std.specs.List.{AllByRecursion}
use Rattle.sha2.specs.Sha256.{sha256}
use Rattle.config_table.specs.State.{State, Offer, last_stale, with_package}
use Rattle.package_attrs.specs.Image.{blocks_for}
use Rattle.package_attrs.specs.Identifier.{IsName}
use Rattle.judge_core.specs.Conditions.{blocks_taken}
use Rattle.judge_core.specs.Verdicts.{Bench}

-- the tables once this package is installed, over the lengths of the images
abbrev pub tables_with : Bench → Offer → List ℕ → State ℕ
tables_with b offer image = with_package offer (sha256 image) (length image) b.state

-- What a package brings has a text, and there is room for it and for its image; the limits are this project's own.
pub record CanInstall (b : Bench) (offer : Offer) (image : List ℕ) : Type 0 where
  pub name : IsName offer.name
  pub makes_stale : IfSome offer.makes_stale (λ entry. IsName (last_stale entry))
  pub kind : IfSome offer.kind (λ kind. kind < 2 ^ 128)
  pub needs : AllByRecursion IsName offer.needs
  pub few_needs : length offer.needs ≤ 8
  -- the image has an octet, and goes into the module's blocks, by itself and with those of the other packages
  pub some : 1 ≤ length image
  pub alone : blocks_for (length image) ≤ b.holder.capacity
  pub fit : blocks_taken (tables_with b offer image) ≤ b.holder.capacity
  -- the tables have room
  pub packages : length (tables_with b offer image).packages ≤ 64
  pub stale : length (tables_with b offer image).stale ≤ 256
  -- the sequence number can be counted up
  pub sequence : b.sequence + 1 < 2 ^ 64
