-- What an accepted package brings, and the room that it needs; the limits of the tables and of the blocks are this
-- project's own.
use Rattle.std.specs.Prelude.{ℕ, ◌<◌, ◌≤◌, ◌^◌, List, length, IfSome}
use Rattle.std.specs.List.{AllByRecursion, sum_by}
use Rattle.package_attrs.specs.Image.{blocks_for}
use Rattle.package_attrs.specs.Identifier.{IsName}
use Rattle.config_table.specs.State.{Offer, State, last_stale, with_package}

-- What an offered package brings can be written (RFC 4108, sections 2.2.3 and 2.2.9).
pub record IsOffer (offer : Offer) : Type 0 where
  pub name : IsName offer.name
  pub makes_stale : IfSome offer.makes_stale (λ entry. IsName (last_stale entry))
  pub kind : IfSome offer.kind (λ kind. kind < 2 ^ 128)
  pub needs : AllByRecursion IsName offer.needs
  pub few_needs : length offer.needs ≤ 8

-- Beside images of these lengths there is room for the package with an image of so many octets: for all their blocks,
-- each image from the start of a block, and in both tables.
pub record HasRoomFor (capacity : ℕ) (offer : Offer) (digest : List ℕ) (size : ℕ) (state : State ℕ) : Type 0 where
  pub some : 1 ≤ size
  pub blocks : sum_by (λ entry. blocks_for entry.image) (with_package offer digest size state).packages ≤ capacity
  pub packages : length (with_package offer digest size state).packages ≤ 64
  pub stale : length (with_package offer digest size state).stale ≤ 256
