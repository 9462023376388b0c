-- An image has the length that its manifest gives it.
use Rattle.std.proofs.Common.{◌≡◌, ◌∙◌, ℕ, zero, suc, ◌+◌, ◌*◌, ◌<◌, ◌≤◌, List, [], ◌∷◌, length, map, Option, Some, None, refl, sym, ap, subst, arith, length-take}
use Rattle.std.specs.List.{AllByRecursion}
use Rattle.std.proofs.lemmas.List.Elements.{recursion_from_All}
use Rattle.content_stream.specs.ImageBlocks.{octets_of}
use Rattle.package_attrs.specs.Image.{blocks_for}
use Rattle.content_stream.proofs.ReadLemmas.{LieIn, length-octets_of}
use Rattle.config_table.specs.State.{Entry, entry_with, state_with}
use Rattle.config_table.specs.Stored.{Stored}
use Rattle.module_record.specs.declared.module.Module.{Module}
use Rattle.bank_layout.specs.declared.bank.Bank.{Bank}
use Rattle.bank_layout.specs.Layout.{first_image_block}
use Rattle.bank_layout.specs.Manifest.{Manifest, IsEntry, blocks_in}
use Rattle.bank_layout.specs.Recovery.{HoldsModule, image_octets, standing_of}
use Rattle.bank_layout.proofs.Placed.{all_front, all_back}

-- the numbers are below this one
abbrev AreBelow : ℕ → List ℕ → Type 0
AreBelow most numbers = AllByRecursion (λ n. n < most) numbers

module _ (most : ℕ) (cells : List ℕ) (room : 4096 * (first_image_block + most) ≤ length cells) where
  lie_in : (numbers : List ℕ) → AreBelow most numbers → LieIn first_image_block cells numbers
  lie_in [] below k lt = absurd (omega (arith, lt))
  lie_in (n ∷ numbers) below zero lt = omega (arith, room, below.0)
  lie_in (n ∷ numbers) below (suc k) lt = lie_in numbers below.1 k (omega (arith, lt))

  length_of : (stored : Stored) → AreBelow most stored.blocks → length stored.blocks ≡ blocks_for stored.length
      → length (image_octets cells stored) ≡ stored.length
  length_of stored below enough = omega (
    arith,
    enough,
    length-take stored.length (octets_of first_image_block stored.blocks cells),
    length-octets_of first_image_block cells stored.blocks (lie_in stored.blocks below),
  )

  lengths_of : (packages : List (Entry Stored)) → AllByRecursion IsEntry packages → AreBelow most (blocks_in packages)
      → map (entry_with (λ (octets : List ℕ). length octets)) (map (entry_with (image_octets cells)) packages)
      ≡ map (entry_with (λ (stored : Stored). stored.length)) packages
  lengths_of [] entries below = refl
  lengths_of (entry ∷ packages) entries below =
      let mine = all_front (λ n. n < most) entry.image.blocks (blocks_in packages) below in
      let others = all_back (λ n. n < most) entry.image.blocks (blocks_in packages) below in
      let rest = map (entry_with (λ (octets : List ℕ). length octets)) (map (entry_with (image_octets cells)) packages) in
      ap (λ (n : ℕ). entry_with (λ (stored : Stored). n) entry ∷ rest) (length_of entry.image mine entries.0.blocks)
      ∙ ap (λ (es : List (Entry ℕ)). entry_with (λ (stored : Stored). stored.length) entry ∷ es)
      (lengths_of packages entries.1 others)

-- what stands there, with the lengths of its images, is what the manifest in force says
pub lengths_stand : (image : List ℕ) (m : Module) (running : Option Bank) (manifest : Manifest)
    → HoldsModule image m running manifest
    → state_with (λ (octets : List ℕ). length octets) (standing_of m manifest image).state
    ≡ state_with (λ (stored : Stored). stored.length) manifest.state
lengths_stand image m None manifest holds =
    subst (λ (x : Manifest). state_with (λ (octets : List ℕ). length octets) (standing_of m x image).state
    ≡ state_with (λ (stored : Stored). stored.length) x.state) (sym holds.in_force.1) refl
lengths_stand image m (Some bank) manifest holds =
    let kept = holds.in_force.over.text.valid.state in
    ap (λ (es : List (Entry ℕ)). record { packages = es; stale = manifest.state.stale })
    (lengths_of (2 * m.capacity) image holds.size manifest.state.packages kept.entries
    (recursion_from_All (λ n. n < 2 * m.capacity) (blocks_in manifest.state.packages) kept.blocks.below))
