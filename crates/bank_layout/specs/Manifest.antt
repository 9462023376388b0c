-- The manifest, in which a bank keeps what is installed; this project's own.
--
--   Manifest ::= SEQUENCE {
--     format INTEGER (1..2),
--     sequence INTEGER (1..18446744073709551615),
--     packages SEQUENCE (SIZE (0..64)) OF SEQUENCE {
--       name PreferredOrLegacyPackageIdentifier,
--       digest OCTET STRING (SIZE (32)),  -- the SHA-256 of the image, which isn't compared with it
--       length INTEGER,  -- of the image in octets, from 1 on
--       blocks OCTET STRING,  -- two octets a block number, high first; one number a block that the length begins
--       fwPkgType INTEGER OPTIONAL,  -- in format 2 alone
--       needs SEQUENCE (SIZE (0..8)) OF PreferredOrLegacyPackageIdentifier },  -- in format 2 alone
--     stale SEQUENCE (SIZE (0..256)) OF CHOICE {
--       SEQUENCE { fwPkgID OBJECT IDENTIFIER, upTo INTEGER },
--       legacy OCTET STRING (SIZE (1..64)) } }
--
-- PreferredOrLegacyPackageIdentifier and fwPkgType are those of RFC 4108, sections 2.2.3 and 2.2.9. Versions, upTo and
-- fwPkgType are below 2 ^ 128. In neither list does an identifier or a legacy name stand twice.
use Rattle.std.specs.Prelude.{◌≡◌, ℕ, ◌*◌, ◌/◌, ◌%◌, ◌<◌, ◌≤◌, ◌^◌, List, [], ◌∷◌, ◌++◌, length, None, IfSome, All}
use Rattle.std.specs.List.{AllByRecursion, flat_map}
use Rattle.block_pool.specs.Numbers.{IsApart}
use Rattle.package_attrs.specs.Image.{blocks_for}
use Rattle.der_core.specs.Element.{enc}
use Rattle.der_core.specs.Shapes.{text_if}
use Rattle.module_record.specs.ModuleRecord.{number_text}
use Rattle.package_attrs.specs.Identifier.{name_text, IsName}
use Rattle.package_attrs.specs.Information.{kind_text}
use Rattle.config_table.specs.declared.stale_entry.StaleEntry.{StaleEntry}
use Rattle.config_table.specs.State.{Entry, State, last_stale}
use Rattle.config_table.specs.Rules.{IsDistinctState}
use Rattle.config_table.specs.Stored.{Stored}
use Rattle.bank_layout.specs.declared.format.Format.{Format}
use Rattle.bank_layout.specs.declared.format.Format.TheVariants as formats

-- What a manifest says: how many installs there were, and the state that the last one left.
pub record Manifest : Type 0 where
  pub sequence : ℕ
  pub state : State Stored

-- ---- texts

-- each block number in two octets, high first
abbrev pub blocks_contents : List ℕ → List ℕ
blocks_contents blocks = flat_map (λ n. n / 256 ∷ n % 256 ∷ []) blocks

-- what format 2 says beside format 1: the kind, where there is one, and the needs
abbrev pub added_text : Format → Entry Stored → List ℕ
added_text formats.One entry = []
added_text formats.Two entry = text_if kind_text entry.kind ++ enc 0x30 (flat_map name_text entry.needs)

-- the contents of a package's SEQUENCE
abbrev pub entry_contents : Format → Entry Stored → List ℕ
entry_contents format entry =
    name_text entry.name
    ++ (enc 0x04 entry.digest
    ++ (number_text entry.image.length ++ (enc 0x04 (blocks_contents entry.image.blocks) ++ added_text format entry)))

abbrev pub entry_text : Format → Entry Stored → List ℕ
entry_text format entry = enc 0x30 (entry_contents format entry)

-- an identifier and its number, or a legacy name: as the last name that is stale
abbrev pub stale_entry_text : StaleEntry → List ℕ
stale_entry_text entry = name_text (last_stale entry)

abbrev pub format_number : Format → ℕ
format_number formats.One = 1
format_number formats.Two = 2

-- the contents of Manifest
abbrev pub manifest_contents : Format → Manifest → List ℕ
manifest_contents format m =
    number_text (format_number format)
    ++ (number_text m.sequence
    ++ (enc 0x30 (flat_map (entry_text format) m.state.packages)
    ++ enc 0x30 (flat_map stale_entry_text m.state.stale)))

abbrev pub manifest_text : Format → Manifest → List ℕ
manifest_text format m = enc 0x30 (manifest_contents format m)

-- ---- validity

-- the image block numbers that packages name, in their order
abbrev pub blocks_in : List (Entry Stored) → List ℕ
blocks_in packages = flat_map (λ entry. entry.image.blocks) packages

-- the image block numbers that a state names
abbrev pub named_blocks : State Stored → List ℕ
named_blocks state = blocks_in state.packages

-- An entry that has a text, but for its blocks' numbers. Whether its digest is that of its image isn't asked.
pub record IsEntry (entry : Entry Stored) : Type 0 where
  pub name : IsName entry.name
  pub digest : length entry.digest ≡ 32
  pub some : 1 ≤ entry.image.length
  -- one block for each 4,096 octets that the image has or begins
  pub blocks : length entry.image.blocks ≡ blocks_for entry.image.length
  pub kind : IfSome entry.kind (λ kind. kind < 2 ^ 128)
  pub needs : AllByRecursion IsName entry.needs
  pub few_needs : length entry.needs ≤ 8

-- a package of format 1 has no kind and no needs
abbrev pub FitsFormat : Format → Entry Stored → Type 0
FitsFormat formats.One entry = (entry.kind ≡ None) × (entry.needs ≡ [])
FitsFormat formats.Two entry = Unit {0}

-- The blocks are those of a module of this capacity, none stands twice, and they are no more than the capacity.
pub record AreOwnBlocks (capacity : ℕ) (blocks : List ℕ) : Type 0 where
  pub below : All (λ n. n < 2 * capacity) blocks
  pub apart : IsApart blocks
  pub few : length blocks ≤ capacity

-- A state that a manifest can keep for a module of this capacity.
pub record IsKept (capacity : ℕ) (state : State Stored) : Type 0 where
  pub packages : length state.packages ≤ 64
  pub entries : AllByRecursion IsEntry state.packages
  pub stale : length state.stale ≤ 256
  pub stale_entries : AllByRecursion (λ entry. IsName (last_stale entry)) state.stale
  -- no identifier and no legacy name stands twice in either list
  pub distinct : IsDistinctState state
  pub blocks : AreOwnBlocks capacity (named_blocks state)

-- how many blocks the images of a module may have together
abbrev pub IsCapacity : ℕ → Type 0
IsCapacity capacity = (1 ≤ capacity) × (capacity ≤ 4096)

-- a manifest that is valid for a capacity, which a module can have
pub record IsManifest (capacity : ℕ) (m : Manifest) : Type 0 where
  pub of_module : IsCapacity capacity
  pub some : 1 ≤ m.sequence
  pub most : m.sequence < 2 ^ 64
  pub state : IsKept capacity m.state

-- the octets begin with the text of a valid manifest, of either format, whatever follows
pub record BeginsWithManifest (capacity : ℕ) (octets : List ℕ) (m : Manifest) : Type 0 where
  pub format : Format
  pub valid : IsManifest capacity m
  pub fits : AllByRecursion (FitsFormat format) m.state.packages
  pub rest : List ℕ
  pub text : octets ≡ manifest_text format m ++ rest
