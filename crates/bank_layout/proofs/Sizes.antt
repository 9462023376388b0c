-- A manifest fits its blocks, and what stands in them is what they begin with.
use Rattle.std.proofs.Common.{◌≡◌, ℕ, ◌+◌, ◌*◌, ◌^◌, ◌<◌, ◌≤◌, List, [], ◌∷◌, ◌++◌, length, take, drop, Option, Some, None, refl, ◌∙◌, sym, ap, arith, length-take, length-drop, get_or-take, take-append-drop}
use Rattle.std.specs.Prelude.{IfSome}
use Rattle.std.specs.List.{AllByRecursion, flat_map}
use Rattle.std.proofs.lemmas.List.{ext_get_or, length-append}
use Rattle.der_core.specs.Element.{enc, HasRoom}
use Rattle.der_core.specs.Number.{number_contents}
use Rattle.der_core.specs.Shapes.{text_if}
use Rattle.der_core.proofs.Lengths.{length-enc-le, length-number-le}
use Rattle.bank_gate.specs.States.{Stands}
use Rattle.package_attrs.specs.declared.name.PackageName.{PackageName}
use Rattle.package_attrs.specs.Identifier.{name_text, IsName}
use Rattle.package_attrs.specs.Information.{kind_text}
use Rattle.package_attrs.proofs.IdentifierLaws.{name_length}
use Rattle.config_table.specs.declared.stale_entry.StaleEntry.{StaleEntry}
use Rattle.config_table.specs.State.{Entry, State, last_stale}
use Rattle.config_table.specs.Stored.{Stored}
use Rattle.bank_layout.specs.declared.bank.Bank.{Bank}
use Rattle.bank_layout.specs.Layout.{manifest_start, manifest_octets}
use Rattle.bank_layout.specs.declared.bank.Bank.TheVariants as banks
use Rattle.bank_layout.specs.declared.format.Format.{Format}
use Rattle.module_record.specs.ModuleRecord.{number_text}
use Rattle.bank_layout.specs.Manifest.{Manifest, blocks_contents, added_text, entry_text, stale_entry_text, format_number, manifest_contents, manifest_text, blocks_in, named_blocks, IsEntry, IsKept, IsManifest, FitsFormat, BeginsWithManifest}
use Rattle.bank_layout.specs.declared.format.Format.TheVariants as formats
use Rattle.bank_layout.proofs.Parts.{part_cell}

-- ---- sizes

number_size : (n : ℕ) → n < 2 ^ 128 → length (number_text n) ≤ 23
number_size n small = omega (
  arith,
  length-number-le n small,
  length-enc-le 2 (number_contents n) (omega (arith, length-number-le n small)),
)

pub blocks_size : (blocks : List ℕ) → length (blocks_contents blocks) ≡ 2 * length blocks
blocks_size [] = refl
blocks_size (n ∷ ns) = omega (arith, blocks_size ns)

names_size : (ns : List PackageName) → AllByRecursion IsName ns → length (flat_map name_text ns) ≤ 99 * length ns
names_size [] v = omega arith
names_size (n ∷ ns) v =
    omega (arith, name_length n v.0, names_size ns v.1, length-append (name_text n) (flat_map name_text ns))

stale_size : (es : List StaleEntry) → AllByRecursion (λ entry. IsName (last_stale entry)) es
    → length (flat_map stale_entry_text es) ≤ 99 * length es
stale_size [] v = omega arith
stale_size (e ∷ es) v = omega (
  arith,
  name_length (last_stale e) v.0,
  stale_size es v.1,
  length-append (stale_entry_text e) (flat_map stale_entry_text es),
)

kind_size : (kind : Option ℕ) → IfSome kind (λ n. n < 2 ^ 128) → length (text_if kind_text kind) ≤ 23
kind_size None v = omega arith
kind_size (Some n) v = number_size n v

added_size : (format : Format) (e : Entry Stored) → IsEntry e → length (added_text format e) ≤ 821
added_size formats.One e v = omega arith
added_size formats.Two e v =
    let needs = names_size e.needs v.needs in
    omega (
      arith,
      kind_size e.kind v.kind,
      needs,
      v.few_needs,
      length-enc-le 48 (flat_map name_text e.needs) (omega (arith, needs, v.few_needs)),
      length-append (text_if kind_text e.kind) (enc 0x30 (flat_map name_text e.needs)),
    )

pub entry_size : (format : Format) (e : Entry Stored) → IsEntry e → length e.image.blocks ≤ 4096
    → length (entry_text format e) ≤ 1100 + 2 * length e.image.blocks
entry_size format e v few =
    let long : e.image.length < 2 ^ 128 = omega (arith, v.blocks, few) in
    let c = blocks_contents e.image.blocks in
    let p2 = enc 0x04 c ++ added_text format e in
    let p1 = number_text e.image.length ++ p2 in
    let p0 = enc 0x04 e.digest ++ p1 in
    let s2 : length p2 ≤ 827 + 2 * length e.image.blocks =
    omega (
      arith,
      length-append (enc 0x04 c) (added_text format e),
      added_size format e v,
      blocks_size e.image.blocks,
      length-enc-le 4 c (omega (arith, blocks_size e.image.blocks, few)),
    ) in
    let s1 : length p1 ≤ 850 + 2 * length e.image.blocks =
    omega (arith, s2, number_size e.image.length long, length-append (number_text e.image.length) p2) in
    let s0 : length p0 ≤ 888 + 2 * length e.image.blocks =
    omega (arith, s1, v.digest, length-append (enc 0x04 e.digest) p1, length-enc-le 4 e.digest (omega (arith, v.digest))) in
    let all : length (name_text e.name ++ p0) ≤ 987 + 2 * length e.image.blocks =
    omega (arith, s0, name_length e.name v.name, length-append (name_text e.name) p0) in
    omega (arith, all, length-enc-le 48 (name_text e.name ++ p0) (omega (arith, all, few)))

entries_size : (format : Format) (es : List (Entry Stored)) → AllByRecursion IsEntry es
    → length (blocks_in es) ≤ 4096
    → length (flat_map (entry_text format) es) ≤ 1100 * length es + 2 * length (blocks_in es)
entries_size format [] v few = omega arith
entries_size format (e ∷ es) v few =
    let more = blocks_in es in
    let sum = length-append e.image.blocks more in
    omega (
      arith,
      sum,
      entry_size format e v.0 (omega (arith, sum, few)),
      entries_size format es v.1 (omega (arith, sum, few)),
      length-append (entry_text format e) (flat_map (entry_text format) es),
    )

format_small : (format : Format) → format_number format < 2 ^ 128
format_small formats.One = omega arith
format_small formats.Two = omega arith

-- a state that a manifest can keep for a module of some capacity
abbrev pub CanBeKept : State Stored → Type 0
CanBeKept state = (capacity : ℕ) × (capacity ≤ 4096) × IsKept capacity state

-- the packages of a state that can be kept
pub packages_size : (format : Format) (state : State Stored) → CanBeKept state
    → length (flat_map (entry_text format) state.packages) ≤ 78592
packages_size format state (capacity, few, v) =
    let fit : length (named_blocks state) ≤ 4096 = omega (arith, v.blocks.few, few) in
    omega (arith, fit, v.packages, entries_size format state.packages v.entries fit)

-- and its stale entries
pub stale_entries_size : (state : State Stored) → CanBeKept state
    → length (flat_map stale_entry_text state.stale) ≤ 25344
stale_entries_size state (capacity, few, v) = omega (arith, v.stale, stale_size state.stale v.stale_entries)

pub contents_size : (format : Format) (m : Manifest) → m.sequence < 2 ^ 64 → CanBeKept m.state
    → length (manifest_contents format m) ≤ 110000
contents_size format m most kept =
    let es = flat_map (entry_text format) m.state.packages in
    let ss = flat_map stale_entry_text m.state.stale in
    let es-size = packages_size format m.state kept in
    let ss-size = stale_entries_size m.state kept in
    let t2 = enc 0x30 es ++ enc 0x30 ss in
    let t1 = number_text m.sequence ++ t2 in
    omega (
      arith,
      length-enc-le 48 es (omega (arith, es-size)),
      length-enc-le 48 ss (omega (arith, ss-size)),
      es-size,
      ss-size,
      length-append (enc 0x30 es) (enc 0x30 ss),
      number_size m.sequence (omega (arith, most)),
      length-append (number_text m.sequence) t2,
      number_size (format_number format) (format_small format),
      length-append (number_text (format_number format)) t1,
    )

pub text_size : (format : Format) (m : Manifest) → m.sequence < 2 ^ 64 → CanBeKept m.state
    → length (manifest_text format m) ≤ 131072
text_size format m most kept =
    let all = contents_size format m most kept in
    omega (arith, all, length-enc-le 48 (manifest_contents format m) (omega (arith, all)))

-- the manifest of a module fits its blocks
pub manifest_size : (format : Format) (capacity : ℕ) (m : Manifest) → IsManifest capacity m
    → length (manifest_text format m) ≤ 131072
manifest_size format capacity m v = text_size format m v.most (capacity, v.of_module.1, v.state)

-- an element has room for it
pub manifest_room : (format : Format) (capacity : ℕ) (m : Manifest) → IsManifest capacity m
    → HasRoom (manifest_contents format m)
manifest_room format capacity m v = omega (arith, contents_size format m v.most (capacity, v.of_module.1, v.state))

-- ---- what stands at a part's front

pub stands_front : (at n : ℕ) (text image : List ℕ) → length text ≤ n → at + n ≤ length image → Stands at text image
    → take n (drop at image) ≡ text ++ drop (length text) (take n (drop at image))
stands_front at n text image fits size stands =
    let part = take n (drop at image) in
    let front : take (length text) part ≡ text =
    ext_get_or 0 (take (length text) part) text
    (omega (arith, fits, size, length-take (length text) part, length-take n (drop at image), length-drop at image))
    (λ i lt.
    let few : i < length text = omega (arith, lt, length-take (length text) part) in
    get_or-take (length text) part i 0 few
    ∙ part_cell at n i image (omega (arith, few, fits))
    ∙ stands i few) in
    sym (take-append-drop (length text) part) ∙ ap (λ (l : List ℕ). l ++ drop (length text) part) front

fits_2 : (es : List (Entry Stored)) → AllByRecursion (FitsFormat formats.Two) es
fits_2 [] = tt
fits_2 (e ∷ es) = (tt, fits_2 es)

-- a manifest that stands in the blocks of a bank
pub manifest_stands : (bank : Bank) (capacity : ℕ) (m : Manifest) (image : List ℕ)
    → 344064 ≤ length image → IsManifest capacity m
    → Stands (manifest_start bank) (manifest_text formats.Two m) image
    → BeginsWithManifest capacity (manifest_octets bank image) m
manifest_stands bank capacity m image size v stands = record {
  format = formats.Two;
  valid = v;
  fits = fits_2 m.state.packages;
  rest = drop (length (manifest_text formats.Two m)) (manifest_octets bank image);
  text = stands_front (manifest_start bank) 131072 (manifest_text formats.Two m) image
      (manifest_size formats.Two capacity m v) (inside bank) stands;
}
  where
    inside : (bank : Bank) → manifest_start bank + 131072 ≤ length image
    inside banks.Zero = omega (arith, size)
    inside banks.One = omega (arith, size)
