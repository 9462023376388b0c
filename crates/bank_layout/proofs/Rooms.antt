-- Where an element has room for a manifest, it has room for the parts.
use Rattle.std.proofs.Common.{◌≡◌, ℕ, zero, suc, ◌≤◌, List, [], ◌∷◌, ◌++◌, length, slice_get, Some, None, subst, arith, length-append}
use Rattle.std.specs.List.{flat_map}
use Rattle.der_core.specs.Element.{enc, HasRoom}
use Rattle.der_core.specs.Shapes.{text_if}
use Rattle.der_core.proofs.Places.{length-enc}
use Rattle.module_record.specs.ModuleRecord.{number_text}
use Rattle.package_attrs.specs.Identifier.{name_text}
use Rattle.package_attrs.specs.Information.{kind_text}
use Rattle.config_table.specs.State.{Entry}
use Rattle.config_table.specs.Stored.{Stored}
use Rattle.bank_layout.specs.declared.format.Format.{Format}
use Rattle.bank_layout.specs.declared.format.Format.TheVariants as formats
use Rattle.bank_layout.specs.Manifest.{Manifest, blocks_contents, added_text, entry_contents, entry_text, stale_entry_text, format_number, manifest_contents}

-- ---- a package

pub blocks_room : (format : Format) (e : Entry Stored) → HasRoom (entry_contents format e)
    → HasRoom (blocks_contents e.image.blocks)
blocks_room format e room =
    let c = blocks_contents e.image.blocks in
    let p2 = enc 0x04 c ++ added_text format e in
    let p1 = number_text e.image.length ++ p2 in
    let p0 = enc 0x04 e.digest ++ p1 in
    omega (
      arith,
      room,
      length-append (name_text e.name) p0,
      length-append (enc 0x04 e.digest) p1,
      length-append (number_text e.image.length) p2,
      length-append (enc 0x04 c) (added_text format e),
      length-enc 0x04 c,
    )

pub added_room : (format : Format) (e : Entry Stored) → HasRoom (entry_contents format e) → HasRoom (added_text format e)
added_room format e room =
    let c = blocks_contents e.image.blocks in
    let p2 = enc 0x04 c ++ added_text format e in
    let p1 = number_text e.image.length ++ p2 in
    let p0 = enc 0x04 e.digest ++ p1 in
    omega (
      arith,
      room,
      length-append (name_text e.name) p0,
      length-append (enc 0x04 e.digest) p1,
      length-append (number_text e.image.length) p2,
      length-append (enc 0x04 c) (added_text format e),
    )

pub needs_room : (e : Entry Stored) → HasRoom (entry_contents formats.Two e) → HasRoom (flat_map name_text e.needs)
needs_room e room =
    let c = flat_map name_text e.needs in
    omega (
      arith,
      added_room formats.Two e room,
      length-append (text_if kind_text e.kind) (enc 0x30 c),
      length-enc 0x30 c,
    )

-- ---- packages

one_in_all : {X : Type 0} (text : X → List ℕ) (xs : List X) (i : ℕ) (x : X) → Some x ≡ slice_get xs i
    → length (text x) ≤ length (flat_map text xs)
one_in_all text [] i x is = absurd (let n : Some x ≡ None = is in cc)
one_in_all text (y ∷ ys) zero x is =
    let same : y ≡ x = cc in
    subst (λ z. length (text z) ≤ length (flat_map text (y ∷ ys))) same
    (omega (arith, length-append (text y) (flat_map text ys)))
one_in_all text (y ∷ ys) (suc i) x is =
    omega (arith, one_in_all text ys i x is, length-append (text y) (flat_map text ys))

pub package_room : (format : Format) (es : List (Entry Stored)) (i : ℕ) (e : Entry Stored)
    → HasRoom (flat_map (entry_text format) es) → Some e ≡ slice_get es i → HasRoom (entry_contents format e)
package_room format es i e room is =
    omega (arith, room, one_in_all (entry_text format) es i e is, length-enc 0x30 (entry_contents format e))

-- ---- a manifest

pub packages_room : (format : Format) (m : Manifest) → HasRoom (manifest_contents format m)
    → HasRoom (flat_map (entry_text format) m.state.packages)
packages_room format m room =
    let es = flat_map (entry_text format) m.state.packages in
    let ss = flat_map stale_entry_text m.state.stale in
    omega (
      arith,
      room,
      length-append (number_text (format_number format)) (number_text m.sequence ++ (enc 0x30 es ++ enc 0x30 ss)),
      length-append (number_text m.sequence) (enc 0x30 es ++ enc 0x30 ss),
      length-append (enc 0x30 es) (enc 0x30 ss),
      length-enc 0x30 es,
    )

pub stale_room : (format : Format) (m : Manifest) → HasRoom (manifest_contents format m)
    → HasRoom (flat_map stale_entry_text m.state.stale)
stale_room format m room =
    let es = flat_map (entry_text format) m.state.packages in
    let ss = flat_map stale_entry_text m.state.stale in
    omega (
      arith,
      room,
      length-append (number_text (format_number format)) (number_text m.sequence ++ (enc 0x30 es ++ enc 0x30 ss)),
      length-append (number_text m.sequence) (enc 0x30 es ++ enc 0x30 ss),
      length-append (enc 0x30 es) (enc 0x30 ss),
      length-enc 0x30 ss,
    )
