-- The reading of manifests, by the shapes of their texts. Nothing here has to be believed: the clauses say what is read
-- by the texts, and that what is read here agrees is proved.
use Rattle.std.specs.Prelude.{ℕ, ◌+◌, ◌*◌, ◌^◌, ◌==◌, ◌&&◌, nat_lt, nat_le, if◌then◌else◌, List, [], ◌∷◌, length, Option, Some, None}
use Rattle.package_attrs.specs.Image.{blocks_for}
use Rattle.der_core.specs.Reading.{◌>>?◌, number_of}
use Rattle.der_core.specs.Shapes.{Front, Whole, element, alone, before, maybe_before, mapped, tested, listed, anything}
use Rattle.module_record.specs.Reading.{sized, valued}
use Rattle.package_attrs.specs.declared.name.PackageName.{PackageName}
use Rattle.package_attrs.specs.declared.name.PackageName.TheVariants as names
use Rattle.package_attrs.specs.Reading.{name_at}
use Rattle.package_attrs.specs.ListReading.{kind_at}
use Rattle.config_table.specs.declared.stale_entry.StaleEntry.{StaleEntry}
use Rattle.config_table.specs.declared.stale_entry.StaleEntry.TheVariants as entries
use Rattle.config_table.specs.State.{Entry}
use Rattle.config_table.specs.Stored.{Stored}
use Rattle.bank_layout.specs.declared.format.Format.{Format}
use Rattle.bank_layout.specs.declared.format.Format.TheVariants as formats

-- ---- packages

-- What a package's SEQUENCE holds; its blocks and its needs are octets.
pub record PackageParts : Type 0 where
  pub name : PackageName
  pub digest : List ℕ
  pub length : ℕ
  pub blocks : List ℕ
  pub kind : Option ℕ
  pub needs : List ℕ

unfoldable pub digest_at : Front (List ℕ)
digest_at = element 0x04 (sized 32)

-- the length of an image
unfoldable pub length_at : Front ℕ
length_at = element 0x02 (tested (λ n. nat_lt n (2 ^ 32)) number_of)

unfoldable pub blocks_at : Front (List ℕ)
blocks_at = element 0x04 anything

-- the contents of a SEQUENCE
unfoldable pub list_at : Front (List ℕ)
list_at = element 0x30 anything

-- nothing
unfoldable pub nothing_of : Whole (Option ℕ × List ℕ)
nothing_of bytes = if length bytes == 0 then Some (None, bytes) else None

-- the kind, where an INTEGER stands at the front, and the needs
unfoldable pub info_of : Whole (Option ℕ × List ℕ)
info_of = maybe_before 0x02 kind_at (alone list_at)

-- what stands behind the blocks in a format
abbrev pub added_of : Format → Whole (Option ℕ × List ℕ)
added_of formats.One = nothing_of
added_of formats.Two = info_of

unfoldable pub parts_of : Format → Whole PackageParts
parts_of format =
    mapped (λ x. record {
      name = x.0;
      digest = x.1.0;
      length = x.1.1.0;
      blocks = x.1.1.1.0;
      kind = x.1.1.1.1.0;
      needs = x.1.1.1.1.1;
    })
    (before name_at (before digest_at (before length_at (before blocks_at (added_of format)))))

-- a package's parts at the front
unfoldable pub parts_at : Format → Front PackageParts
parts_at format = element 0x30 (parts_of format)

-- the numbers of two octets each, high first
abbrev pub numbers_in : List ℕ → List ℕ
numbers_in [] = []
numbers_in (high ∷ []) = []
numbers_in (high ∷ (low ∷ rest)) = (high * 256 + low) ∷ numbers_in rest

-- at most 8 names
unfoldable pub needs_of : Whole (List PackageName)
needs_of = tested (λ needs. nat_le (length needs) 8) (listed name_at)

-- the entry with these parts, where there is an image and there are as many blocks as it needs
unfoldable pub entry_from : PackageParts → Option (Entry Stored)
entry_from p =
    if nat_lt 0 p.length && (length p.blocks == 2 * blocks_for p.length)
    then (needs_of p.needs >>? λ needs. Some (record {
      name = p.name;
      digest = p.digest;
      image = record { length = p.length; blocks = numbers_in p.blocks };
      kind = p.kind;
      needs = needs;
    }))
    else None

-- a package at the front
unfoldable pub entry_at : Format → Front (Entry Stored)
entry_at format bytes = parts_at format bytes >>? λ x. entry_from x.0 >>? λ entry. Some (entry, x.1)

-- ---- stale entries

-- the entry of which a name is the last that it makes stale
abbrev pub stale_from : PackageName → StaleEntry
stale_from (names.Preferred id version) = entries.Preferred id version
stale_from (names.Legacy octets) = entries.Legacy octets

-- a stale entry at the front
unfoldable pub stale_at : Front StaleEntry
stale_at bytes = name_at bytes >>? λ x. Some (stale_from x.0, x.1)

-- ---- manifests

-- What a manifest's SEQUENCE holds; its lists are octets.
pub record ManifestParts : Type 0 where
  pub format : Format
  pub sequence : ℕ
  pub packages : List ℕ
  pub stale : List ℕ

unfoldable pub format_from : ℕ → Option Format
format_from n = if n == 1 then Some formats.One else if n == 2 then Some formats.Two else None

unfoldable pub format_at : Front Format
format_at = element 0x02 (valued format_from number_of)

unfoldable pub sequence_at : Front ℕ
sequence_at = element 0x02 (tested (λ n. nat_lt 0 n && nat_lt n (2 ^ 64)) number_of)

unfoldable pub manifest_of : Whole ManifestParts
manifest_of =
    mapped (λ x. record { format = x.0; sequence = x.1.0; packages = x.1.1.0; stale = x.1.1.1 })
    (before format_at (before sequence_at (before list_at (alone list_at))))

-- a manifest's parts at the front
unfoldable pub manifest_at : Front ManifestParts
manifest_at = element 0x30 manifest_of
