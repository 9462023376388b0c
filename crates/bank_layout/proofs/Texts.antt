-- Octets begin with one text at most.
use Rattle.std.proofs.Common.{◌≡◌, ℕ, ◌/◌, ◌%◌, ◌^◌, ◌<◌, ◌≤◌, List, [], ◌∷◌, ◌++◌, length, drop, get_or, Option, Some, None, refl, ◌∙◌, sym, ap, subst, arith}
use Rattle.std.specs.List.{AllByRecursion, flat_map}
use Rattle.std.proofs.lemmas.List.{length-append}
use Rattle.std.proofs.lemmas.Option.{same_Some}
use Rattle.der_core.specs.Element.{enc}
use Rattle.der_core.specs.Number.{number_contents}
use Rattle.der_core.specs.Shapes.{text_if}
use Rattle.der_core.proofs.Places.{length-enc}
use Rattle.der_core.proofs.Theorems.{enc-one, number_contents-one}
use Rattle.package_attrs.specs.declared.name.PackageName.{PackageName}
use Rattle.package_attrs.specs.declared.name.PackageName.TheVariants as names
use Rattle.package_attrs.specs.Identifier.{name_text, IsName}
use Rattle.package_attrs.specs.Information.{kind_text}
use Rattle.package_attrs.specs.Reading.{name_at}
use Rattle.package_attrs.proofs.IdentifierLaws.{name-front}
use Rattle.config_table.specs.declared.stale_entry.StaleEntry.{StaleEntry}
use Rattle.config_table.specs.declared.stale_entry.StaleEntry.TheVariants as entries
use Rattle.config_table.specs.State.{Entry, last_stale}
use Rattle.config_table.specs.Stored.{Stored}
use Rattle.bank_layout.specs.declared.format.Format.{Format}
use Rattle.module_record.specs.ModuleRecord.{number_text}
use Rattle.bank_layout.specs.Manifest.{Manifest, blocks_contents, added_text, entry_text, stale_entry_text, format_number, IsEntry, FitsFormat, BeginsWithManifest}
use Rattle.bank_layout.specs.declared.format.Format.TheVariants as formats

abbrev Short : List ℕ → Type 0
Short octets = length octets < 2 ^ 32

-- the texts of valid values tell where they end: none is a proper front of another's
abbrev IsEnding : {V : Type 0} → (V → List ℕ) → (V → Type 0) → Type 0
IsEnding {V} text IsValid = (x y : V) (r s : List ℕ) → IsValid x → IsValid y → Short (text x ++ r)
    → text x ++ r ≡ text y ++ s → (x ≡ y) × (r ≡ s)

rest_short : (a b : List ℕ) → Short (a ++ b) → Short b
rest_short a b short = omega (arith, short, length-append a b)

-- what is equal to something short is short
too : (a b : List ℕ) → a ≡ b → Short a → Short b
too a b is short = subst Short is short

-- what an element holds is shorter than it is
fits : (tag : ℕ) (c r : List ℕ) → Short (enc tag c ++ r) → length c < 2 ^ 32
fits tag c r short = omega (arith, short, length-append (enc tag c) r, length-enc tag c)

-- elements end
module _ (tag tag' : ℕ) (octet : tag < 256) (octet' : tag' < 256) (low : tag % 32 < 31) (low' : tag' % 32 < 31) where
  any_one : (c d r s : List ℕ) → Short (enc tag c ++ r) → enc tag c ++ r ≡ enc tag' d ++ s
      → (tag ≡ tag') × (c ≡ d) × (r ≡ s)
  any_one c d r s short is = enc-one tag tag' c d r s
      (record { octet = octet; low_bits = low; fits = fits tag c r short })
      (record { octet = octet'; low_bits = low'; fits = fits tag' d s (too (enc tag c ++ r) (enc tag' d ++ s) is short) })
      is

one_2 : (c d r s : List ℕ) → Short (enc 0x02 c ++ r) → enc 0x02 c ++ r ≡ enc 0x02 d ++ s → (c ≡ d) × (r ≡ s)
one_2 c d r s short is = let x = any_one 2 2 (omega arith) (omega arith) (omega arith) (omega arith) c d r s short is in (x.1, x.2)

one_4 : (c d r s : List ℕ) → Short (enc 0x04 c ++ r) → enc 0x04 c ++ r ≡ enc 0x04 d ++ s → (c ≡ d) × (r ≡ s)
one_4 c d r s short is = let x = any_one 4 4 (omega arith) (omega arith) (omega arith) (omega arith) c d r s short is in (x.1, x.2)

one_6 : (c d r s : List ℕ) → Short (enc 0x06 c ++ r) → enc 0x06 c ++ r ≡ enc 0x06 d ++ s → (c ≡ d) × (r ≡ s)
one_6 c d r s short is = let x = any_one 6 6 (omega arith) (omega arith) (omega arith) (omega arith) c d r s short is in (x.1, x.2)

one_48 : (c d r s : List ℕ) → Short (enc 0x30 c ++ r) → enc 0x30 c ++ r ≡ enc 0x30 d ++ s → (c ≡ d) × (r ≡ s)
one_48 c d r s short is = let x = any_one 48 48 (omega arith) (omega arith) (omega arith) (omega arith) c d r s short is in (x.1, x.2)

not_2_48 : (c d r s : List ℕ) → Short (enc 0x02 c ++ r) → enc 0x02 c ++ r ≡ enc 0x30 d ++ s → ⊥
not_2_48 c d r s short is =
    let x = any_one 2 48 (omega arith) (omega arith) (omega arith) (omega arith) c d r s short is in omega (arith, x.0)

-- nothing behind
pub bare : (a : List ℕ) → a ++ [] ≡ a
bare [] = refl
bare (x ∷ xs) = ap (λ (l : List ℕ). x ∷ l) (bare xs)

-- an element that is all
alone_48 : (c d : List ℕ) → Short (enc 0x30 c) → enc 0x30 c ≡ enc 0x30 d → c ≡ d
alone_48 c d short is =
    (one_48 c d [] [] (too (enc 0x30 c) (enc 0x30 c ++ []) (sym (bare (enc 0x30 c))) short)
    (bare (enc 0x30 c) ∙ is ∙ sym (bare (enc 0x30 d)))).0

number_ends : (x y : ℕ) (r s : List ℕ) → Short (number_text x ++ r) → number_text x ++ r ≡ number_text y ++ s
    → (x ≡ y) × (r ≡ s)
number_ends x y r s short is =
    let e = one_2 (number_contents x) (number_contents y) r s short is in (number_contents-one x y e.0, e.1)

name_ends : IsEnding name_text IsName
name_ends x y r s vx vy short is =
    let same = same_Some (x, r) (y, s) (sym (name-front.again x r vx) ∙ ap name_at is ∙ name-front.again y s vy) in
    (ap (λ (z : PackageName × List ℕ). z.0) same, ap (λ (z : PackageName × List ℕ). z.1) same)

-- lists of texts that end and aren't empty
module _ {V : Type 0} (text : V → List ℕ) (IsValid : V → Type 0) (ends : IsEnding text IsValid)
    (some : (x : V) → IsValid x → 0 < length (text x)) where
  list_one : (xs ys : List V) → AllByRecursion IsValid xs → AllByRecursion IsValid ys → Short (flat_map text xs)
      → flat_map text xs ≡ flat_map text ys → xs ≡ ys
  list_one [] [] vx vy short is = refl
  list_one [] (y ∷ ys) vx vy short is =
      absurd (omega (arith, some y vy.0, ap length is, length-append (text y) (flat_map text ys)))
  list_one (x ∷ xs) [] vx vy short is =
      absurd (omega (arith, some x vx.0, ap length is, length-append (text x) (flat_map text xs)))
  list_one (x ∷ xs) (y ∷ ys) vx vy short is =
      let e = ends x y (flat_map text xs) (flat_map text ys) vx.0 vy.0 short is in
      let more = list_one xs ys vx.1 vy.1 (rest_short (text x) (flat_map text xs) short) e.1 in
      ap (λ (z : V). z ∷ xs) e.0 ∙ ap (λ (zs : List V). y ∷ zs) more

pub enc_some : (tag : ℕ) (c : List ℕ) → 0 < length (enc tag c)
enc_some tag c = omega (arith, length-enc tag c)

pub name_some : (n : PackageName) → 0 < length (name_text n)
name_some (names.Preferred id version) = enc_some 48 (enc 0x06 id ++ enc 0x02 (number_contents version))
name_some (names.Legacy octets) = enc_some 4 octets

-- ---- block numbers

blocks_one : (xs ys : List ℕ) → blocks_contents xs ≡ blocks_contents ys → xs ≡ ys
blocks_one [] [] is = refl
blocks_one [] (y ∷ ys) is = absurd (omega (arith, ap length is))
blocks_one (x ∷ xs) [] is = absurd (omega (arith, ap length is))
blocks_one (x ∷ xs) (y ∷ ys) is =
    let high : x / 256 ≡ y / 256 = ap (λ (l : List ℕ). get_or l 0 0) is in
    let low : x % 256 ≡ y % 256 = ap (λ (l : List ℕ). get_or l 1 0) is in
    let same : x ≡ y = omega (arith, high, low) in
    let more = blocks_one xs ys (ap (λ (l : List ℕ). drop 2 l) is) in
    ap (λ (z : ℕ). z ∷ xs) same ∙ ap (λ (zs : List ℕ). y ∷ zs) more

-- ---- entries

names_one : (xs ys : List PackageName) → AllByRecursion IsName xs → AllByRecursion IsName ys
    → Short (flat_map name_text xs) → flat_map name_text xs ≡ flat_map name_text ys → xs ≡ ys
names_one = list_one name_text IsName name_ends (λ n _. name_some n)

-- a kind, if there is one, and needs
needs_part : List PackageName → List ℕ
needs_part needs = enc 0x30 (flat_map name_text needs)

added_one : (k l : Option ℕ) (xs ys : List PackageName) → AllByRecursion IsName xs → AllByRecursion IsName ys
    → Short (text_if kind_text k ++ enc 0x30 (flat_map name_text xs))
    → text_if kind_text k ++ enc 0x30 (flat_map name_text xs) ≡ text_if kind_text l ++ enc 0x30 (flat_map name_text ys)
    → (k ≡ l) × (xs ≡ ys)
added_one None None xs ys vx vy short is =
    let c = flat_map name_text xs in
    let d = flat_map name_text ys in
    let same = alone_48 c d short is in
    (refl, names_one xs ys vx vy (omega (arith, short, length-enc 0x30 c)) same)
added_one None (Some l) xs ys vx vy short is =
    absurd (not_2_48 (number_contents l) (flat_map name_text xs) (enc 0x30 (flat_map name_text ys)) []
    (too (enc 0x30 (flat_map name_text xs)) (kind_text l ++ enc 0x30 (flat_map name_text ys)) is short)
    (sym is ∙ sym (bare (enc 0x30 (flat_map name_text xs)))))
added_one (Some k) None xs ys vx vy short is =
    absurd (not_2_48 (number_contents k) (flat_map name_text ys) (enc 0x30 (flat_map name_text xs)) [] short
    (is ∙ sym (bare (enc 0x30 (flat_map name_text ys)))))
added_one (Some k) (Some l) xs ys vx vy short is =
    let e = number_ends k l (enc 0x30 (flat_map name_text xs)) (enc 0x30 (flat_map name_text ys)) short is in
    let c = flat_map name_text xs in
    let d = flat_map name_text ys in
    let after : Short (enc 0x30 c) = rest_short (kind_text k) (enc 0x30 c) short in
    (ap Some e.0, names_one xs ys vx vy (omega (arith, after, length-enc 0x30 c)) (alone_48 c d after e.1))

abbrev pub IsEntryOf : Format → Entry Stored → Type 0
IsEntryOf format entry = IsEntry entry × FitsFormat format entry

added_same : (format : Format) (x y : Entry Stored) → IsEntryOf format x → IsEntryOf format y
    → Short (added_text format x) → added_text format x ≡ added_text format y
    → (x.kind ≡ y.kind) × (x.needs ≡ y.needs)
added_same formats.One x y vx vy short is = (vx.1.0 ∙ sym vy.1.0, vx.1.1 ∙ sym vy.1.1)
added_same formats.Two x y vx vy short is = added_one x.kind y.kind x.needs y.needs vx.0.needs vy.0.needs short is

abbrev part_2 : Format → Entry Stored → List ℕ
part_2 format x = enc 0x04 (blocks_contents x.image.blocks) ++ added_text format x

abbrev part_1 : Format → Entry Stored → List ℕ
part_1 format x = number_text x.image.length ++ part_2 format x

abbrev part_0 : Format → Entry Stored → List ℕ
part_0 format x = enc 0x04 x.digest ++ part_1 format x

entry_one : (format : Format) (x y : Entry Stored) → IsEntryOf format x → IsEntryOf format y
    → Short (name_text x.name ++ part_0 format x)
    → name_text x.name ++ part_0 format x ≡ name_text y.name ++ part_0 format y → x ≡ y
entry_one format x y vx vy short is =
    let a = name_ends x.name y.name (part_0 format x) (part_0 format y) vx.0.name vy.0.name short is in
    let s0 = rest_short (name_text x.name) (part_0 format x) short in
    let b = one_4 x.digest y.digest (part_1 format x) (part_1 format y) s0 a.1 in
    let s1 = rest_short (enc 0x04 x.digest) (part_1 format x) s0 in
    let c = number_ends x.image.length y.image.length (part_2 format x) (part_2 format y) s1 b.1 in
    let s2 = rest_short (number_text x.image.length) (part_2 format x) s1 in
    let d = one_4 (blocks_contents x.image.blocks) (blocks_contents y.image.blocks) (added_text format x)
    (added_text format y) s2 c.1 in
    let s3 = rest_short (enc 0x04 (blocks_contents x.image.blocks)) (added_text format x) s2 in
    let blocks = blocks_one x.image.blocks y.image.blocks d.0 in
    let e = added_same format x y vx vy s3 d.1 in
    λ i. record {
      name = a.0 i;
      digest = b.0 i;
      image = record { length = c.0 i; blocks = blocks i };
      kind = e.0 i;
      needs = e.1 i;
    }

entry_ends : (format : Format) → IsEnding (entry_text format) (IsEntryOf format)
entry_ends format x y r s vx vy short is =
    let cx = name_text x.name ++ part_0 format x in
    let e = one_48 cx (name_text y.name ++ part_0 format y) r s short is in
    (entry_one format x y vx vy (fits 48 cx r short) e.0, e.1)

-- ---- stale entries

abbrev back : PackageName → StaleEntry
back (names.Preferred id n) = entries.Preferred id n
back (names.Legacy octets) = entries.Legacy octets

back_again : (x : StaleEntry) → back (last_stale x) ≡ x
back_again (entries.Preferred id n) = refl
back_again (entries.Legacy octets) = refl

stale_one : (x y : StaleEntry) → last_stale x ≡ last_stale y → x ≡ y
stale_one x y is = sym (back_again x) ∙ ap back is ∙ back_again y

abbrev IsStaleName : StaleEntry → Type 0
IsStaleName entry = IsName (last_stale entry)

stale_ends : IsEnding stale_entry_text IsStaleName
stale_ends x y r s vx vy short is =
    let e = name_ends (last_stale x) (last_stale y) r s vx vy short is in
    (stale_one x y e.0, e.1)

-- ---- manifests

both : (format : Format) (xs : List (Entry Stored)) → AllByRecursion IsEntry xs
    → AllByRecursion (FitsFormat format) xs → AllByRecursion (IsEntryOf format) xs
both format [] v w = tt
both format (x ∷ xs) v w = ((v.0, w.0), both format xs v.1 w.1)

abbrev tail_2 : Manifest → List ℕ
tail_2 m = enc 0x30 (flat_map stale_entry_text m.state.stale)

abbrev tail_1 : Format → Manifest → List ℕ
tail_1 format m = enc 0x30 (flat_map (entry_text format) m.state.packages) ++ tail_2 m

abbrev tail_0 : Format → Manifest → List ℕ
tail_0 format m = number_text m.sequence ++ tail_1 format m

same_format : (f g : Format) → format_number f ≡ format_number g → f ≡ g
same_format formats.One formats.One is = refl
same_format formats.Two formats.Two is = refl
same_format formats.One formats.Two is = absurd (omega (arith, is))
same_format formats.Two formats.One is = absurd (omega (arith, is))

tails_one : (format : Format) (m n : Manifest) → AllByRecursion (IsEntryOf format) m.state.packages
    → AllByRecursion (IsEntryOf format) n.state.packages → AllByRecursion IsStaleName m.state.stale
    → AllByRecursion IsStaleName n.state.stale → Short (tail_0 format m) → tail_0 format m ≡ tail_0 format n → m ≡ n
tails_one format m n vm vn sm sn short is =
    let a = number_ends m.sequence n.sequence (tail_1 format m) (tail_1 format n) short is in
    let s1 = rest_short (number_text m.sequence) (tail_1 format m) short in
    let cm = flat_map (entry_text format) m.state.packages in
    let cn = flat_map (entry_text format) n.state.packages in
    let b = one_48 cm cn (tail_2 m) (tail_2 n) s1 a.1 in
    let s2 = rest_short (enc 0x30 cm) (tail_2 m) s1 in
    let dm = flat_map stale_entry_text m.state.stale in
    let dn = flat_map stale_entry_text n.state.stale in
    let c = alone_48 dm dn s2 b.1 in
    let packages = list_one (entry_text format) (IsEntryOf format) (entry_ends format)
    (λ x _. enc_some 48 (name_text x.name ++ part_0 format x))
    m.state.packages n.state.packages vm vn (fits 48 cm (tail_2 m) s1) b.0 in
    let stale = list_one stale_entry_text IsStaleName stale_ends (λ x _. name_some (last_stale x))
    m.state.stale n.state.stale sm sn (omega (arith, s2, length-enc 0x30 dm)) c in
    λ i. record { sequence = a.0 i; state = record { packages = packages i; stale = stale i } }

pub one_manifest : (capacity : ℕ) (octets : List ℕ) (m n : Manifest) → length octets ≤ 131072
    → BeginsWithManifest capacity octets m → BeginsWithManifest capacity octets n → m ≡ n
one_manifest capacity octets m n few bm bn =
    let wm = number_text (format_number bm.format) ++ tail_0 bm.format m in
    let wn = number_text (format_number bn.format) ++ tail_0 bn.format n in
    let short : Short (enc 0x30 wm ++ bm.rest) = omega (arith, few, ap length bm.text) in
    let whole = one_48 wm wn bm.rest bn.rest short (sym bm.text ∙ bn.text) in
    let s = fits 48 wm bm.rest short in
    let head = number_ends (format_number bm.format) (format_number bn.format) (tail_0 bm.format m)
    (tail_0 bn.format n) s whole.0 in
    let format = same_format bm.format bn.format head.0 in
    tails_one bn.format m n
    (subst (λ (f : Format). AllByRecursion (IsEntryOf f) m.state.packages) format
    (both bm.format m.state.packages bm.valid.state.entries bm.fits))
    (both bn.format n.state.packages bn.valid.state.entries bn.fits)
    bm.valid.state.stale_entries bn.valid.state.stale_entries
    (subst (λ (f : Format). Short (tail_0 f m)) format
    (rest_short (number_text (format_number bm.format)) (tail_0 bm.format m) s))
    (subst (λ (f : Format). tail_0 f m ≡ tail_0 bn.format n) format head.1)
