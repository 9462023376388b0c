-- A manifest's packages are read exactly.
use Rattle.std.proofs.Common.{◌≡◌, ℕ, suc, ◌+◌, ◌-◌, ◌*◌, ◌/◌, ◌%◌, ◌^◌, ◌<◌, ◌≤◌, true, false, eqb, inl, inr, List, [], ◌∷◌, ◌++◌, length, Option, Some, None, refl, sym, ap, subst, ◌∙◌, arith, append_assoc}
use Rattle.std.specs.Prelude.{IsTrue, IfSome, ◌&&◌, nat_le, nat_lt, ◌==◌}
use Rattle.std.specs.List.{AllByRecursion, flat_map}
use Rattle.std.proofs.lemmas.Bool.{cases_Bool, eqb-true, eq-eqb, lt-ltb, ltb-true, and_parts}
use Rattle.std.proofs.lemmas.Bool.Decides.{nat_tests}
use Rattle.std.proofs.lemmas.List.{append-nil, length-append, nil_from_length}
use Rattle.std.proofs.lemmas.Option.{cond_some, none-some}
use Rattle.package_attrs.specs.Image.{blocks_for}
use Rattle.der_core.specs.Element.{enc, AreOctets}
use Rattle.der_core.specs.Number.{number_contents}
use Rattle.der_core.specs.Reading.{◌>>?◌}
use Rattle.der_core.specs.Shapes.{IsFront, IsWhole, element, listed, begins_with, text_if}
use Rattle.der_core.proofs.Digits.{AreOctets-right}
use Rattle.der_core.proofs.Fronts.{contents_octets}
use Rattle.der_core.proofs.Numbers.{some_bind, some_is}
use Rattle.der_core.proofs.Places.{length-enc}
use Rattle.der_core.proofs.Shapes.{is_tag, element-front, sized-element-front, same-front, alone-whole, before-whole, maybe_before-whole, mapped-whole, tested-whole, listed-whole, number-whole, anything-whole, enc-begins, element-falls, length-number-le}
use Rattle.package_attrs.specs.declared.name.PackageName.{PackageName}
use Rattle.package_attrs.specs.Identifier.{name_text, IsName}
use Rattle.package_attrs.specs.Information.{kind_text}
use Rattle.package_attrs.specs.Reading.{name_at}
use Rattle.package_attrs.specs.ListReading.{kind_at}
use Rattle.package_attrs.proofs.Falls.{name_falls}
use Rattle.package_attrs.proofs.IdentifierLaws.{name-front}
use Rattle.config_table.specs.State.{Entry}
use Rattle.config_table.specs.Stored.{Stored}
use Rattle.bank_layout.specs.declared.format.Format.{Format}
use Rattle.bank_layout.specs.declared.format.Format.TheVariants as formats
use Rattle.module_record.specs.ModuleRecord.{number_text}
use Rattle.bank_layout.specs.Manifest.{blocks_contents, added_text, entry_contents, entry_text, IsEntry, FitsFormat}
use Rattle.bank_layout.specs.Reading.{PackageParts, digest_at, length_at, blocks_at, list_at, nothing_of, info_of, added_of, parts_of, parts_at, numbers_in, needs_of, entry_from, entry_at}
use Rattle.bank_layout.proofs.Rooms.{blocks_room, added_room}
use Rattle.bank_layout.proofs.Sizes.{blocks_size}
use Rattle.bank_layout.proofs.Texts.{IsEntryOf, name_some, enc_some, bare}

-- ---- the parts of a package

digest-front : IsFront (λ (octets : List ℕ). enc 0x04 octets) (λ octets. length octets ≡ 32) digest_at
unfolding digest_at
digest-front =
    same-front (λ octets h. (eqb-true (length octets) 32 h.1, refl))
    (λ octets h. (tt, eq-eqb (length octets) 32 h))
    (element-front 0x04 (is_tag 0x04 refl) (λ octets h. omega (arith, eqb-true (length octets) 32 h.1))
    (tested-whole (λ octets. length octets == 32) anything-whole))

length-front : IsFront number_text (λ n. n < 2 ^ 32) length_at
unfolding length_at
length-front =
    same-front (λ n h. (ltb-true n (2 ^ 32) h.1, refl)) (λ n h. (omega (arith, h), lt-ltb n (2 ^ 32) h))
    (element-front 0x02 (is_tag 0x02 refl) (λ n h. omega (arith, length-number-le n h.0))
    (tested-whole (λ n. nat_lt n (2 ^ 32)) number-whole))

abbrev pub IsShort : List ℕ → Type 0
IsShort octets = Unit {0} × (length octets < 2 ^ 32)

blocks-front : IsFront (λ (octets : List ℕ). enc 0x04 octets) IsShort blocks_at
unfolding blocks_at
blocks-front = sized-element-front 0x04 (is_tag 0x04 refl) anything-whole

pub list-front : IsFront (λ (octets : List ℕ). enc 0x30 octets) IsShort list_at
unfolding list_at
list-front = sized-element-front 0x30 (is_tag 0x30 refl) anything-whole

kind-front : IsFront kind_text (λ n. n < 2 ^ 128) kind_at
unfolding kind_at
kind-front =
    element-front 0x02 (is_tag 0x02 refl) (λ n h. omega (arith, length-number-le n h)) number-whole

-- what stands behind the blocks
abbrev info_text : Format → Option ℕ × List ℕ → List ℕ
info_text formats.One x = []
info_text formats.Two x = text_if kind_text x.0 ++ enc 0x30 x.1

abbrev IsInfo : Format → Option ℕ × List ℕ → Type 0
IsInfo formats.One x = (x.0 ≡ None) × (x.1 ≡ [])
IsInfo formats.Two x = IfSome x.0 (λ n. n < 2 ^ 128) × IsShort x.1

starts_otherwise : (c : List ℕ) → begins_with 0x02 (enc 0x30 c) ≡ false
starts_otherwise c = rw (enc-begins 0x30 c).1 refl

nothing-whole : IsWhole (info_text formats.One) (IsInfo formats.One) nothing_of
unfolding nothing_of
nothing-whole = record {
  takes = λ bytes v octets e.
      let none : Option ℕ × List ℕ = (None, bytes) in
      let g = cond_some (eqb (length bytes) 0) none v e in
      let empty = nil_from_length bytes (eqb-true _ _ g.0) in
      (subst (λ (x : Option ℕ × List ℕ). (x.0 ≡ None) × (x.1 ≡ [])) g.1 (refl, empty), empty);
  again = λ v valid. λ i. Some (sym valid.0 i, sym valid.1 i);
}

added-whole : (format : Format) → IsWhole (info_text format) (IsInfo format) (added_of format)
unfolding info_of
added-whole formats.One = nothing-whole
added-whole formats.Two =
    maybe_before-whole 0x02 (λ n h. enc-begins 0x02 (number_contents n)) (λ c h. starts_otherwise c) kind-front
    (alone-whole list-front)

abbrev parts_text : Format → PackageParts → List ℕ
parts_text format p =
    name_text p.name
    ++ (enc 0x04 p.digest ++ (number_text p.length ++ (enc 0x04 p.blocks ++ info_text format (p.kind, p.needs))))

record AreParts (format : Format) (p : PackageParts) : Type 0 where
  name : IsName p.name
  digest : length p.digest ≡ 32
  size : p.length < 2 ^ 32
  blocks : IsShort p.blocks
  info : IsInfo format (p.kind, p.needs)

parts-whole : (format : Format) → IsWhole (parts_text format) (AreParts format) (parts_of format)
unfolding parts_of
parts-whole format =
    mapped-whole (λ x. record {
      name = x.0;
      digest = x.1.0;
      length = x.1.1.0;
      blocks = x.1.1.1.0;
      kind = x.1.1.1.1.0;
      needs = x.1.1.1.1.1;
    })
    (λ x h. (
      record { name = h.0; digest = h.1.0; size = h.1.1.0; blocks = h.1.1.1.0; info = h.1.1.1.1 },
      refl,
    ))
    (λ p h. (
      (p.name, (p.digest, (p.length, (p.blocks, (p.kind, p.needs))))),
      (h.name, (h.digest, (h.size, (h.blocks, h.info)))),
      refl,
    ))
    (before-whole name-front (before-whole digest-front (before-whole length-front
    (before-whole blocks-front (added-whole format)))))

parts-front : (format : Format) → IsFront (λ p. enc 0x30 (parts_text format p))
    (λ p. AreParts format p × (length (parts_text format p) < 2 ^ 32)) (parts_at format)
unfolding parts_at
parts-front format = sized-element-front 0x30 (is_tag 0x30 refl) (parts-whole format)

-- ---- block numbers

numbers_again : (ns : List ℕ) → numbers_in (blocks_contents ns) ≡ ns
numbers_again [] = refl
numbers_again (n ∷ ns) =
    let same : n / 256 * 256 + n % 256 ≡ n = omega arith in
    ap (λ (m : ℕ). m ∷ numbers_in (blocks_contents ns)) same ∙ ap (λ (ms : List ℕ). n ∷ ms) (numbers_again ns)

numbers_text : (octets : List ℕ) (k : ℕ) → AreOctets octets → length octets ≡ 2 * k
    → blocks_contents (numbers_in octets) ≡ octets
numbers_text [] k are e = refl
numbers_text (high ∷ []) k are e = absurd (omega (arith, e))
numbers_text (high ∷ (low ∷ rest)) k are e =
    let small : low < 256 = are 1 in
    let first : (high * 256 + low) / 256 ≡ high = omega (arith, small) in
    let second : (high * 256 + low) % 256 ≡ low = omega (arith, small) in
    let more = numbers_text rest (k - 1) (λ i. are (suc (suc i))) (omega (arith, e)) in
    ap (λ (h : ℕ). h ∷ (high * 256 + low) % 256 ∷ blocks_contents (numbers_in rest)) first
    ∙ ap (λ (l : ℕ). high ∷ l ∷ blocks_contents (numbers_in rest)) second
    ∙ ap (λ (l : List ℕ). high ∷ low ∷ l) more

numbers_size : (octets : List ℕ) (k : ℕ) → length octets ≡ 2 * k → length (numbers_in octets) ≡ k
numbers_size [] k e = omega (arith, e)
numbers_size (high ∷ []) k e = absurd (omega (arith, e))
numbers_size (high ∷ (low ∷ rest)) k e = omega (arith, e, numbers_size rest (k - 1) (omega (arith, e)))

-- ---- needs

needs-whole : IsWhole (flat_map name_text) (λ needs. AllByRecursion IsName needs × IsTrue (nat_le (length needs) 8)) needs_of
unfolding needs_of
needs-whole = tested-whole (λ needs. nat_le (length needs) 8) (listed-whole (λ n v. name_some n) name_falls name-front)

few_needs : (n : ℕ) → IsTrue (nat_le n 8) → n ≤ 8
few_needs n h = grind (arith, nat_tests)

needs_few : (n : ℕ) → n ≤ 8 → nat_le n 8 ≡ true
needs_few n h = grind (arith, nat_tests)

needs_many : (n : ℕ) → 8 < n → nat_le n 8 ≡ false
needs_many n h = grind (arith, nat_tests)

-- what a loop over the names finds
pub few_are_needs : (octets : List ℕ) (names : List PackageName) → listed name_at octets ≡ Some names
    → length names ≤ 8 → needs_of octets ≡ Some names
unfolding needs_of
few_are_needs octets names is few = rw (is, needs_few (length names) few) refl

pub many_are_none : (octets : List ℕ) (names : List PackageName) → listed name_at octets ≡ Some names
    → 8 < length names → needs_of octets ≡ None
unfolding needs_of
many_are_none octets names is many = rw (is, needs_many (length names) many) refl

pub no_names : (octets : List ℕ) → listed name_at octets ≡ None → needs_of octets ≡ None
unfolding needs_of
no_names octets is = rw is refl

no_needs : (needs : List PackageName) → flat_map name_text needs ≡ [] → needs ≡ []
no_needs [] e = refl
no_needs (n ∷ ns) e =
    absurd (omega (arith, ap length e, name_some n, length-append (name_text n) (flat_map name_text ns)))

-- ---- an entry from its parts

abbrev parts_in : Entry Stored → PackageParts
parts_in e = record {
  name = e.name;
  digest = e.digest;
  length = e.image.length;
  blocks = blocks_contents e.image.blocks;
  kind = e.kind;
  needs = flat_map name_text e.needs;
}

record IsMade (p : PackageParts) (e : Entry Stored) : Type 0 where
  parts : parts_in e ≡ p
  some : 1 ≤ e.image.length
  blocks : length e.image.blocks ≡ blocks_for e.image.length
  needs : AllByRecursion IsName e.needs
  few : length e.needs ≤ 8

made_of : (p : PackageParts) (needs : List PackageName) → AreOctets p.blocks → 0 < p.length
    → length p.blocks ≡ 2 * blocks_for p.length → AllByRecursion IsName needs → length needs ≤ 8
    → p.needs ≡ flat_map name_text needs
    → IsMade p (record {
      name = p.name;
      digest = p.digest;
      image = record { length = p.length; blocks = numbers_in p.blocks };
      kind = p.kind;
      needs = needs;
    })
made_of p needs octets some blocks valid few text = record {
  parts = λ i. record {
    name = p.name;
    digest = p.digest;
    length = p.length;
    blocks = numbers_text p.blocks (blocks_for p.length) octets blocks i;
    kind = p.kind;
    needs = sym text i;
  };
  some = omega (arith, some);
  blocks = numbers_size p.blocks (blocks_for p.length) blocks;
  needs = valid;
  few = few;
}

entry_made : (p : PackageParts) (e : Entry Stored) → AreOctets p.blocks → AreOctets p.needs → entry_from p ≡ Some e
    → IsMade p e
unfolding entry_from
entry_made p e blocks-octets needs-octets is =
    elim (cases_Bool (nat_lt 0 p.length && (length p.blocks == 2 * blocks_for p.length))) [
      | inr isnt ↦ absurd (none-some e (rw isnt at is))
      | inl are ↦
          let both = and_parts (nat_lt 0 p.length) (length p.blocks == 2 * blocks_for p.length) are in
          let make : List PackageName → Entry Stored = λ needs. record {
            name = p.name;
            digest = p.digest;
            image = record { length = p.length; blocks = numbers_in p.blocks };
            kind = p.kind;
            needs = needs;
          } in
          let b = some_bind (needs_of p.needs) (λ needs. Some (make needs)) e (rw are at is) in
          let t = needs-whole.takes p.needs b.0 needs-octets b.1 in
          subst (IsMade p) (some_is (make b.0) e b.2)
          (made_of p b.0 blocks-octets (ltb-true 0 p.length both.0)
          (eqb-true (length p.blocks) (2 * blocks_for p.length) both.1) t.0.0 (few_needs (length b.0) t.0.1) t.1)
    ]

entry_again : (e : Entry Stored) → IsEntry e → entry_from (parts_in e) ≡ Some e
unfolding entry_from
entry_again e v =
    let size : length (blocks_contents e.image.blocks) ≡ 2 * blocks_for e.image.length =
    omega (arith, blocks_size e.image.blocks, v.blocks) in
    rw (
      lt-ltb 0 e.image.length (omega (arith, v.some)),
      eq-eqb (length (blocks_contents e.image.blocks)) (2 * blocks_for e.image.length) size,
      needs-whole.again e.needs (v.needs, needs_few (length e.needs) v.few_needs),
    ) (λ i. Some (record {
      name = e.name;
      digest = e.digest;
      image = record { length = e.image.length; blocks = numbers_again e.image.blocks i };
      kind = e.kind;
      needs = e.needs;
    }))

-- ---- a package

parts_are : (format : Format) (e : Entry Stored) → parts_text format (parts_in e) ≡ entry_contents format e
parts_are formats.One e = refl
parts_are formats.Two e = refl

-- an entry that can be read: its length is below 2 ^ 32, and an element has room for it
pub record IsReadable (format : Format) (e : Entry Stored) : Type 0 where
  pub entry : IsEntryOf format e
  pub size : e.image.length < 2 ^ 32
  pub room : length (entry_contents format e) < 2 ^ 32

info_fits : (format : Format) (p : PackageParts) (e : Entry Stored) → AreParts format p → IsMade p e
    → IfSome e.kind (λ n. n < 2 ^ 128) × FitsFormat format e
info_fits formats.One p e are made =
    let kind : e.kind ≡ None = ap (λ (q : PackageParts). q.kind) made.parts ∙ are.info.0 in
    let needs : e.needs ≡ [] = no_needs e.needs (ap (λ (q : PackageParts). q.needs) made.parts ∙ are.info.1) in
    (subst (λ (k : Option ℕ). IfSome k (λ n. n < 2 ^ 128)) (sym kind) tt, (kind, needs))
info_fits formats.Two p e are made = (
  subst (λ (k : Option ℕ). IfSome k (λ n. n < 2 ^ 128)) (sym (ap (λ (q : PackageParts). q.kind) made.parts)) are.info.0,
  tt,
)

readable : (format : Format) (p : PackageParts) (e : Entry Stored) → AreParts format p
    → length (parts_text format p) < 2 ^ 32 → IsMade p e → IsReadable format e
readable format p e are room made =
    let fits = info_fits format p e are made in
    record {
      entry = (
        record {
          name = subst IsName (sym (ap (λ (q : PackageParts). q.name) made.parts)) are.name;
          digest = ap (λ (q : PackageParts). length q.digest) made.parts ∙ are.digest;
          some = made.some;
          blocks = made.blocks;
          kind = fits.0;
          needs = made.needs;
          few_needs = made.few;
        },
        fits.1,
      );
      size = omega (arith, are.size, ap (λ (q : PackageParts). q.length) made.parts);
      room = omega (
        arith,
        room,
        ap length (parts_are format e),
        ap (λ (q : PackageParts). length (parts_text format q)) made.parts,
      );
    }

-- the parts of a readable entry
info_valid : (format : Format) (e : Entry Stored) → IsEntryOf format e → length (added_text format e) < 2 ^ 32
    → IsInfo format (e.kind, flat_map name_text e.needs)
info_valid formats.One e v room = (v.1.0, ap (flat_map name_text) v.1.1)
info_valid formats.Two e v room =
    let c = flat_map name_text e.needs in
    (v.0.kind, (tt, omega (arith, room, length-append (text_if kind_text e.kind) (enc 0x30 c), length-enc 0x30 c)))

parts_valid : (format : Format) (e : Entry Stored) → IsReadable format e
    → AreParts format (parts_in e) × (length (parts_text format (parts_in e)) < 2 ^ 32)
parts_valid format e v = (
  record {
    name = v.entry.0.name;
    digest = v.entry.0.digest;
    size = v.size;
    blocks = (tt, blocks_room format e v.room);
    info = info_valid format e v.entry (added_room format e v.room);
  },
  omega (arith, v.room, ap length (parts_are format e)),
)

-- the octets of the blocks and of the needs
octets_inside : (format : Format) (p : PackageParts) → AreParts format p → AreOctets (parts_text format p)
    → AreOctets p.blocks × AreOctets p.needs
octets_inside format p are octets =
    let a = AreOctets-right (name_text p.name) (enc 0x04 p.digest ++ (number_text p.length
    ++ (enc 0x04 p.blocks ++ info_text format (p.kind, p.needs)))) octets in
    let b = AreOctets-right (enc 0x04 p.digest) (number_text p.length
    ++ (enc 0x04 p.blocks ++ info_text format (p.kind, p.needs))) a in
    let c = AreOctets-right (number_text p.length) (enc 0x04 p.blocks ++ info_text format (p.kind, p.needs)) b in
    let d = AreOctets-right (enc 0x04 p.blocks) (info_text format (p.kind, p.needs)) c in
    (contents_octets 4 p.blocks (info_text format (p.kind, p.needs)) _ c refl, inside format are.info d)
  where
    none : (i : ℕ) → AreOctets []
    none i j = omega arith

    inside : (format : Format) → IsInfo format (p.kind, p.needs) → AreOctets (info_text format (p.kind, p.needs))
        → AreOctets p.needs
    inside formats.One info o = subst AreOctets (sym info.1) (none 0)
    inside formats.Two info o =
        let e = AreOctets-right (text_if kind_text p.kind) (enc 0x30 p.needs) o in
        contents_octets 0x30 p.needs [] (enc 0x30 p.needs) e (sym (bare (enc 0x30 p.needs)))

-- the entry of parts that were read
abbrev finished : PackageParts × List ℕ → Option (Entry Stored × List ℕ)
finished y = entry_from y.0 >>? λ entry. Some (entry, y.1)

pub entry-front : (format : Format) → IsFront (entry_text format) (IsReadable format) (entry_at format)
unfolding entry_at
entry-front format = record { takes = takes; again = again }
  where
    takes : (bytes : List ℕ) (x : Entry Stored × List ℕ) → AreOctets bytes
        → (parts_at format bytes >>? finished) ≡ Some x
        → IsReadable format x.0 × (bytes ≡ entry_text format x.0 ++ x.1)
    takes bytes x octets is =
        let b = some_bind (parts_at format bytes) finished x is in
        let c = some_bind (entry_from b.0.0) (λ entry. Some (entry, b.0.1)) x b.2 in
        let t = (parts-front format).takes bytes b.0 octets b.1 in
        let inner = contents_octets 0x30 (parts_text format b.0.0) b.0.1 bytes octets t.1 in
        let o = octets_inside format b.0.0 t.0.0 inner in
        let made = entry_made b.0.0 c.0 o.0 o.1 c.1 in
        let text = ap (λ (q : PackageParts). enc 0x30 (parts_text format q) ++ b.0.1) (sym made.parts)
        ∙ ap (λ (l : List ℕ). enc 0x30 l ++ b.0.1) (parts_are format c.0) in
        subst (λ (y : Entry Stored × List ℕ). IsReadable format y.0 × (bytes ≡ entry_text format y.0 ++ y.1))
        (some_is (c.0, b.0.1) x c.2)
        (readable format b.0.0 c.0 t.0.0 t.0.1 made, t.1 ∙ text)

    again : (e : Entry Stored) (rest : List ℕ) → IsReadable format e
        → (parts_at format (entry_text format e ++ rest) >>? finished) ≡ Some (e, rest)
    again e rest v =
        let found = ap (λ (l : List ℕ). parts_at format (enc 0x30 l ++ rest)) (sym (parts_are format e))
        ∙ (parts-front format).again (parts_in e) rest (parts_valid format e v) in
        rw (found, entry_again e v.entry.0) refl

pub entry_falls : (format : Format) (bytes : List ℕ) (x : Entry Stored × List ℕ) → entry_at format bytes ≡ Some x
    → length x.1 < length bytes
unfolding entry_at parts_at
entry_falls format bytes x is =
    let b = some_bind (element 0x30 (parts_of format) bytes) finished x is in
    let c = some_bind (entry_from b.0.0) (λ entry. Some (entry, b.0.1)) x b.2 in
    subst (λ (y : Entry Stored × List ℕ). length y.1 < length bytes) (some_is (c.0, b.0.1) x c.2)
    (element-falls 0x30 (parts_of format) bytes b.0 b.1)

pub entries-whole : (format : Format)
    → IsWhole (flat_map (entry_text format)) (AllByRecursion (IsReadable format)) (listed (entry_at format))
entries-whole format =
    listed-whole (λ e v. enc_some 0x30 (entry_contents format e)) (entry_falls format) (entry-front format)

-- ---- block numbers, as a loop reads them

pub numbers_more : (octets rest more so_far : List ℕ) (high low : ℕ) → rest ≡ high ∷ low ∷ more
    → numbers_in octets ≡ so_far ++ numbers_in rest
    → numbers_in octets ≡ (so_far ++ (high * 256 + low) ∷ []) ++ numbers_in more
numbers_more octets rest more so_far high low is before =
    before ∙ ap (λ (l : List ℕ). so_far ++ numbers_in l) is
    ∙ sym (append_assoc so_far ((high * 256 + low) ∷ []) (numbers_in more))

pub numbers_end : (octets rest so_far : List ℕ) → length rest < 2 → numbers_in octets ≡ so_far ++ numbers_in rest
    → so_far ≡ numbers_in octets
numbers_end octets [] so_far short before = sym (before ∙ append-nil so_far)
numbers_end octets (x ∷ []) so_far short before = sym (before ∙ append-nil so_far)
numbers_end octets (x ∷ (y ∷ rest)) so_far short before = absurd (omega (arith, short))
