-- A manifest is read exactly.
use Rattle.std.proofs.Common.{◌≡◌, ℕ, Bool, ◌^◌, ◌<◌, ◌≤◌, true, eqb, ltb, inl, inr, List, [], ◌∷◌, ◌++◌, length, Option, Some, None, refl, sym, ap, subst, ◌∙◌, arith, length-append}
use Rattle.std.specs.Prelude.{◌↔◌, ◌&&◌, nat_lt, IsSome, is_some}
use Rattle.std.specs.List.{AllByRecursion, flat_map}
use Rattle.std.proofs.lemmas.Bool.{cases_Bool, eqb-true, lt-ltb, ltb-true, and_parts, false≢true}
use Rattle.std.proofs.lemmas.Option.{cond_some, none-some}
use Rattle.der_core.specs.Element.{enc, AreOctets}
use Rattle.der_core.specs.Shapes.{IsFront, IsWhole}
use Rattle.der_core.proofs.Digits.{AreOctets-right}
use Rattle.der_core.proofs.Fronts.{contents_octets}
use Rattle.der_core.proofs.Numbers.{some_is}
use Rattle.der_core.proofs.Places.{length-enc}
use Rattle.der_core.proofs.Shapes.{is_tag, element-front, sized-element-front, same-front, alone-whole, before-whole, mapped-whole, tested-whole, number-whole, length-number-le}
use Rattle.module_record.proofs.KindLaws.{valued-whole}
use Rattle.config_table.specs.declared.stale_entry.StaleEntry.{StaleEntry}
use Rattle.config_table.specs.State.{Entry, State}
use Rattle.config_table.specs.Stored.{Stored}
use Rattle.bank_layout.specs.declared.format.Format.{Format}
use Rattle.bank_layout.specs.declared.format.Format.TheVariants as formats
use Rattle.module_record.specs.ModuleRecord.{number_text}
use Rattle.bank_layout.specs.Manifest.{Manifest, blocks_in, entry_contents, entry_text, stale_entry_text, format_number, IsEntry, FitsFormat, AreOwnBlocks, IsCapacity, BeginsWithManifest}
use Rattle.bank_layout.specs.Reading.{ManifestParts, format_from, format_at, sequence_at, manifest_of, manifest_at}
use Rattle.bank_layout.specs.Tables.{ReadsPackages, ReadsStale, found_manifest}
use Rattle.bank_layout.proofs.PackageLaws.{IsShort, list-front, IsReadable, entries-whole}
use Rattle.bank_layout.proofs.TableLaws.{stale-whole}
use Rattle.bank_layout.proofs.Sizes.{CanBeKept, contents_size, entry_size}
use Rattle.bank_layout.proofs.Texts.{bare}

-- ---- the parts of a manifest

format_some : (n : ℕ) (format : Format) → format_from n ≡ Some format → Unit {0} × (format_number format ≡ n)
unfolding format_from
format_some n format e = elim (cases_Bool (eqb n 1)) [
  | inl is ↦
      subst (λ (f : Format). Unit {0} × (format_number f ≡ n)) (some_is formats.One format (rw is at e))
      (tt, sym (eqb-true n 1 is))
  | inr isnt ↦
      let g = cond_some (eqb n 2) formats.Two format (rw isnt at e) in
      subst (λ (f : Format). Unit {0} × (format_number f ≡ n)) g.1 (tt, sym (eqb-true n 2 g.0))
]

format_again : (format : Format) → Unit {0} → (format_number format < 2 ^ 128) × (format_from (format_number format) ≡ Some format)
unfolding format_from
format_again formats.One any = (omega arith, refl)
format_again formats.Two any = (omega arith, refl)

format-front : IsFront (λ format. number_text (format_number format)) (λ _. Unit {0}) format_at
unfolding format_at
format-front =
    element-front 0x02 (is_tag 0x02 refl)
    (λ format any. omega (arith, length-number-le (format_number format) (format_again format any).0))
    (valued-whole format_from format_number format_some format_again)

abbrev IsSequence : ℕ → Type 0
IsSequence n = (1 ≤ n) × (n < 2 ^ 64)

sequence-front : IsFront number_text IsSequence sequence_at
unfolding sequence_at
sequence-front =
    same-front (λ n h. (forth n h.1, refl))
    (λ n h. (omega (arith, h.1), rw (lt-ltb 0 n (omega (arith, h.0)), lt-ltb n (2 ^ 64) h.1) refl))
    (element-front 0x02 (is_tag 0x02 refl) (λ n h. omega (arith, length-number-le n h.0))
    (tested-whole (λ n. nat_lt 0 n && nat_lt n (2 ^ 64)) number-whole))
  where
    forth : (n : ℕ) → (ltb 0 n && ltb n (2 ^ 64)) ≡ true → IsSequence n
    forth n h =
        let both = and_parts (ltb 0 n) (ltb n (2 ^ 64)) h in
        (omega (arith, ltb-true 0 n both.0), ltb-true n (2 ^ 64) both.1)

abbrev parts_text : ManifestParts → List ℕ
parts_text p =
    number_text (format_number p.format) ++ (number_text p.sequence ++ (enc 0x30 p.packages ++ enc 0x30 p.stale))

record AreParts (p : ManifestParts) : Type 0 where
  sequence : IsSequence p.sequence
  packages : IsShort p.packages
  stale : IsShort p.stale

parts-whole : IsWhole parts_text AreParts manifest_of
unfolding manifest_of
parts-whole =
    mapped-whole (λ x. record { format = x.0; sequence = x.1.0; packages = x.1.1.0; stale = x.1.1.1 })
    (λ x h. (record { sequence = h.1.0; packages = h.1.1.0; stale = h.1.1.1 }, refl))
    (λ p h. ((p.format, (p.sequence, (p.packages, p.stale))), (tt, (h.sequence, (h.packages, h.stale))), refl))
    (before-whole format-front (before-whole sequence-front (before-whole list-front (alone-whole list-front))))

parts-front : IsFront (λ p. enc 0x30 (parts_text p)) (λ p. AreParts p × (length (parts_text p) < 2 ^ 32)) manifest_at
unfolding manifest_at
parts-front = sized-element-front 0x30 (is_tag 0x30 refl) parts-whole

-- ---- the parts of a manifest's text

abbrev parts_in : Format → Manifest → ManifestParts
parts_in format m = record {
  format = format;
  sequence = m.sequence;
  packages = flat_map (entry_text format) m.state.packages;
  stale = flat_map stale_entry_text m.state.stale;
}

-- entries that are few enough blocks can be read
all_readable : (format : Format) (es : List (Entry Stored)) → length (blocks_in es) ≤ 4096 → AllByRecursion IsEntry es
    → AllByRecursion (FitsFormat format) es → AllByRecursion (IsReadable format) es
all_readable format [] few v fits = tt
all_readable format (e ∷ es) few v fits =
    let sum = length-append e.image.blocks (blocks_in es) in
    let own : length e.image.blocks ≤ 4096 = omega (arith, sum, few) in (
      record {
        entry = (v.0, fits.0);
        size = omega (arith, v.0.blocks, own);
        room = omega (arith, entry_size format e v.0 own, length-enc 0x30 (entry_contents format e), own);
      },
      all_readable format es (omega (arith, sum, few)) v.1 fits.1,
    )

parts_valid : (format : Format) (m : Manifest) → 1 ≤ m.sequence → m.sequence < 2 ^ 64 → CanBeKept m.state
    → AreParts (parts_in format m) × (length (parts_text (parts_in format m)) < 2 ^ 32)
parts_valid format m some most kept =
    let es = flat_map (entry_text format) m.state.packages in
    let ss = flat_map stale_entry_text m.state.stale in
    let all = contents_size format m most kept in
    let t1 = number_text m.sequence ++ (enc 0x30 es ++ enc 0x30 ss) in (
      record {
        sequence = (some, most);
        packages = (
          tt,
          omega (
            arith,
            all,
            length-append (number_text (format_number format)) t1,
            length-append (number_text m.sequence) (enc 0x30 es ++ enc 0x30 ss),
            length-append (enc 0x30 es) (enc 0x30 ss),
            length-enc 0x30 es,
          ),
        );
        stale = (
          tt,
          omega (
            arith,
            all,
            length-append (number_text (format_number format)) t1,
            length-append (number_text m.sequence) (enc 0x30 es ++ enc 0x30 ss),
            length-append (enc 0x30 es) (enc 0x30 ss),
            length-enc 0x30 ss,
          ),
        );
      },
      omega (arith, all),
    )

-- What octets that begin with a manifest are read as.
pub record IsReadAs (capacity : ℕ) (bytes : List ℕ) (m : Manifest) : Type 0 where
  pub parts : ManifestParts
  pub rest : List ℕ
  pub read : manifest_at bytes ≡ Some (parts, rest)
  pub sequence : parts.sequence ≡ m.sequence
  pub packages : ReadsPackages parts.format parts.packages m.state.packages
  pub stale : ReadsStale parts.stale m.state.stale
  pub blocks : AreOwnBlocks capacity (blocks_in m.state.packages)

pub begins_reads : (capacity : ℕ) (bytes : List ℕ) (m : Manifest) → BeginsWithManifest capacity bytes m
    → IsReadAs capacity bytes m
begins_reads capacity bytes m b =
    let v = b.valid.state in
    let few = b.valid.of_module.1 in
    let readable = all_readable b.format m.state.packages (omega (arith, v.blocks.few, few)) v.entries b.fits in
    record {
      parts = parts_in b.format m;
      rest = b.rest;
      read = ap manifest_at b.text
          ∙ parts-front.again (parts_in b.format m) b.rest
          (parts_valid b.format m b.valid.some b.valid.most (capacity, few, v));
      sequence = refl;
      packages = record {
        read = (entries-whole b.format).again m.state.packages readable;
        are = record { few = v.packages; distinct = v.distinct.packages };
      };
      stale = record {
        read = stale-whole.again m.state.stale v.stale_entries;
        are = record { few = v.stale; distinct = v.distinct.stale };
      };
      blocks = v.blocks;
    }

all_entries : (format : Format) (es : List (Entry Stored)) → AllByRecursion (IsReadable format) es
    → AllByRecursion IsEntry es × AllByRecursion (FitsFormat format) es
all_entries format [] v = (tt, tt)
all_entries format (e ∷ es) v =
    let more = all_entries format es v.1 in ((v.0.entry.0, more.0), (v.0.entry.1, more.1))

-- the octets of the two lists
octets_inside : (p : ManifestParts) → AreOctets (parts_text p) → AreOctets p.packages × AreOctets p.stale
octets_inside p octets =
    let a = AreOctets-right (number_text (format_number p.format)) (number_text p.sequence
    ++ (enc 0x30 p.packages ++ enc 0x30 p.stale)) octets in
    let b = AreOctets-right (number_text p.sequence) (enc 0x30 p.packages ++ enc 0x30 p.stale) a in
    let c = AreOctets-right (enc 0x30 p.packages) (enc 0x30 p.stale) b in (
      contents_octets 48 p.packages (enc 0x30 p.stale) (enc 0x30 p.packages ++ enc 0x30 p.stale) b refl,
      contents_octets 48 p.stale [] (enc 0x30 p.stale) c (sym (bare (enc 0x30 p.stale))),
    )

pub reads_begins : (capacity : ℕ) (bytes : List ℕ) (p : ManifestParts) (rest : List ℕ) (state : State Stored)
    → IsCapacity capacity → AreOctets bytes → manifest_at bytes ≡ Some (p, rest)
    → ReadsPackages p.format p.packages state.packages
    → ReadsStale p.stale state.stale → AreOwnBlocks capacity (blocks_in state.packages)
    → BeginsWithManifest capacity bytes (record { sequence = p.sequence; state = state })
reads_begins capacity bytes p rest state of_module octets read packages stale own =
    let t = parts-front.takes bytes (p, rest) octets read in
    let o = octets_inside p (contents_octets 48 (parts_text p) rest bytes octets t.1) in
    let es = (entries-whole p.format).takes p.packages state.packages o.0 packages.read in
    let ss = stale-whole.takes p.stale state.stale o.1 stale.read in
    let all = all_entries p.format state.packages es.0 in
    record {
      format = p.format;
      valid = record {
        of_module = of_module;
        some = t.0.0.sequence.0;
        most = t.0.0.sequence.1;
        state = record {
          packages = packages.are.few;
          entries = all.0;
          stale = stale.are.few;
          stale_entries = ss.0;
          distinct = record { packages = packages.are.distinct; stale = stale.are.distinct };
          blocks = own;
        };
      };
      fits = all.1;
      rest = rest;
      text = t.1
          ∙ ap (λ (l : List ℕ). enc 0x30 (number_text (format_number p.format) ++ (number_text p.sequence
          ++ (enc 0x30 l ++ enc 0x30 p.stale))) ++ rest) es.1
          ∙ ap (λ (l : List ℕ). enc 0x30 (number_text (format_number p.format) ++ (number_text p.sequence
          ++ (enc 0x30 (flat_map (entry_text p.format) state.packages) ++ enc 0x30 l))) ++ rest) ss.1;
    }

-- ---- what the reader answers

abbrev pub Spells : ℕ → List ℕ → Option (ℕ × State Stored) → Type 0
Spells capacity bytes found = (m : Manifest) → (found_manifest found ≡ Some m) ↔ BeginsWithManifest capacity bytes m

-- none is answered
pub spells_none : (capacity : ℕ) (bytes : List ℕ) → ((m : Manifest) → IsReadAs capacity bytes m → ⊥)
    → Spells capacity bytes None
spells_none capacity bytes none m =
    (λ is. absurd (none-some m is), λ b. absurd (none m (begins_reads capacity bytes m b)))

-- no module has the capacity
pub spells_nothing : (capacity : ℕ) (bytes : List ℕ) → ¬ IsCapacity capacity → Spells capacity bytes None
spells_nothing capacity bytes isnt m = (λ is. absurd (none-some m is), λ b. absurd (isnt b.valid.of_module))

module _ (capacity : ℕ) (bytes : List ℕ) (p : ManifestParts) (rest : List ℕ) (read : manifest_at bytes ≡ Some (p, rest)) where
  same_parts : (m : Manifest) (r : IsReadAs capacity bytes m) → p ≡ r.parts
  same_parts m r = ap (λ (x : ManifestParts × List ℕ). x.0) (some_is (p, rest) (r.parts, r.rest) (sym read ∙ r.read))

  -- the packages, and the stale entries, of whatever manifest is read
  pub reads_packages : (m : Manifest) → IsReadAs capacity bytes m → ReadsPackages p.format p.packages m.state.packages
  reads_packages m r =
      subst (λ (q : ManifestParts). ReadsPackages q.format q.packages m.state.packages) (sym (same_parts m r)) r.packages

  pub reads_stale : (m : Manifest) → IsReadAs capacity bytes m → ReadsStale p.stale m.state.stale
  reads_stale m r =
      subst (λ (q : ManifestParts). ReadsStale q.stale m.state.stale) (sym (same_parts m r)) r.stale

  pub same_packages : (m : Manifest) (packages : List (Entry Stored)) → IsReadAs capacity bytes m
      → ReadsPackages p.format p.packages packages → packages ≡ m.state.packages
  same_packages m packages r reads =
      some_is packages m.state.packages (sym reads.read ∙ (reads_packages m r).read)

  pub same_stale : (m : Manifest) (stale : List StaleEntry) → IsReadAs capacity bytes m → ReadsStale p.stale stale
      → stale ≡ m.state.stale
  same_stale m stale r reads = some_is stale m.state.stale (sym reads.read ∙ (reads_stale m r).read)

  -- one is answered
  pub spells_some : (sequence : ℕ) (state : State Stored) → IsCapacity capacity → AreOctets bytes
      → p.sequence ≡ sequence
      → ReadsPackages p.format p.packages state.packages → ReadsStale p.stale state.stale
      → AreOwnBlocks capacity (blocks_in state.packages) → Spells capacity bytes (Some (sequence, state))
  spells_some sequence state of_module octets numbered packages stale own m = (
    λ is. subst (BeginsWithManifest capacity bytes) (some_is (record { sequence = sequence; state = state }) m is)
        (subst (λ (n : ℕ). BeginsWithManifest capacity bytes (record { sequence = n; state = state })) numbered
        (reads_begins capacity bytes p rest state of_module octets read packages stale own)),
    λ b.
        let r = begins_reads capacity bytes m b in
        let numbers = sym numbered ∙ ap (λ (q : ManifestParts). q.sequence) (same_parts m r) ∙ r.sequence in
        λ i. Some (record {
          sequence = numbers i;
          state = record {
            packages = same_packages m state.packages r packages i;
            stale = same_stale m state.stale r stale i;
          };
        }),
  )

-- ---- what the reader's steps give

-- no manifest's parts stand in front
pub reads_nothing : (capacity : ℕ) (bytes front : List ℕ) → front ≡ bytes → manifest_at front ≡ None
    → Spells capacity bytes None
reads_nothing capacity bytes front same is = spells_none capacity bytes (λ m r.
    none-some (r.parts, r.rest) (sym (subst (λ (b : List ℕ). manifest_at b ≡ None) same is) ∙ r.read))

module _ (capacity : ℕ) (bytes front : List ℕ) (p : ManifestParts) (rest : List ℕ) (same : front ≡ bytes)
    (is : manifest_at front ≡ Some (p, rest)) where
  read : manifest_at bytes ≡ Some (p, rest)
  read = subst (λ (b : List ℕ). manifest_at b ≡ Some (p, rest)) same is

  pub reads_no_packages : ((packages : List (Entry Stored)) → ¬ ReadsPackages p.format p.packages packages)
      → Spells capacity bytes None
  reads_no_packages none = spells_none capacity bytes (λ m r.
      none m.state.packages (reads_packages capacity bytes p rest read m r))

  pub reads_no_stale : ((stale : List StaleEntry) → ¬ ReadsStale p.stale stale) → Spells capacity bytes None
  reads_no_stale none = spells_none capacity bytes (λ m r. none m.state.stale (reads_stale capacity bytes p rest read m r))

  module _ (state : State Stored) (old : List (Entry Stored)) (kept : state.packages ≡ old)
      (packages : ReadsPackages p.format p.packages old) where
    these : ReadsPackages p.format p.packages state.packages
    these = subst (ReadsPackages p.format p.packages) (sym kept) packages

    pub reads_no_blocks : (pool : Option (List Bool)) → pool ≡ None
        → IsSome pool ↔ AreOwnBlocks capacity (blocks_in state.packages) → Spells capacity bytes None
    reads_no_blocks pool none found = spells_none capacity bytes (λ m r.
        let own = subst (λ (es : List (Entry Stored)). AreOwnBlocks capacity (blocks_in es))
        (sym (same_packages capacity bytes p rest read m state.packages r these)) r.blocks in
        false≢true (sym (ap is_some none) ∙ found.1 own))

    pub reads_state : (pool : Option (List Bool)) (held : List Bool) → pool ≡ Some held
        → IsSome pool ↔ AreOwnBlocks capacity (blocks_in state.packages) → IsCapacity capacity → AreOctets bytes
        → ReadsStale p.stale state.stale → Spells capacity bytes (Some (p.sequence, state))
    reads_state pool held some found of_module octets stale =
        spells_some capacity bytes p rest read p.sequence state of_module octets refl these stale
        (found.0 (ap is_some some))
