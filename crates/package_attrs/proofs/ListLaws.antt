-- Target hardware, communities and package information are read exactly.
use Rattle.std.proofs.Common.{◌≡◌, ◌≢◌, ℕ, ◌*◌, ◌^◌, ◌<◌, ◌≤◌, false, eqb, ltb, List, [], ◌∷◌, ◌++◌}
use Rattle.std.proofs.Common.{length, Option, Some, None, refl, sym, inl, inr, ◌⊎◌, arith}
use Rattle.std.specs.Prelude.{IsTrue, IfSome}
use Rattle.std.specs.List.{AllByRecursion, flat_map}
use Rattle.std.specs.Option.{unwrap_or}
use Rattle.std.proofs.lemmas.Bool.{eqb-true, ltb-true, lt-ltb, and_parts}
use Rattle.std.proofs.lemmas.List.{length-append, nil_from_length}
use Rattle.std.proofs.lemmas.Option.{cond_some}
use Rattle.der_core.specs.Element.{enc}
use Rattle.der_core.specs.Number.{number_contents}
use Rattle.der_core.specs.Objects.{IsOid}
use Rattle.der_core.specs.Reading.{oid_of, octets_of}
use Rattle.der_core.specs.Shapes.{text_if, IsFront, IsWhole, element, mapped, begins_with}
use Rattle.der_core.proofs.Places.{length-enc}
use Rattle.der_core.proofs.Shapes.{is_tag, element-front, sized-element-front, same-front, alone-whole, before-whole}
use Rattle.der_core.proofs.Shapes.{optional-whole, maybe_before-whole, choice-front, mapped-whole, tested-whole}
use Rattle.der_core.proofs.Shapes.{listed-whole, number-whole, oid-whole, octets-whole, Begins, enc-begins}
use Rattle.der_core.proofs.Shapes.{length-enc-le, length-number-le}
use Rattle.package_attrs.specs.declared.community.SerialEntry.{SerialEntry}
use Rattle.package_attrs.specs.declared.community.SerialEntry.TheVariants as entries
use Rattle.package_attrs.specs.declared.community.Community.{Community}
use Rattle.package_attrs.specs.declared.community.Community.TheVariants as communities
use Rattle.package_attrs.specs.declared.name.PackageName.{PackageName}
use Rattle.package_attrs.specs.declared.name.PackageName.TheVariants as names
use Rattle.package_attrs.specs.declared.package.Info.{Info}
use Rattle.package_attrs.specs.Communities.{serial_entry_text, IsSerialEntry, modules_contents}
use Rattle.package_attrs.specs.Communities.{community_text, AreModules, IsCommunity, communities_text, AreCommunities}
use Rattle.package_attrs.specs.Identifier.{name_text, IsName, HasOneTo64}
use Rattle.package_attrs.specs.Information.{kind_text, dependencies_text, info_text, IsInfo}
use Rattle.package_attrs.specs.ListReading.{targets_of, modules_of, community_at, communities_of}
use Rattle.package_attrs.specs.ListReading.{is_some_and_few, names_of, dependencies_of}
use Rattle.package_attrs.specs.ListReading.{kind_at, info_fields_of, info_of}
use Rattle.package_attrs.specs.Reading.{oid_at, octets_at}
use Rattle.package_attrs.specs.SerialReading.{nothing, block_of, serial_entry_at}
use Rattle.package_attrs.specs.Targets.{targets_text, AreTargets}
use Rattle.package_attrs.proofs.Falls.{oid_falls, serial_entry_falls, community_falls, name_falls}
use Rattle.package_attrs.proofs.IdentifierLaws.{name-front, name_length}

enc_some : (tag : ℕ) (contents : List ℕ) → 0 < length (enc tag contents)
enc_some tag contents = omega (arith, length-enc tag contents)

-- ---- target hardware

pub oid-front : IsFront (enc 0x06) IsOid oid_at
unfolding oid_at
oid-front = element-front 0x06 (is_tag 0x06 refl) (λ id h. omega (arith, h.most)) oid-whole

pub targets-whole : IsWhole targets_text AreTargets targets_of
unfolding targets_of
targets-whole =
    alone-whole (same-front (λ ids h. (record { each = h.0; fits = h.1 }, refl)) (λ ids h. (h.each, h.fits))
    (sized-element-front 0x30 (is_tag 0x30 refl)
    (listed-whole (λ id h. enc_some 0x06 id) oid_falls oid-front)))

-- ---- serial entries

nothing-whole : {V : Type 0} (v : V) → IsWhole (λ _. []) (λ w. w ≡ v) (nothing v)
nothing-whole {V} v = record {
  takes = λ bytes w octets e.
      let g = cond_some (eqb (length bytes) 0) v w e in
      (sym g.1, nil_from_length bytes (eqb-true _ _ g.0));
  again = λ w h. rw h refl;
}

pub octets-front : IsFront (enc 0x04) HasOneTo64 octets_at
unfolding octets_at
octets-front = element-front 0x04 (is_tag 0x04 refl) (λ octets h. omega (arith, h.1)) octets-whole

abbrev IsAll : SerialEntry → Type 0
IsAll entry = entry ≡ entries.All

abbrev IsSingle : SerialEntry → Type 0
IsSingle entries.All = ⊥
IsSingle (entries.Single serial) = HasOneTo64 serial
IsSingle (entries.Block low high) = ⊥

abbrev IsBlock : SerialEntry → Type 0
IsBlock entries.All = ⊥
IsBlock (entries.Single serial) = ⊥
IsBlock (entries.Block low high) = HasOneTo64 low × HasOneTo64 high

all-front : IsFront serial_entry_text IsAll (element 0x05 (nothing entries.All))
all-front =
    same-front (λ entry h. (h, rw h refl)) (λ entry h. h)
    (element-front 0x05 (is_tag 0x05 refl) (λ entry h. omega arith) (nothing-whole entries.All))

-- the contents of a single serial number, and of a block
abbrev single_contents : SerialEntry → List ℕ
single_contents entries.All = []
single_contents (entries.Single serial) = serial
single_contents (entries.Block low high) = []

abbrev block_contents : SerialEntry → List ℕ
block_contents entries.All = []
block_contents (entries.Single serial) = []
block_contents (entries.Block low high) = enc 0x04 low ++ enc 0x04 high

single-front : IsFront serial_entry_text IsSingle (element 0x04 (mapped (λ serial. entries.Single serial) octets_of))
single-front =
    same-front forth (λ entry h. h)
    (element-front 0x04 (is_tag 0x04 refl) fits (mapped-whole (λ serial. entries.Single serial)
    (λ serial h. (h, refl)) back octets-whole))
  where
    forth : (entry : SerialEntry) → IsSingle entry → IsSingle entry × (enc 0x04 (single_contents entry) ≡
        serial_entry_text entry)
    forth entries.All h = absurd h
    forth (entries.Single serial) h = (h, refl)
    forth (entries.Block low high) h = absurd h

    fits : (entry : SerialEntry) → IsSingle entry → length (single_contents entry) < 2 ^ 32
    fits entries.All h = absurd h
    fits (entries.Single serial) h = omega (arith, h.1)
    fits (entries.Block low high) h = absurd h

    back : (entry : SerialEntry) → IsSingle entry → (serial : List ℕ) × HasOneTo64 serial ×
        (entries.Single serial ≡ entry)
    back entries.All h = absurd h
    back (entries.Single serial) h = (serial, h, refl)
    back (entries.Block low high) h = absurd h

block-whole : IsWhole (λ x. enc 0x04 x.0 ++ enc 0x04 x.1) (λ x. HasOneTo64 x.0 × HasOneTo64 x.1) block_of
unfolding block_of
block-whole = before-whole octets-front (alone-whole octets-front)

block-front : IsFront serial_entry_text IsBlock (element 0x30 (mapped (λ ends. entries.Block ends.0 ends.1) block_of))
block-front =
    same-front forth (λ entry h. h)
    (element-front 0x30 (is_tag 0x30 refl) fits (mapped-whole (λ ends. entries.Block ends.0 ends.1)
    (λ ends h. (h, refl)) back block-whole))
  where
    forth : (entry : SerialEntry) → IsBlock entry → IsBlock entry × (enc 0x30 (block_contents entry) ≡
        serial_entry_text entry)
    forth entries.All h = absurd h
    forth (entries.Single serial) h = absurd h
    forth (entries.Block low high) h = (h, refl)

    fits : (entry : SerialEntry) → IsBlock entry → length (block_contents entry) < 2 ^ 32
    fits entries.All h = absurd h
    fits (entries.Single serial) h = absurd h
    fits (entries.Block low high) h =
        omega (
          arith,
          h.0.1,
          h.1.1,
          length-append (enc 0x04 low) (enc 0x04 high),
          length-enc-le 0x04 low
              (omega (arith, h.0.1)),
          length-enc-le 0x04 high (omega (arith, h.1.1)),
        )

    back : (entry : SerialEntry) → IsBlock entry → (ends : List ℕ × List ℕ) × (HasOneTo64 ends.0 × HasOneTo64 ends.1) ×
        (entries.Block ends.0 ends.1 ≡ entry)
    back entries.All h = absurd h
    back (entries.Single serial) h = absurd h
    back (entries.Block low high) h = ((low, high), h, refl)

serial_entry-front : IsFront serial_entry_text IsSerialEntry serial_entry_at
unfolding serial_entry_at
serial_entry-front =
    same-front (λ entry h. (forth entry h, refl)) back
    (choice-front 0x05 (λ entry h. rw h (enc-begins 0x05 [])) other all-front
    (choice-front 0x04 single block single-front block-front))
  where
    forth : (entry : SerialEntry) → IsAll entry ⊎ (IsSingle entry ⊎ IsBlock entry) → IsSerialEntry entry
    forth entry (inl h) = rw h tt
    forth entries.All (inr h) = tt
    forth (entries.Single serial) (inr (inl h)) = h
    forth (entries.Single serial) (inr (inr h)) = absurd h
    forth (entries.Block low high) (inr (inl h)) = absurd h
    forth (entries.Block low high) (inr (inr h)) = h

    back : (entry : SerialEntry) → IsSerialEntry entry → IsAll entry ⊎ (IsSingle entry ⊎ IsBlock entry)
    back entries.All h = inl refl
    back (entries.Single serial) h = inr (inl h)
    back (entries.Block low high) h = inr (inr h)

    single : (entry : SerialEntry) → IsSingle entry → Begins 0x04 (serial_entry_text entry)
    single entries.All h = absurd h
    single (entries.Single serial) h = enc-begins 0x04 serial
    single (entries.Block low high) h = absurd h

    block : (entry : SerialEntry) → IsBlock entry → (b : ℕ) × (b ≢ 0x04) × Begins b (serial_entry_text entry)
    block entries.All h = absurd h
    block (entries.Single serial) h = absurd h
    block (entries.Block low high) h = (0x30, λ e. omega (arith, e), enc-begins 0x30 (enc 0x04 low ++ enc 0x04 high))

    other : (entry : SerialEntry) → IsSingle entry ⊎ IsBlock entry → (b : ℕ) × (b ≢ 0x05) × Begins b
        (serial_entry_text entry)
    other entries.All (inl h) = absurd h
    other entries.All (inr h) = absurd h
    other (entries.Single serial) h = (0x04, λ e. omega (arith, e), enc-begins 0x04 serial)
    other (entries.Block low high) h = (0x30, λ e. omega (arith, e), enc-begins 0x30 (enc 0x04 low ++ enc 0x04 high))

serial_entry_some : (entry : SerialEntry) → IsSerialEntry entry → 0 < length (serial_entry_text entry)
serial_entry_some entries.All h = enc_some 0x05 []
serial_entry_some (entries.Single serial) h = enc_some 0x04 serial
serial_entry_some (entries.Block low high) h = enc_some 0x30 (enc 0x04 low ++ enc 0x04 high)

-- ---- communities

abbrev HoldModules : List ℕ × List SerialEntry → Type 0
HoldModules x = IsOid x.0 × (AllByRecursion IsSerialEntry x.1 × (length (flat_map serial_entry_text x.1) < 2 ^ 32))

modules-whole : IsWhole (λ x. modules_contents x.0 x.1) HoldModules modules_of
unfolding modules_of
modules-whole =
    before-whole oid-front (alone-whole (sized-element-front 0x30 (is_tag 0x30 refl)
    (listed-whole serial_entry_some serial_entry_falls serial_entry-front)))

abbrev IsGroup : Community → Type 0
IsGroup (communities.Group id) = IsOid id
IsGroup (communities.Modules hw_type serials) = ⊥

abbrev group_contents : Community → List ℕ
group_contents (communities.Group id) = id
group_contents (communities.Modules hw_type serials) = []

group-front : IsFront community_text IsGroup (element 0x06 (mapped (λ id. communities.Group id) oid_of))
group-front =
    same-front forth (λ c h. h)
    (element-front 0x06 (is_tag 0x06 refl) fits (mapped-whole (λ id. communities.Group id) (λ id h. (h, refl)) back
    oid-whole))
  where
    forth : (c : Community) → IsGroup c → IsGroup c × (enc 0x06 (group_contents c) ≡ community_text c)
    forth (communities.Group id) h = (h, refl)
    forth (communities.Modules hw_type serials) h = absurd h

    fits : (c : Community) → IsGroup c → length (group_contents c) < 2 ^ 32
    fits (communities.Group id) h = omega (arith, h.most)
    fits (communities.Modules hw_type serials) h = absurd h

    back : (c : Community) → IsGroup c → (id : List ℕ) × IsOid id × (communities.Group id ≡ c)
    back (communities.Group id) h = (id, h, refl)
    back (communities.Modules hw_type serials) h = absurd h

abbrev IsModules : Community → Type 0
IsModules (communities.Group id) = ⊥
IsModules (communities.Modules hw_type serials) = HoldModules (hw_type, serials)

abbrev contents_of_modules : Community → List ℕ
contents_of_modules (communities.Group id) = []
contents_of_modules (communities.Modules hw_type serials) = modules_contents hw_type serials

serials_fit : (hw_type : List ℕ) (serials : List SerialEntry) → length (modules_contents hw_type serials) < 2 ^ 32
    → length (flat_map serial_entry_text serials) < 2 ^ 32
serials_fit hw_type serials fits =
    omega (
      arith,
      fits,
      length-append (enc 0x06 hw_type) (enc 0x30 (flat_map serial_entry_text serials)),
      length-enc
          0x30 (flat_map serial_entry_text serials),
    )

abbrev AreSizedModules : Community → Type 0
AreSizedModules (communities.Group id) = ⊥
AreSizedModules (communities.Modules hw_type serials) = AreModules hw_type serials

modules-front : IsFront community_text AreSizedModules
    (element 0x30 (mapped (λ modules. communities.Modules modules.0 modules.1) modules_of))
modules-front =
    same-front forth back
    (sized-element-front 0x30 (is_tag 0x30 refl)
    (mapped-whole {text' = contents_of_modules} {IsValid' = IsModules} (λ modules. communities.Modules modules.0
    modules.1) (λ modules h. (h, refl)) made modules-whole))
  where
    forth : (c : Community) → IsModules c × (length (contents_of_modules c) < 2 ^ 32)
        → AreSizedModules c × (enc 0x30 (contents_of_modules c) ≡ community_text c)
    forth (communities.Group id) h = absurd h.0
    forth (communities.Modules hw_type serials) h = (record { identifier = h.0.0; each = h.0.1.0; fits = h.1 }, refl)

    back : (c : Community) → AreSizedModules c → IsModules c × (length (contents_of_modules c) < 2 ^ 32)
    back (communities.Group id) h = absurd h
    back (communities.Modules hw_type serials) h =
        ((h.identifier, (h.each, serials_fit hw_type serials h.fits)), h.fits)

    made : (c : Community) → IsModules c
        → (x : List ℕ × List SerialEntry) × HoldModules x × (communities.Modules x.0 x.1 ≡ c)
    made (communities.Group id) h = absurd h
    made (communities.Modules hw_type serials) h = ((hw_type, serials), h, refl)

community-front : IsFront community_text IsCommunity community_at
unfolding community_at
community-front =
    same-front (λ c h. (forth c h, refl)) back (choice-front 0x06 group modules group-front modules-front)
  where
    forth : (c : Community) → IsGroup c ⊎ AreSizedModules c → IsCommunity c
    forth (communities.Group id) (inl h) = h
    forth (communities.Group id) (inr h) = absurd h
    forth (communities.Modules hw_type serials) (inl h) = absurd h
    forth (communities.Modules hw_type serials) (inr h) = h

    back : (c : Community) → IsCommunity c → IsGroup c ⊎ AreSizedModules c
    back (communities.Group id) h = inl h
    back (communities.Modules hw_type serials) h = inr h

    group : (c : Community) → IsGroup c → Begins 0x06 (community_text c)
    group (communities.Group id) h = enc-begins 0x06 id
    group (communities.Modules hw_type serials) h = absurd h

    modules : (c : Community) → AreSizedModules c → (b : ℕ) × (b ≢ 0x06) × Begins b (community_text c)
    modules (communities.Group id) h = absurd h
    modules (communities.Modules hw_type serials) h =
        (0x30, λ e. omega (arith, e), enc-begins 0x30 (modules_contents hw_type serials))

community_some : (c : Community) → IsCommunity c → 0 < length (community_text c)
community_some (communities.Group id) h = enc_some 0x06 id
community_some (communities.Modules hw_type serials) h = enc_some 0x30 (modules_contents hw_type serials)

pub communities-whole : IsWhole communities_text AreCommunities communities_of
unfolding communities_of
communities-whole =
    alone-whole (same-front (λ cs h. (record { each = h.0; fits = h.1 }, refl)) (λ cs h. (h.each, h.fits))
    (sized-element-front 0x30 (is_tag 0x30 refl) (listed-whole community_some community_falls community-front)))

-- ---- package information

name_some : (n : PackageName) → IsName n → 0 < length (name_text n)
name_some (names.Preferred id version) h = enc_some 0x30 (enc 0x06 id ++ enc 0x02 (number_contents version))
name_some (names.Legacy octets) h = enc_some 0x04 octets

names-whole : IsWhole (flat_map name_text) (λ ns. AllByRecursion IsName ns × IsTrue (is_some_and_few ns)) names_of
unfolding names_of
names-whole = tested-whole is_some_and_few (listed-whole name_some name_falls name-front)

names_length : (ns : List PackageName) → AllByRecursion IsName ns → length (flat_map name_text ns) ≤ 99 * length ns
names_length [] h = omega arith
names_length (n ∷ ns) h =
    omega (arith, names_length ns h.1, name_length n h.0, length-append (name_text n) (flat_map name_text ns))

few : (ns : List PackageName) → IsTrue (is_some_and_few ns) → (0 < length ns) × (length ns < 9)
few ns h =
    let b = and_parts (ltb 0 (length ns)) (ltb (length ns) 9) h in
    (ltb-true _ _ b.0, ltb-true _ _ b.1)

is_few : (n : PackageName) (ns : List PackageName) → length (n ∷ ns) ≤ 8 → IsTrue (is_some_and_few (n ∷ ns))
is_few n ns most =
    rw (lt-ltb 0 (length (n ∷ ns)) (omega arith), lt-ltb (length (n ∷ ns)) 9 (omega (arith, most))) refl

abbrev AreDependencies : List PackageName → Type 0
AreDependencies ns = AllByRecursion IsName ns × (length ns ≤ 8)

dependencies-whole : IsWhole dependencies_text AreDependencies dependencies_of
unfolding dependencies_of
dependencies-whole =
    mapped-whole (λ o. unwrap_or o []) forth back
    (optional-whole (λ ns h. enc_some 0x30 (flat_map name_text ns))
    (alone-whole (element-front 0x30 (is_tag 0x30 refl) fits names-whole)))
  where
    fits : (ns : List PackageName) → AllByRecursion IsName ns × IsTrue (is_some_and_few ns)
        → length (flat_map name_text ns) < 2 ^ 32
    fits ns h = omega (arith, names_length ns h.0, (few ns h.1).1)

    forth : (o : Option (List PackageName)) → IfSome o (λ ns. AllByRecursion IsName ns × IsTrue (is_some_and_few ns))
        → AreDependencies (unwrap_or o []) × (text_if (λ ns. enc 0x30 (flat_map name_text ns)) o ≡ dependencies_text
        (unwrap_or o []))
    forth None h = ((tt, omega arith), refl)
    forth (Some []) h = absurd (omega (arith, (few [] h.1).0))
    forth (Some (n ∷ ns)) h = ((h.0, omega (arith, (few (n ∷ ns) h.1).1)), refl)

    back : (ns : List PackageName) → AreDependencies ns
        → (o : Option (List PackageName)) × IfSome o (λ ns. AllByRecursion IsName ns × IsTrue (is_some_and_few ns)) ×
        (unwrap_or o [] ≡ ns)
    back [] h = (None, tt, refl)
    back (n ∷ ns) h = (Some (n ∷ ns), (h.0, is_few n ns h.1), refl)

kind_fits : (n : ℕ) → n < 2 ^ 128 → length (number_contents n) < 2 ^ 32
kind_fits n h = omega (arith, length-number-le n h)

kind-front : IsFront kind_text (λ n. n < 2 ^ 128) kind_at
unfolding kind_at
kind-front = element-front 0x02 (is_tag 0x02 refl) kind_fits number-whole

abbrev info_contents : Info → List ℕ
info_contents info = text_if kind_text info.kind ++ dependencies_text info.dependencies

abbrev AreInfoFields : Info → Type 0
AreInfoFields info = IfSome info.kind (λ n. n < 2 ^ 128) × AreDependencies info.dependencies

info_fields-whole : IsWhole info_contents AreInfoFields info_fields_of
unfolding info_fields_of
info_fields-whole =
    mapped-whole (λ x. record { kind = x.0; dependencies = x.1 }) (λ x h. (h, refl))
    (λ info h. ((info.kind, info.dependencies), h, refl))
    (maybe_before-whole 0x02 (λ n h. enc-begins 0x02 (number_contents n)) differs kind-front dependencies-whole)
  where
    differs : (ns : List PackageName) → AreDependencies ns → begins_with 0x02 (dependencies_text ns) ≡ false
    differs [] h = refl
    differs (n ∷ ns) h = rw (enc-begins 0x30 (flat_map name_text (n ∷ ns))).1 refl

kind_length : (kind : Option ℕ) → IfSome kind (λ n. n < 2 ^ 128) → length (text_if kind_text kind) ≤ 30
kind_length None h = omega arith
kind_length (Some n) h = omega (arith, length-enc-le 0x02 (number_contents n) (kind_fits n h), length-number-le n h)

dependencies_length : (ns : List PackageName) → AreDependencies ns → length (dependencies_text ns) ≤ 1000
dependencies_length [] h = omega arith
dependencies_length (n ∷ ns) h =
    let size = names_length (n ∷ ns) h.0 in
    omega (arith, size, h.1, length-enc-le 0x30 (flat_map name_text (n ∷ ns)) (omega (arith, size, h.1)))

pub info-whole : IsWhole info_text IsInfo info_of
unfolding info_of
info-whole =
    alone-whole (same-front (λ info h. (record { kind = h.0; dependencies = h.1.0; count = h.1.1 }, refl))
    (λ info h. (h.kind, (h.dependencies, h.count)))
    (element-front 0x30 (is_tag 0x30 refl) fits info_fields-whole))
  where
    fits : (info : Info) → AreInfoFields info → length (info_contents info) < 2 ^ 32
    fits info h =
        omega (
          arith,
          length-append (text_if kind_text info.kind) (dependencies_text info.dependencies),
          kind_length
              info.kind h.0,
          dependencies_length info.dependencies h.1,
        )
