-- Module records are read exactly: their parts by shapes, and the module by its parts.
use Rattle.std.proofs.Common.{◌≡◌, ◌↔◌, ℕ, ◌^◌, ◌<◌, ◌≤◌, leb, eqb, ◌&&◌, Bool, true, List, [], ◌∷◌, ◌++◌, length, map, Option, Some, None, refl, sym, ap}
use Rattle.std.proofs.Common.{subst, ◌∙◌, arith, ◌⊎◌, ⊎_elim}
use Rattle.std.specs.Prelude.{IsTrue, IfOk, Result, Ok, Err}
use Rattle.std.specs.List.{AllByRecursion, flat_map}
use Rattle.std.proofs.lemmas.Bool.{leb-true, le-leb, eqb-true, and_parts}
use Rattle.std.proofs.lemmas.List.{length-append}
use Rattle.std.proofs.lemmas.Option.{none-some}
use Rattle.der_core.specs.Element.{enc, AreOctets, HasRoom}
use Rattle.der_core.specs.Objects.{IsOid}
use Rattle.der_core.specs.Shapes.{IsFront, IsWhole, listed}
use Rattle.der_core.proofs.Components.{raw-front}
use Rattle.der_core.proofs.Digits.{AreOctets-right}
use Rattle.der_core.proofs.Fronts.{contents_octets}
use Rattle.der_core.proofs.Numbers.{some_is}
use Rattle.der_core.proofs.Places.{length-enc}
use Rattle.der_core.proofs.Shapes.{is_tag, element-front, sized-element-front, same-front, alone-whole, before-whole}
use Rattle.der_core.proofs.Shapes.{mapped-whole, tested-whole, number-whole, oid-whole, octets-whole, listed-whole}
use Rattle.der_core.proofs.Shapes.{element-falls, length-number-le}
use Rattle.cert_fields.specs.Anchor.{TrustAnchor}
use Rattle.lms_sign.specs.declared.key.SignKey.{SignKey}
use Rattle.lms_sign.specs.PublicKeys.{IsSignKey}
use Rattle.module_record.specs.ModuleRecord.{number_text, oid_text, anchor_contents, anchor_text, module_contents}
use Rattle.module_record.specs.ModuleRecord.{module_lists, module_text, IsKeptAnchor, IsModule}
use Rattle.module_record.specs.ModuleRecord.{BeginsWithModuleRecord}
use Rattle.module_record.specs.ModuleReading.{AnchorParts, AreMadeOf, anchor_at, oid_at, number_at, serial_at, few}
use Rattle.module_record.specs.ModuleReading.{sequence_at, one_at, capacity_at, lists_of, module_of, module_at}
use Rattle.module_record.specs.ModuleReading.{ListParts, ModuleParts, HasModuleParts}
use Rattle.module_record.specs.Reading.{KeyParts, view}
use Rattle.module_record.specs.declared.module.Module.{Module}
use Rattle.module_record.proofs.AnchorLaws.{parts_of, anchors-whole, kept_all, made_all, one_list_of}
use Rattle.module_record.proofs.KeyLaws.{key_parts_text, AreKeyFields, key-front, same_key}
use Rattle.module_record.proofs.ListLemmas.{Falls, each_room}

-- ---- what stands at a front

one-front : IsFront number_text (λ n. (n < 2 ^ 128) × IsTrue (eqb n 1)) one_at
unfolding one_at
one-front =
    element-front 2 (is_tag 2 refl) (λ n h. omega (arith, length-number-le n h.0))
    (tested-whole (λ n. eqb n 1) number-whole)

pub oid-front : IsFront oid_text IsOid oid_at
unfolding oid_at
oid-front = element-front 6 (is_tag 6 refl) (λ oid h. omega (arith, h.most)) oid-whole

pub number-front : IsFront number_text (λ n. n < 2 ^ 128) number_at
unfolding number_at
number-front = element-front 2 (is_tag 2 refl) (λ n h. omega (arith, length-number-le n h)) number-whole

serial-front : IsFront (λ (octets : List ℕ). enc 0x04 octets) (λ octets. (0 < length octets) × (length octets ≤ 64))
    serial_at
unfolding serial_at
serial-front = element-front 4 (is_tag 4 refl) (λ octets h. omega (arith, h.1)) octets-whole

sequence-front : IsFront (λ (contents : List ℕ). enc 0x30 contents) HasRoom sequence_at
unfolding sequence_at
sequence-front = raw-front 48 (is_tag 48 refl)

capacity-front : IsFront number_text (λ n. (1 ≤ n) × (n ≤ 4096)) capacity_at
unfolding capacity_at
capacity-front =
    same-front
    (λ n h. let both = and_parts (leb 1 n) (leb n 4096) h.1 in ((leb-true 1 n both.0, leb-true n 4096 both.1), refl))
    (λ n h. (omega (arith, h.1), both_true (leb 1 n) (leb n 4096) (le-leb 1 n h.0) (le-leb n 4096 h.1)))
    (element-front 2 (is_tag 2 refl) (λ n h. omega (arith, length-number-le n h.0))
    (tested-whole (λ n. leb 1 n && leb n 4096) number-whole))
  where
    both_true : (a b : Bool) → a ≡ true → b ≡ true → IsTrue (a && b)
    both_true a b is also = rw (is, also) refl

pub oid_falls : Falls oid_at
unfolding oid_at
oid_falls bytes x e = element-falls 6 _ bytes x e

pub number_falls : Falls number_at
unfolding number_at
number_falls bytes x e = element-falls 2 _ bytes x e

-- ---- lists of at most 64

oid_some : (oid : List ℕ) → IsOid oid → 0 < length (oid_text oid)
unfolding enc
oid_some oid h = omega arith

number_some : (n : ℕ) → n < 2 ^ 128 → 0 < length (number_text n)
unfolding enc
number_some n h = omega arith

oids-whole : IsWhole (flat_map oid_text) (λ oids. AllByRecursion IsOid oids × IsTrue (leb (length oids) 64)) (few oid_at)
oids-whole = tested-whole (λ oids. leb (length oids) 64) (listed-whole oid_some oid_falls oid-front)

kinds-whole : IsWhole (flat_map number_text)
    (λ kinds. AllByRecursion (λ kind. kind < 2 ^ 128) kinds × IsTrue (leb (length kinds) 64)) (few number_at)
kinds-whole = tested-whole (λ kinds. leb (length kinds) 64) (listed-whole number_some number_falls number-front)

-- ---- parts

abbrev lists_text : ListParts → List ℕ
lists_text l =
    enc 0x30 l.communities
    ++ (enc 0x30 l.kinds ++ (number_text l.capacity ++ (enc 0x30 l.anchors ++ key_parts_text l.key)))

pub record AreListParts (l : ListParts) : Type 0 where
  pub communities : HasRoom l.communities
  pub kinds : HasRoom l.kinds
  pub capacity : (1 ≤ l.capacity) × (l.capacity ≤ 4096)
  pub anchors : HasRoom l.anchors
  pub key : AreKeyFields l.key

lists-whole : IsWhole lists_text AreListParts lists_of
unfolding lists_of
lists-whole =
    mapped-whole
    (λ x. record {
      communities = x.0;
      kinds = x.1.0;
      capacity = x.1.1.0;
      anchors = x.1.1.1.0;
      key = x.1.1.1.1;
    })
    (λ x h. (
      record {
        communities = h.0;
        kinds = h.1.0;
        capacity = h.1.1.0;
        anchors = h.1.1.1.0;
        key = h.1.1.1.1;
      },
      refl,
    ))
    (λ l h. (
      (l.communities, (l.kinds, (l.capacity, (l.anchors, l.key)))),
      (h.communities, (h.kinds, (h.capacity, (h.anchors, h.key)))),
      refl,
    ))
    (before-whole sequence-front
    (before-whole sequence-front
    (before-whole capacity-front (before-whole sequence-front (alone-whole key-front)))))

abbrev parts_contents : ModuleParts → List ℕ
parts_contents p = number_text 1 ++ (oid_text p.hw_type ++ (enc 0x04 p.serial ++ lists_text p.lists))

pub record ArePartsInside (p : ModuleParts) : Type 0 where
  pub hw_type : IsOid p.hw_type
  pub serial : (0 < length p.serial) × (length p.serial ≤ 64)
  pub lists : AreListParts p.lists

inside-whole : IsWhole parts_contents ArePartsInside module_of
unfolding module_of
inside-whole =
    mapped-whole
    (λ x. record { hw_type = x.1.0; serial = x.1.1.0; lists = x.1.1.1 })
    (λ x h. (
      record { hw_type = h.1.0; serial = h.1.1.0; lists = h.1.1.1 },
      ap (λ (n : ℕ). number_text n ++ (oid_text x.1.0 ++ (enc 0x04 x.1.1.0 ++ lists_text x.1.1.1)))
          (eqb-true x.0 1 h.0.1),
    ))
    (λ p h. (
      (1, (p.hw_type, (p.serial, p.lists))),
      ((omega arith, refl), (h.hw_type, (h.serial, h.lists))),
      refl,
    ))
    (before-whole one-front (before-whole oid-front (before-whole serial-front lists-whole)))

module-front : IsFront (λ p. enc 0x30 (parts_contents p)) (λ p. ArePartsInside p × HasRoom (parts_contents p)) module_at
unfolding module_at
module-front = sized-element-front 48 (is_tag 48 refl) inside-whole

-- ---- a module and its parts

pub parts_of_module : Module → ModuleParts
parts_of_module m = record {
  hw_type = m.hw_type;
  serial = m.serial;
  lists = record {
    communities = flat_map oid_text m.communities;
    kinds = flat_map number_text m.kinds;
    capacity = m.capacity;
    anchors = flat_map anchor_text m.anchors;
    key = view m.key;
  };
}

parts_contents_of : (m : Module) → parts_contents (parts_of_module m) ≡ module_contents m
unfolding parts_of_module
parts_contents_of m = refl

-- room for what stands between a front and a rest
room_between : (front contents rest : List ℕ) → HasRoom (front ++ (enc 0x30 contents ++ rest)) → HasRoom contents
room_between front contents rest room =
    omega (
      arith,
      room,
      length-append front (enc 0x30 contents ++ rest),
      length-append (enc 0x30 contents) rest,
      length-enc 0x30 contents,
    )

room_behind : (front rest : List ℕ) → HasRoom (front ++ rest) → HasRoom rest
room_behind front rest room = omega (arith, room, length-append front rest)

pub lists_room : (m : Module) → HasRoom (module_contents m) → HasRoom (module_lists m)
lists_room m room =
    room_behind (enc 0x04 m.serial) (module_lists m) (room_behind (oid_text m.hw_type) (enc 0x04 m.serial ++ module_lists m)
    (room_behind (number_text 1) (oid_text m.hw_type ++ (enc 0x04 m.serial ++ module_lists m)) room))

-- what stands in the lists of a module
abbrev pub after_communities : Module → List ℕ
after_communities m =
    enc 0x30 (flat_map number_text m.kinds)
    ++ (number_text m.capacity ++ (enc 0x30 (flat_map anchor_text m.anchors) ++ key_parts_text (view m.key)))

pub communities_room : (m : Module) → HasRoom (module_lists m) → HasRoom (flat_map oid_text m.communities)
communities_room m room = room_between [] (flat_map oid_text m.communities) (after_communities m) room

pub kinds_room : (m : Module) → HasRoom (module_lists m) → HasRoom (flat_map number_text m.kinds)
kinds_room m room =
    room_between (enc 0x30 (flat_map oid_text m.communities)) (flat_map number_text m.kinds)
    (number_text m.capacity ++ (enc 0x30 (flat_map anchor_text m.anchors) ++ key_parts_text (view m.key))) room

pub anchors_room : (m : Module) → HasRoom (module_lists m) → HasRoom (flat_map anchor_text m.anchors)
anchors_room m room =
    room_between (number_text m.capacity) (flat_map anchor_text m.anchors) (key_parts_text (view m.key))
    (room_behind (enc 0x30 (flat_map number_text m.kinds)) (number_text m.capacity
    ++ (enc 0x30 (flat_map anchor_text m.anchors) ++ key_parts_text (view m.key)))
    (room_behind (enc 0x30 (flat_map oid_text m.communities)) (after_communities m) room))

-- where an anchor's text has room, its contents have
pub contents_room : (these : List TrustAnchor) → AllByRecursion (λ a. HasRoom (anchor_text a)) these
    → AllByRecursion (λ a. HasRoom (anchor_contents a)) these
contents_room [] room = tt
contents_room (a ∷ these) room =
    (omega (arith, room.0, length-enc 0x30 (anchor_contents a)), contents_room these room.1)

anchors_again : (these : List TrustAnchor) → AllByRecursion IsKeptAnchor these → HasRoom (flat_map anchor_text these)
    → AreMadeOf these (listed anchor_at (flat_map anchor_text these))
anchors_again these kept room =
    let made = made_all these kept (contents_room these (each_room anchor_text these room)) in
    let read : listed anchor_at (flat_map anchor_text these) ≡ Some (map parts_of these) =
    ap (listed anchor_at) (sym made.2) ∙ anchors-whole.again (map parts_of these) made.0 in
    subst (AreMadeOf these) (sym read) made.1

has_parts : (m : Module) → IsModule m → HasModuleParts m (parts_of_module m)
unfolding parts_of_module
has_parts m h =
    let room = lists_room m h.fits in
    record {
      hw_type = refl;
      serial = refl;
      communities = oids-whole.again m.communities
          (h.limits.communities, le-leb (length m.communities) 64 h.limits.most_communities);
      kinds = kinds-whole.again m.kinds (h.limits.kinds, le-leb (length m.kinds) 64 h.limits.most_kinds);
      capacity = refl;
      anchors = anchors_again m.anchors h.limits.anchors (anchors_room m room);
      some_anchors = h.limits.some_anchors;
      most_anchors = h.limits.most_anchors;
      key = refl;
    }

are_parts : (m : Module) → IsModule m → ArePartsInside (parts_of_module m)
unfolding parts_of_module
are_parts m h =
    let room = lists_room m h.fits in
    record {
      hw_type = h.limits.hw_type;
      serial = (h.limits.some_serial, h.limits.most_serial);
      lists = record {
        communities = communities_room m room;
        kinds = kinds_room m room;
        capacity = (h.limits.some_capacity, h.limits.most_capacity);
        anchors = anchors_room m room;
        key = (h.limits.key.low, h.limits.key.seed, h.limits.key.id);
      };
    }

pub module_again : (m : Module) (rest : List ℕ) → IsModule m
    → module_at (module_text m ++ rest) ≡ Some (parts_of_module m, rest)
module_again m rest h =
    ap (λ (contents : List ℕ). module_at (enc 0x30 contents ++ rest)) (sym (parts_contents_of m))
    ∙ module-front.again (parts_of_module m) rest
    (are_parts m h, subst HasRoom (sym (parts_contents_of m)) h.fits)

-- ---- parts and their module

one_some : {V : Type 0} (read : Option V) (v w : V) → read ≡ Some v → read ≡ Some w → v ≡ w
one_some read v w is also = some_is v w (sym is ∙ also)

pub one_module : (m n : Module) (p : ModuleParts) → HasModuleParts m p → HasModuleParts n p → m ≡ n
one_module m n p h k =
    let hw_type : m.hw_type ≡ n.hw_type = sym h.hw_type ∙ k.hw_type in
    let serial : m.serial ≡ n.serial = sym h.serial ∙ k.serial in
    let communities : m.communities ≡ n.communities = one_some _ _ _ h.communities k.communities in
    let kinds : m.kinds ≡ n.kinds = one_some _ _ _ h.kinds k.kinds in
    let capacity : m.capacity ≡ n.capacity = sym h.capacity ∙ k.capacity in
    let anchors : m.anchors ≡ n.anchors = one_list_of _ _ _ h.anchors k.anchors in
    let key : m.key ≡ n.key = same_key m.key n.key (sym h.key ∙ k.key) in
    λ i. record {
      hw_type = hw_type i;
      serial = serial i;
      communities = communities i;
      kinds = kinds i;
      capacity = capacity i;
      anchors = anchors i;
      key = key i;
    }

-- the octets of the lists
record ListOctets (l : ListParts) : Type 0 where
  communities : AreOctets l.communities
  kinds : AreOctets l.kinds
  anchors : AreOctets l.anchors

list_octets : (l : ListParts) → AreOctets (lists_text l) → ListOctets l
list_octets l octets =
    let after = AreOctets-right (enc 0x30 l.communities)
    (enc 0x30 l.kinds ++ (number_text l.capacity ++ (enc 0x30 l.anchors ++ key_parts_text l.key))) octets in
    let behind = AreOctets-right (number_text l.capacity) (enc 0x30 l.anchors ++ key_parts_text l.key)
    (AreOctets-right (enc 0x30 l.kinds) (number_text l.capacity ++ (enc 0x30 l.anchors ++ key_parts_text l.key)) after) in
    record {
      communities = contents_octets 48 l.communities _ (lists_text l) octets refl;
      kinds = contents_octets 48 l.kinds _ _ after refl;
      anchors = contents_octets 48 l.anchors _ _ behind refl;
    }

inside_octets : (p : ModuleParts) (bytes rest : List ℕ) → AreOctets bytes
    → bytes ≡ enc 0x30 (parts_contents p) ++ rest → ListOctets p.lists
inside_octets p bytes rest octets is =
    let inside = contents_octets 48 (parts_contents p) rest bytes octets is in
    list_octets p.lists
    (AreOctets-right (enc 0x04 p.serial) (lists_text p.lists)
    (AreOctets-right (oid_text p.hw_type) (enc 0x04 p.serial ++ lists_text p.lists)
    (AreOctets-right (number_text 1) (oid_text p.hw_type ++ (enc 0x04 p.serial ++ lists_text p.lists)) inside)))

anchors_take : (these : List TrustAnchor) (octets : List ℕ) (read : Option (List AnchorParts)) → AreOctets octets
    → listed anchor_at octets ≡ read → AreMadeOf these read
    → AllByRecursion IsKeptAnchor these × (octets ≡ flat_map anchor_text these)
anchors_take these octets None octet is made = absurd made
anchors_take these octets (Some ps) octet is made =
    let t = anchors-whole.takes octets ps octet is in
    let kept = kept_all these ps t.0 made in
    (kept.0, t.1 ∙ sym kept.1)

key_valid : (key : SignKey) (p : KeyParts) → AreKeyFields p → p ≡ view key → IsSignKey key
key_valid key p are is =
    let fields : AreKeyFields (view key) = subst AreKeyFields is are in
    record { seed = fields.1; id = fields.2; low = fields.0 }

module_takes : (bytes : List ℕ) (p : ModuleParts) (rest : List ℕ) (m : Module) → AreOctets bytes
    → module_at bytes ≡ Some (p, rest) → HasModuleParts m p → BeginsWithModuleRecord bytes m
unfolding parts_of_module
module_takes bytes p rest m octets is h =
    let t = module-front.takes bytes (p, rest) octets is in
    let o = inside_octets p bytes rest octets t.1 in
    let inside = t.0.0 in
    let oids = oids-whole.takes p.lists.communities m.communities o.communities h.communities in
    let kinds = kinds-whole.takes p.lists.kinds m.kinds o.kinds h.kinds in
    let anchors = anchors_take m.anchors p.lists.anchors (listed anchor_at p.lists.anchors) o.anchors refl h.anchors in
    let same : p ≡ parts_of_module m =
    λ i. record {
      hw_type = h.hw_type i;
      serial = h.serial i;
      lists = record {
        communities = oids.1 i;
        kinds = kinds.1 i;
        capacity = h.capacity i;
        anchors = anchors.1 i;
        key = h.key i;
      };
    } in (
      record {
        limits = record {
          hw_type = subst IsOid h.hw_type inside.hw_type;
          some_serial = subst (λ (s : List ℕ). 0 < length s) h.serial inside.serial.0;
          most_serial = subst (λ (s : List ℕ). length s ≤ 64) h.serial inside.serial.1;
          communities = oids.0.0;
          most_communities = leb-true (length m.communities) 64 oids.0.1;
          kinds = kinds.0.0;
          most_kinds = leb-true (length m.kinds) 64 kinds.0.1;
          some_capacity = subst (λ (n : ℕ). 1 ≤ n) h.capacity inside.lists.capacity.0;
          most_capacity = subst (λ (n : ℕ). n ≤ 4096) h.capacity inside.lists.capacity.1;
          anchors = anchors.0;
          some_anchors = h.some_anchors;
          most_anchors = h.most_anchors;
          key = key_valid m.key p.lists.key inside.lists.key h.key;
        };
        fits = subst (λ (q : ModuleParts). HasRoom (parts_contents q)) same t.0.1;
      },
      rest,
      t.1 ∙ ap (λ (q : ModuleParts). enc 0x30 (parts_contents q) ++ rest) same,
    )

-- ---- what the reader answers

pub begins : (bytes : List ℕ) (p : ModuleParts) (rest : List ℕ) (m : Module) → AreOctets bytes
    → module_at bytes ≡ Some (p, rest) → HasModuleParts m p ↔ BeginsWithModuleRecord bytes m
begins bytes p rest m octets is = (
  λ h. module_takes bytes p rest m octets is h,
  λ h.
      let read = sym is ∙ ap module_at h.2 ∙ module_again m h.1 h.0 in
      let same : p ≡ parts_of_module m = ap (λ (x : ModuleParts × List ℕ). x.0) (some_is (p, rest) _ read) in
      subst (HasModuleParts m) (sym same) (has_parts m h.0),
)

pub none_begins : (bytes : List ℕ) (m : Module) → module_at bytes ≡ None → BeginsWithModuleRecord bytes m → ⊥
none_begins bytes m is h = none-some _ (sym is ∙ ap module_at h.2 ∙ module_again m h.1 h.0)

-- ---- two records

pub same_records : (m n : Module) (after_m after_n : List ℕ) → IsModule m → IsModule n
    → module_text m ++ after_m ≡ module_text n ++ after_n → (m ≡ n) × (after_m ≡ after_n)
same_records m n after_m after_n h k is =
    let both = some_is (parts_of_module m, after_m) (parts_of_module n, after_n)
    (sym (module_again m after_m h) ∙ ap module_at is ∙ module_again n after_n k) in (
      one_module m n (parts_of_module m) (has_parts m h)
          (subst (HasModuleParts n) (sym (ap (λ (x : ModuleParts × List ℕ). x.0) both)) (has_parts n k)),
      ap (λ (x : ModuleParts × List ℕ). x.1) both,
    )

-- ---- answers

pub none_read : (bytes : List ℕ) → module_at bytes ≡ None → (m : Module)
    → ◌≡◌ {A = Option Module} None (Some m) ↔ BeginsWithModuleRecord bytes m
none_read bytes is m = (λ wrong. absurd (none-some m wrong), λ h. absurd (none_begins bytes m is h))

-- what is made of the parts is what was read
pub one_read : {E : Type 0} (bytes : List ℕ) (p : ModuleParts) (rest : List ℕ) → AreOctets bytes
    → module_at bytes ≡ Some (p, rest) → (result : Result (Option Module) E)
    → IfOk result (λ answer. (m : Module) → (answer ≡ Some m) ↔ HasModuleParts m p)
    → IfOk result (λ answer. (m : Module) → (answer ≡ Some m) ↔ BeginsWithModuleRecord bytes m)
one_read bytes p rest octets is (Ok answer) made = λ m.
    let both = begins bytes p rest m octets is in
    (λ e. both.0 ((made m).0 e), λ h. (made m).1 (both.1 h))
one_read bytes p rest octets is (Err e) made = tt

pub no_module : (p : ModuleParts) → ((m : Module) → HasModuleParts m p → ⊥) → (m : Module)
    → ◌≡◌ {A = Option Module} None (Some m) ↔ HasModuleParts m p
no_module p none m = (λ wrong. absurd (none-some m wrong), λ h. absurd (none m h))

pub that_module : (made : Module) (p : ModuleParts) → HasModuleParts made p → (m : Module)
    → (Some made ≡ Some m) ↔ HasModuleParts m p
that_module made p h m = (
  λ e. subst (λ (x : Module). HasModuleParts x p) (some_is made m e) h,
  λ k. ap (λ (x : Module). Some x) (one_module made m p h k),
)

-- no module has so few anchors or so many
pub bad_count : (anchors : List TrustAnchor) (p : ModuleParts) → (length anchors ≡ 0) ⊎ (16 < length anchors)
    → ((list : List TrustAnchor) → (Some anchors ≡ Some list) ↔ AreMadeOf list (listed anchor_at p.lists.anchors))
    → (m : Module) → HasModuleParts m p → ⊥
bad_count anchors p bad made m h =
    let same = some_is anchors m.anchors ((made m.anchors).1 h.anchors) in
    ⊎_elim
    (λ none. omega (arith, none, ap (λ (l : List TrustAnchor). length l) same, h.some_anchors))
    (λ many. omega (arith, many, ap (λ (l : List TrustAnchor). length l) same, h.most_anchors)) bad
