-- Types that stand first in elements: how many there are, their places, and whether they are distinct.
use Rattle.std.proofs.Common.{◌≡◌, ◌↔◌, ℕ, ◌+◌, ◌-◌, ◌<◌, ◌≤◌, List, [], ◌∷◌, ◌++◌, length, map, drop, get_or}
use Rattle.std.proofs.Common.{zero, suc, eqb, option_map, is_some, Bool, true, false, IsTrue, Option, Some, None, Ordering, Less, Equal, Greater, Bor, refl, sym, ap, ap₂, subst, ◌∙◌, inl, inr, arith}
use Rattle.std.specs.List.{IsDistinct, AllAdjacentBelow, IsAllAdjacentAnswer}
use Rattle.std.specs.Option.{unwrap_or}
use Rattle.std.specs.List.Sorted.{IsSortedBy, IsPermutation}
use Rattle.std.specs.Prelude.{bytes_eq}
use Rattle.std.specs.Ordering.{nat_cmp, is_lt, is_eq, ordering_reverse, partial_lt}
use Rattle.std.specs.Cmp.{IsStrictWeakOrder}
use Rattle.std.specs.Cmp.Lexicographic.{slice_cmp, slice_partial_cmp, texts_ties, nat_list_cmp_total}
use Rattle.std.specs.Fn.{Called, ComparesAs, ComputesOnPairs}
use Rattle.std.proofs.lemmas.Fn.{always_returns_same}
use denote.Param.Members.{Mut}
use Rattle.std.proofs.lemmas.Bool.{false≢true, cases_Bool}
use Rattle.std.proofs.lemmas.Cmp.{nat_list_eq_equiv}
use Rattle.std.proofs.lemmas.Option.{none-some}
use Rattle.std.proofs.lemmas.List.{drop-drop, drop_all, length-map, get_or-map, map-append, append-nil, append_assoc, length-append}
use Rattle.std.proofs.Math.Seq.{drop-append_seam}
use Rattle.std.proofs.lemmas.List.Sorted.{IsPermutation-map, IsPermutation-sym, ranks_by, sorted_far}
use Rattle.std.proofs.lemmas.Map.Keys.{IsDistinct-IsPermutation, IsDistinct-from_apart, apart_from_distinct}
use Rattle.std.proofs.lemmas.Slice.Eq.{bytes_eq-Decides}
use Rattle.der_core.specs.Element.{enc, HasRoom}
use Rattle.der_core.specs.Reading.{◌>>?◌, front_of}
use Rattle.der_core.specs.Shapes.{Front, IsFront, element, listed}
use Rattle.der_core.specs.Reading as reading
use Rattle.der_core.proofs.Digits.{AreOctets, AreOctets-right}
use Rattle.der_core.proofs.Fronts.{tagged_again, element-falls}
use Rattle.der_core.proofs.Numbers.{some_bind, some_is}
use Rattle.der_core.proofs.Listed.{listed_more, listed_none, listed_end}
use Rattle.der_core.specs.Reads.{Answers}
use Rattle.attribute_set.specs.Items.{items_of, AreItems}
use Rattle.attribute_set.specs.Types.{first_type, type_at, first_kind, kind_at, HaveOwnTypes}
use Rattle.attribute_set.proofs.ItemLemmas.{Falls, first_item, no_item}
use Rattle.attribute_set.proofs.Orders.{is_less, less_told}

-- ---- one type

pub type_falls : Falls type_at
unfolding type_at
type_falls = element-falls 0x30 first_type

-- a type that is read is read without what follows
pub first_is : (octets rest kind : List ℕ) → type_at octets ≡ Some (kind, rest) → first_kind octets ≡ Some kind
unfolding first_kind
first_is octets rest kind is = rw is refl

-- no element stands at the front
no_type : (octets : List ℕ) → front_of octets ≡ None → type_at octets ≡ None
unfolding type_at reading.tagged_of
no_type octets front = rw front refl

-- the type in the element at the front
a_type : (octets : List ℕ) (tag : ℕ) (contents rest : List ℕ) → front_of octets ≡ Some (tag, (contents, rest))
    → 0 < length octets → AreItems type_at octets → (kind : List ℕ) × (type_at octets ≡ Some (kind, rest))
unfolding type_at reading.tagged_of
a_type octets tag contents rest front some are = elim (cases_Bool (eqb tag 0x30)) [
  | inl same ↦ by_case (first_type contents) refl same
  | inr other ↦ absurd (never (rw (front, other) refl))
]
  where
    never : type_at octets ≡ None → ⊥
    never none = none-some (items_of type_at octets) (sym (listed_none type_at octets some none) ∙ are)

    by_case : (read : Option (List ℕ)) → first_type contents ≡ read → eqb tag 0x30 ≡ true
        → (kind : List ℕ) × (type_at octets ≡ Some (kind, rest))
    by_case None e same = absurd (never (rw (front, same, e) refl))
    by_case (Some kind) e same = (kind, rw (front, same, e) refl)

-- no element begins past the octets
pub kind_past : (octets : List ℕ) (place : ℕ) → length octets < place → [] ≡ kind_at octets place
unfolding first_kind type_at reading.tagged_of reading.front_of reading.element_at
kind_past octets place past = rw (drop_all place octets (omega (arith, past))) refl

-- ---- how many there are

abbrev lengths : List ℕ → Option ℕ
lengths octets = option_map length (listed type_at octets)

abbrev plus : ℕ → Option ℕ → Option ℕ
plus n counted = option_map (λ m. n + m) counted

-- so many have been passed
pub record Counted (contents left : List ℕ) (count : ℕ) : Type 0 where
  pub total : lengths contents ≡ plus count (lengths left)
  pub within : count + length left ≤ length contents

pub counted_none : (contents left : List ℕ) → left ≡ contents → Counted contents left 0
counted_none contents left same = record {
  total = ap lengths (sym same) ∙ none (lengths left);
  within = omega (arith, ap length same);
}
  where
    none : (counted : Option ℕ) → counted ≡ plus 0 counted
    none None = refl
    none (Some n) = ap (λ (m : ℕ). Some m) {x = n} {y = 0 + n} (omega arith)

pub counted_more : (contents left rest kind : List ℕ) (count : ℕ) → Counted contents left count
    → type_at left ≡ Some (kind, rest) → Counted contents rest (count + 1)
counted_more contents left rest kind count so_far is = record {
  total =
      so_far.total
      ∙ ap (λ (those : Option (List (List ℕ))). plus count (option_map length those))
      (listed_more type_at type_falls left (kind, rest) is)
      ∙ one_more (listed type_at rest);
  within = omega (arith, so_far.within, type_falls left (kind, rest) is);
}
  where
    one_more : (those : Option (List (List ℕ)))
        → plus count (option_map length (those >>? λ more. Some (kind ∷ more)))
        ≡ plus (count + 1) (option_map length those)
    one_more None = refl
    one_more (Some more) = ap (λ (m : ℕ). Some m) {x = count + length (kind ∷ more)} {y = count + 1 + length more} (omega arith)

-- the code has read a type, or none
pub type_passed : (contents left rest : List ℕ) (count : ℕ) (read : Option (Bor (List ℕ))) → Counted contents left count
    → is_some read ≡ true → Answers (λ kind. (kind.now, rest)) read (type_at left)
    → (length rest < length left) × Counted contents rest (count + 1)
type_passed contents left rest count None so_far some is = absurd (false≢true some)
type_passed contents left rest count (Some kind) so_far some is =
    (type_falls left (kind.now, rest) is, counted_more contents left rest kind.now count so_far is)

pub type_left : (left rest : List ℕ) (read : Option (Bor (List ℕ))) → is_some read ≡ false
    → Answers (λ kind. (kind.now, rest)) read (type_at left) → type_at left ≡ None
type_left left rest None none is = is
type_left left rest (Some kind) none is = absurd (false≢true (sym none))

pub counted_all : (contents left : List ℕ) (count : ℕ) → Counted contents left count → left ≡ []
    → lengths contents ≡ Some count
counted_all contents left count so_far end =
    so_far.total ∙ ap (λ (o : List ℕ). plus count (lengths o)) end
    ∙ ap (λ (those : Option (List (List ℕ))). plus count (option_map length those)) (listed_end type_at)
    ∙ ap (λ (m : ℕ). Some m) {x = count + 0} {y = count} (omega arith)

pub counted_stops : (contents left : List ℕ) (count : ℕ) → Counted contents left count → 0 < length left
    → type_at left ≡ None → lengths contents ≡ None
counted_stops contents left count so_far some none =
    so_far.total ∙ ap (λ (those : Option (List (List ℕ))). plus count (option_map length those))
    (listed_none type_at left some none)

pub are_counted : (contents : List ℕ) (count : ℕ) → lengths contents ≡ Some count → AreItems type_at contents
are_counted contents count is = by_case (listed type_at contents) refl
  where
    by_case : (read : Option (List (List ℕ))) → listed type_at contents ≡ read → AreItems type_at contents
    by_case None e = absurd (none-some count (sym (ap (option_map length) e) ∙ is))
    by_case (Some kinds) e = rw e refl

pub not_counted : (contents : List ℕ) → lengths contents ≡ None → IsTrue false ↔ HaveOwnTypes contents
not_counted contents none = (
  λ wrong. absurd (false≢true wrong),
  λ own. absurd (none-some (length own.0) (sym none ∙ ap (option_map length) own.1)),
)

-- ---- their places

abbrev kinds_of : List ℕ → List (List ℕ)
kinds_of octets = items_of type_at octets

-- the types so far stand at their places, and the others are those that are left
pub record Found (contents : List ℕ) (places : List ℕ) (left : List ℕ) : Type 0 where
  pub last : drop (length contents - length left) contents ≡ left
  pub within : length left ≤ length contents
  pub are : AreItems type_at left
  pub kinds : map (kind_at contents) places ++ kinds_of left ≡ kinds_of contents

pub found_more : (contents places left : List ℕ) (tag : ℕ) (element text rest : List ℕ) (place : ℕ)
    → Found contents places left → front_of left ≡ Some (tag, (element, rest))
    → left ≡ text ++ rest → length rest < length left → place ≡ length contents - length rest - length text
    → Found contents (places ++ place ∷ []) rest
found_more contents places left tag element text rest place so_far front is shorter at =
    let n = length contents - length left in
    let found = a_type left tag element rest front (omega (arith, shorter)) so_far.are in
    let more = first_item type_at left rest found.0 type_falls so_far.are found.1 in
    let long : length left ≡ length text + length rest = ap length is ∙ length-append text rest in
    let same_place : place ≡ n = at ∙ omega (arith, long, so_far.within) in
    let kind : kind_at contents place ≡ found.0 =
    ap (kind_at contents) same_place
    ∙ ap (λ (o : List ℕ). unwrap_or (first_kind o) []) so_far.last
    ∙ ap (λ (k : Option (List ℕ)). unwrap_or k []) (first_is left rest found.0 found.1) in
    record {
      last =
          ap (λ (m : ℕ). drop m contents) {x = length contents - length rest} {y = n + length text}
          (omega (arith, long, so_far.within))
          ∙ sym (drop-drop (length text) n contents) ∙ ap (drop (length text)) (so_far.last ∙ is)
          ∙ drop-append_seam text rest;
      within = omega (arith, long, so_far.within);
      are = more.0;
      kinds =
          ap (λ (ks : List (List ℕ)). ks ++ kinds_of rest) (map-append (kind_at contents) places (place ∷ []))
          ∙ append_assoc (map (kind_at contents) places) (kind_at contents place ∷ []) (kinds_of rest)
          ∙ ap (λ (k : List ℕ). map (kind_at contents) places ++ k ∷ kinds_of rest) kind
          ∙ ap (λ (those : List (List ℕ)). map (kind_at contents) places ++ those) (sym more.1)
          ∙ so_far.kinds;
    }

pub found_all : (contents places left : List ℕ) → Found contents places left → front_of left ≡ None
    → map (kind_at contents) places ≡ kinds_of contents
found_all contents places left so_far none =
    sym (append-nil (map (kind_at contents) places))
    ∙ ap (λ (those : List (List ℕ)). map (kind_at contents) places ++ those)
    (sym (no_item type_at left so_far.are (no_type left none)))
    ∙ so_far.kinds

-- types that are read are their own exactly where they are distinct
pub own_where_distinct : (octets : List ℕ) → AreItems type_at octets
    → HaveOwnTypes octets ↔ IsDistinct bytes_eq (kinds_of octets)
own_where_distinct octets are = (
  λ own. subst (IsDistinct bytes_eq) (some_is own.0 (kinds_of octets) (sym own.1 ∙ are)) own.2,
  λ distinct. (kinds_of octets, are, distinct),
)

-- ---- the types of values that are read one after the other

-- a type stands first in an element
pub type_first : (kind more rest : List ℕ) → length kind ≤ 64 → HasRoom (enc 0x06 kind ++ more)
    → type_at (enc 0x30 (enc 0x06 kind ++ more) ++ rest) ≡ Some (kind, rest)
unfolding type_at first_type
type_first kind more rest short room =
    rw (
      tagged_again 0x30 (enc 0x06 kind ++ more) rest (record { octet = omega arith; low_bits = omega arith; fits = room }),
      tagged_again 0x06 kind more (record { octet = omega arith; low_bits = omega arith; fits = omega (arith, short) }),
    ) refl

-- where a type stands first in the text of each value
module _ {V : Type 0} {text : V → List ℕ} {IsValid : V → Type 0} (front : Front V) (key : V → List ℕ)
    (laws : IsFront text IsValid front) (less : Falls front)
    (begins : (v : V) (rest : List ℕ) → IsValid v → type_at (text v ++ rest) ≡ Some (key v, rest)) where
  types_within : (n : ℕ) (octets : List ℕ) (values : List V) → length octets < n → AreOctets octets
      → listed front octets ≡ Some values → listed type_at octets ≡ Some (map key values)
  types_within zero octets values long are is = absurd (omega (arith, long))
  types_within (suc n) [] values long are is =
      listed_end type_at
      ∙ ap (λ (those : List V). Some (map key those)) (some_is [] values (sym (listed_end front) ∙ is))
  types_within (suc n) (b ∷ bs) values long are is =
      by_case (front (b ∷ bs)) refl (λ octets more short. types_within n octets more (omega (arith, short, long)))
    where
      by_case : (read : Option (V × List ℕ)) → front (b ∷ bs) ≡ read
          → ((octets : List ℕ) (more : List V) → length octets < length (b ∷ bs) → AreOctets octets
          → listed front octets ≡ Some more → listed type_at octets ≡ Some (map key more))
          → listed type_at (b ∷ bs) ≡ Some (map key values)
      by_case None e again = absurd (none-some values (sym (listed_none front (b ∷ bs) (omega arith) e) ∙ is))
      by_case (Some x) e again =
          let t = laws.takes (b ∷ bs) x are e in
          let r = some_bind (listed front x.1) (λ more. Some (x.0 ∷ more)) values (sym (listed_more front less (b ∷ bs) x e) ∙ is) in
          let first : type_at (b ∷ bs) ≡ Some (key x.0, x.1) = ap type_at t.1 ∙ begins x.0 x.1 t.0 in
          let others = again x.1 r.0 (less (b ∷ bs) x e) (AreOctets-right (text x.0) x.1 (subst AreOctets t.1 are)) r.1 in
          listed_more type_at type_falls (b ∷ bs) (key x.0, x.1) first
          ∙ ap (λ (those : Option (List (List ℕ))). those >>? λ more. Some (key x.0 ∷ more)) others
          ∙ ap (λ (those : List V). Some (map key those)) (some_is (x.0 ∷ r.0) values r.2)

  pub types_are : (octets : List ℕ) (values : List V) → AreOctets octets → listed front octets ≡ Some values
      → listed type_at octets ≡ Some (map key values)
  types_are octets values are is = types_within (length octets + 1) octets values (omega arith) are is

  -- no type stands twice among the values
  pub own_where : (octets : List ℕ) (values : List V) → AreOctets octets → listed front octets ≡ Some values
      → HaveOwnTypes octets ↔ IsDistinct bytes_eq (map key values)
  own_where octets values are is =
      let types = types_are octets values are is in (
        λ own. subst (IsDistinct bytes_eq) (some_is own.0 (map key values) (sym own.1 ∙ types)) own.2,
        λ distinct. (map key values, types, distinct),
      )

-- ---- types in order

-- neither is below the other
neither : (this next : List ℕ) → is_less this next ≡ false → is_less next this ≡ false → bytes_eq this next ≡ true
neither this next a b =
    texts_ties this next ∙ tie (slice_cmp nat_cmp this next) a
    (sym (ap is_lt (nat_list_cmp_total.antisymm next this)) ∙ b)
  where
    tie : (o : Ordering) → is_lt o ≡ false → is_lt (ordering_reverse o) ≡ false → is_eq o ≡ true
    tie Less a b = absurd (false≢true (sym a))
    tie Equal a b = refl
    tie Greater a b = absurd (false≢true (sym b))

module _ (key : ℕ → List ℕ) (places : List ℕ) (sorted : IsSortedBy (λ x y. is_less (key x) (key y)) places) where
  strict : AllAdjacentBelow (λ x y. true ≡ is_less (key x) (key y)) places (length places)
      → IsDistinct bytes_eq (map key places)
  strict told = IsDistinct-from_apart bytes_eq (map key places) apart
    where
      apart : (i j : ℕ) (d : List ℕ) → i < j → j < length (map key places)
          → bytes_eq (get_or (map key places) i d) (get_or (map key places) j d) ≡ false
      apart i j d less within = elim (cases_Bool (bytes_eq (get_or (map key places) i d) (get_or (map key places) j d))) [
        | inr differ ↦ differ
        | inl same ↦
            let long = length-map places key in
            let this = get_or-map key places i 0 d (omega (arith, less, within, long)) in
            let that = get_or-map key places j 0 d (omega (arith, within, long)) in
            let equal = sym this ∙ (bytes_eq-Decides _ _).0 same ∙ that in
            let below = told i 0 (omega (arith, less, within, long)) in
            let far = sorted_far (λ x y. is_less (key x) (key y)) (ranks_by nat_list_cmp_total key) places sorted (i + 1) j 0
            (omega (arith, less)) (omega (arith, within, long)) in
            absurd (false≢true (sym far ∙ ap (λ (k : List ℕ). is_less k (key (get_or places (i + 1) 0))) (sym equal) ∙ sym below))
      ]

  slack : (k : ℕ) → k + 1 < length places → is_less (key (get_or places k 0)) (key (get_or places (k + 1) 0)) ≡ false
      → IsDistinct bytes_eq (map key places) → ⊥
  slack k within isnt distinct =
      let long = length-map places key in
      let this = get_or-map key places k 0 [] (omega (arith, within)) in
      let next = get_or-map key places (k + 1) 0 [] within in
      let apart = apart_from_distinct bytes_eq (map key places) k (k + 1) [] distinct (omega arith) (omega (arith, within, long)) in
      false≢true (sym apart ∙ ap₂ bytes_eq this next
      ∙ neither (key (get_or places k 0)) (key (get_or places (k + 1) 0)) isnt (sorted k 0 (omega arith) within))

  tells : (answer : Bool) → IsAllAdjacentAnswer (λ x y b. b ≡ is_less (key x) (key y)) places answer
      → IsTrue answer ↔ IsDistinct bytes_eq (map key places)
  tells true told = (λ _. strict told, λ _. refl)
  tells false (k, within, told) =
      (λ is. absurd (false≢true is), λ distinct. absurd (slack k within (sym (told 0)) distinct))

-- a closure that compares the types at two places, and one that tells whether one is below the other
pub sorts_by_key : {F : Type 0} {g : Mut F (Bor ℕ × (Bor ℕ × Unit {0})) Ordering} {f : F} (key : ℕ → List ℕ) (places : List ℕ)
    → ((lt : ℕ → ℕ → Bool) → IsStrictWeakOrder lt → ComparesAs g lt f → IsSortedBy lt places)
    → ((a : Bor ℕ × (Bor ℕ × Unit {0})) (r : Ordering) (f' : F) → Called g f a r f'
    → (r ≡ slice_cmp nat_cmp (key a.0.now) (key a.1.0.now)) × (f' ≡ f))
    → IsSortedBy (λ x y. is_less (key x) (key y)) places
sorts_by_key {g = g} {f = f} key places sorted each =
    sorted (λ x y. is_less (key x) (key y)) (ranks_by nat_list_cmp_total key)
    (always_returns_same g (λ a r. is_lt r ≡ is_less (key a.0.now) (key a.1.0.now)) f
    (λ a r f' k. (ap is_lt (each a r f' k).0, (each a r f' k).1)))

pub tells_by_key : {F : Type 0} {g : Mut F (Bor ℕ × (Bor ℕ × Unit {0})) Bool} {f : F} (key : ℕ → List ℕ)
    → ((a : Bor ℕ × (Bor ℕ × Unit {0})) (r : Bool) (f' : F) → Called g f a r f'
    → (r ≡ partial_lt (slice_partial_cmp (λ x y. Some (nat_cmp x y))) (key a.0.now) (key a.1.0.now)) × (f' ≡ f))
    → ComputesOnPairs g (λ x y. is_less (key x) (key y)) f
tells_by_key {g = g} {f = f} key each =
    always_returns_same g (λ a r. r ≡ is_less (key a.0.now) (key a.1.0.now)) f
    (λ a r f' k. ((each a r f' k).0 ∙ less_told (key a.0.now) (key a.1.0.now), (each a r f' k).1))

-- places of types, in the order of the types, and whether each type is below the next
pub own_types : (key : ℕ → List ℕ) (places ordered : List ℕ) (kinds : List (List ℕ)) (answer : Bool)
    → map key places ≡ kinds → IsPermutation places ordered
    → IsSortedBy (λ x y. is_less (key x) (key y)) ordered
    → IsAllAdjacentAnswer (λ x y b. b ≡ is_less (key x) (key y)) ordered answer
    → IsTrue answer ↔ IsDistinct bytes_eq kinds
own_types key places ordered kinds answer are same sorted told =
    let t = tells key ordered sorted answer told in
    let moved = IsPermutation-map key places ordered same in (
      λ is. subst (IsDistinct bytes_eq) are
          (IsDistinct-IsPermutation bytes_eq nat_list_eq_equiv.symm (map key ordered) (map key places)
          (IsPermutation-sym (map key places) (map key ordered) moved) (t.0 is)),
      λ distinct. t.1 (IsDistinct-IsPermutation bytes_eq nat_list_eq_equiv.symm (map key places) (map key ordered) moved
          (subst (IsDistinct bytes_eq) (sym are) distinct)),
    )
