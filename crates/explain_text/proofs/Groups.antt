-- Attributes of one type, among attributes in the order of their types.
use Rattle.std.proofs.Common.{◌≡◌, ◌≤◌, ◌<◌, ◌+◌, ◌-◌, ℕ, Bool, true, false, List, [], ◌∷◌, length, map, take, drop, leb}
use Rattle.std.proofs.Common.{refl, sym, ap, subst, ◌∙◌, arith, Ordering, Less, Equal, Greater, inl, inr}
use Rattle.std.specs.Prelude.{Contains, slice_index_or}
use Rattle.std.specs.Ordering.{nat_cmp, is_lt, is_le, ordering_index}
use Rattle.std.specs.Cmp.{tied_itself}
use Rattle.std.specs.Cmp.Lexicographic.{slice_cmp, nat_list_cmp_total}
use Rattle.std.specs.List.Sorted.{IsSortedBy, IsPartitionedBy, IsPartitionPoint}
use Rattle.std.proofs.lemmas.Bool.{cases_lt, false≢true}
use Rattle.std.proofs.lemmas.List.{get_or-drop, get_or-take, length-take, length-drop}
use Rattle.std.proofs.lemmas.List.Sorted.{IsPartitionedBy-leb}
use Rattle.der_core.specs.Attribute.{Attribute}
use Rattle.der_core.specs.AttributeView.{attribute_view}
use Rattle.der_core.specs.declared.attribute.Attr.{Attr}
use Rattle.constraint_meet.proofs.Searches.{not_falling}
use Rattle.explain_text.specs.Kept.{IsGroup}
use Rattle.explain_text.proofs.Elements.{contains_map, contains_unmap}
use Rattle.explain_text.proofs.Searched.{cmp_same}

lt_index : (o : Ordering) → is_lt o ≡ leb (ordering_index o) 0
lt_index Less = refl
lt_index Equal = refl
lt_index Greater = refl

pub le_index : (o : Ordering) → is_le o ≡ leb (ordering_index o) 1
le_index Less = refl
le_index Equal = refl
le_index Greater = refl

module _ {X : Type 0} (f : X → List ℕ) (xs : List X) (key : List ℕ)
    (sorted : IsSortedBy (λ x y. is_lt (slice_cmp nat_cmp (f x) (f y))) xs) where
  parted_by : (is : Ordering → Bool) (top : ℕ) → ((o : Ordering) → is o ≡ leb (ordering_index o) top)
      → IsPartitionedBy (λ x. is (slice_cmp nat_cmp (f x) key)) xs
  parted_by is top by i j d low within at =
      by (slice_cmp nat_cmp (f (slice_index_or xs i d)) key)
      ∙ IsPartitionedBy-leb (λ x. ordering_index (slice_cmp nat_cmp (f x) key)) xs top
      (not_falling nat_list_cmp_total f key xs sorted) i j d low within
      (sym (by (slice_cmp nat_cmp (f (slice_index_or xs j d)) key)) ∙ at)

  pub parted_lt : IsPartitionedBy (λ x. is_lt (slice_cmp nat_cmp (f x) key)) xs
  parted_lt = parted_by is_lt 0 lt_index

  pub parted_le : IsPartitionedBy (λ x. is_le (slice_cmp nat_cmp (f x) key)) xs
  parted_le = parted_by is_le 1 le_index

-- ---- those of one type

not_lt : (o : Ordering) → is_lt o ≡ false → is_le o ≡ true → o ≡ Equal
not_lt Less up down = absurd (false≢true (sym up))
not_lt Equal up down = refl
not_lt Greater up down = absurd (false≢true down)

lt_le : (o : Ordering) → is_lt o ≡ true → is_le o ≡ false → ⊥
lt_le Less less up = false≢true (sym up)
lt_le Equal less up = false≢true less
lt_le Greater less up = false≢true less

pub equal : (a b : List ℕ) → a ≡ b → slice_cmp nat_cmp a b ≡ Equal
equal a b is = subst (λ t. slice_cmp nat_cmp a t ≡ Equal) is (tied_itself nat_list_cmp_total a)

one_of : {X : Type 0} (xs : List X) → 0 < length xs → X
one_of [] some = absurd (omega (arith, some))
one_of (x ∷ xs) some = x

-- a part of a list, from one place to another
in_part : {X : Type 0} (xs : List X) (first end : ℕ) (x : X) → first ≤ end → end ≤ length xs
    → Contains (take (end - first) (drop first xs)) x
    → (k : ℕ) × (first ≤ k) × (k < end) × (slice_index_or xs k x ≡ x)
in_part xs first end x low high (k, within, is) =
    let size : k < end - first = omega (arith, within, length-take (end - first) (drop first xs)) in (
      first + k,
      omega arith,
      omega (arith, size),
      sym (get_or-drop first xs k x) ∙ sym (get_or-take (end - first) (drop first xs) k x size) ∙ is,
    )

to_part : {X : Type 0} (xs : List X) (first end : ℕ) (x : X) → end ≤ length xs → (k : ℕ) → first ≤ k → k < end
    → slice_index_or xs k x ≡ x → Contains (take (end - first) (drop first xs)) x
to_part xs first end x high k low within is =
    let size : k - first < end - first = omega (arith, low, within) in
    let back : first + (k - first) ≡ k = omega (arith, low) in (
      k - first,
      omega (arith, size, length-take (end - first) (drop first xs), length-drop first xs, high),
      get_or-take (end - first) (drop first xs) (k - first) x size ∙ get_or-drop first xs (k - first) x
          ∙ ap (λ (i : ℕ). slice_index_or xs i x) back ∙ is,
    )

module _ {X : Type 0} (f : X → List ℕ) (xs : List X) (key : List ℕ) (first end : ℕ) (room : end ≤ length xs)
    (from : IsPartitionPoint (λ x. is_lt (slice_cmp nat_cmp (f x) key) ≡ true)
    (λ x. is_lt (slice_cmp nat_cmp (f x) key) ≡ false) xs first)
    (upto : IsPartitionPoint (λ x. is_le (slice_cmp nat_cmp (f x) key) ≡ true)
    (λ x. is_le (slice_cmp nat_cmp (f x) key) ≡ false) xs end) where
  pub in_turn : first ≤ length xs → first ≤ end
  in_turn within = elim (cases_lt end first) [
    | inl before ↦
        let d = one_of xs (omega (arith, before, within)) in
        absurd (lt_le (slice_cmp nat_cmp (f (slice_index_or xs end d)) key) (from.0 end d (omega arith) before)
        (upto.1 end d (omega arith) (omega (arith, before, within))))
    | inr not_before ↦ not_before
  ]

  pub is_of_key : first ≤ end → (x : X) → Contains (take (end - first) (drop first xs)) x
      → Contains xs x × (f x ≡ key)
  is_of_key low x at =
      let (k, behind, before, is) = in_part xs first end x low room at in
      let within : k < length xs = omega (arith, before, room) in (
        (k, within, is),
        cmp_same (f x) key
            (not_lt (slice_cmp nat_cmp (f x) key)
            (subst (λ y. is_lt (slice_cmp nat_cmp (f y) key) ≡ false) is (from.1 k x behind within))
            (subst (λ y. is_le (slice_cmp nat_cmp (f y) key) ≡ true) is (upto.0 k x (omega arith) before))),
      )

  pub of_key_is : (x : X) → Contains xs x → f x ≡ key → Contains (take (end - first) (drop first xs)) x
  of_key_is x (k, within, is) same = to_part xs first end x room k behind before is
    where
      at : slice_cmp nat_cmp (f (slice_index_or xs k x)) key ≡ Equal
      at = subst (λ y. slice_cmp nat_cmp (f y) key ≡ Equal) (sym is) (equal (f x) key same)

      behind : first ≤ k
      behind = elim (cases_lt k first) [
        | inl less ↦ absurd (false≢true (ap is_lt (sym at) ∙ from.0 k x (omega arith) less))
        | inr not_less ↦ not_less
      ]

      before : k < end
      before = elim (cases_lt k end) [
        | inl less ↦ less
        | inr not_less ↦ absurd (false≢true (sym (upto.1 k x not_less within) ∙ ap is_le at))
      ]

-- attributes as values
pub group_is : (attributes group : List Attr) (kind : List ℕ)
    → ((a : Attr) → Contains group a → Contains attributes a × (a.kind ≡ kind))
    → ((a : Attr) → Contains attributes a → a.kind ≡ kind → Contains group a)
    → IsGroup (map attribute_view attributes) kind (map attribute_view group)
group_is attributes group kind to from a = (
  λ at.
      let found = contains_unmap attribute_view group a at in
      let is = to found.0 found.1 in (
        subst (Contains (map attribute_view attributes)) found.2 (contains_map attribute_view attributes found.0 is.0),
        sym (ap (λ (b : Attribute). b.kind) found.2) ∙ is.1,
      ),
  λ both.
      let found = contains_unmap attribute_view attributes a both.0 in
      subst (Contains (map attribute_view group)) found.2
      (contains_map attribute_view group found.0
      (from found.0 found.1 (ap (λ (b : Attribute). b.kind) found.2 ∙ both.1))),
)
