-- Searches among identifiers with a number each, which stand in order.
use Rattle.std.proofs.Common.{◌≡◌, ◌≤◌, ◌<◌, ◌-◌, ◌+◌, ℕ, true, false, ◌&&◌, List, length, refl, sym, ap, ap₂, subst, ◌∙◌, arith}
use Rattle.std.proofs.Common.{Ordering, Less, Equal, Greater, inl, inr}
use Rattle.std.specs.Prelude.{Contains, bytes_eq, nat_eq, nat_le, slice_index_or}
use Rattle.std.specs.Cmp.{tied_itself}
use Rattle.std.specs.Cmp.Lexicographic.{slice_cmp, nat_list_cmp_total}
use Rattle.std.specs.List.{list_any}
use Rattle.std.specs.List.Sorted.{IsSortedBy, IsPartitionedBy, IsPartitionPoint}
use Rattle.std.specs.Ordering.{is_le, is_lt, nat_cmp, ordering_index, ordering_reverse, ordering_then}
use Rattle.std.proofs.lemmas.Bool.{cases_lt, false≢true}
use Rattle.std.proofs.lemmas.Bool.Decides.{Decides-eqb, Decides-like, nat_tests, same_from_decides}
use Rattle.std.proofs.lemmas.List.{get_or_default}
use Rattle.std.proofs.lemmas.List.Sorted.{IsPartitionedBy-leb}
use Rattle.std.proofs.lemmas.Slice.Eq.{bytes_eq-Decides}
use Rattle.constraint_meet.specs.Places.{Key, key_cmp}
use Rattle.constraint_meet.proofs.Searches.{key_total, not_falling}
use Rattle.explain_text.specs.Keys.{AscendByNumber, IsUpTo, is_key}
use Rattle.explain_text.proofs.Covering.{key_tells, up_to_tells}
use Rattle.explain_text.proofs.Groups.{equal, le_index}
use Rattle.explain_text.proofs.Searched.{cmp_same}

-- ---- one key and another

first_up_to : (o p : Ordering) → is_le (ordering_then o p) ≡ true → is_le o ≡ true
first_up_to Less p up = refl
first_up_to Equal p up = refl
first_up_to Greater p up = up

both_ways : (o : Ordering) → is_le o ≡ true → is_le (ordering_reverse o) ≡ true → o ≡ Equal
both_ways Less down up = absurd (false≢true up)
both_ways Equal down up = refl
both_ways Greater down up = absurd (false≢true down)

number_up_to : (m n : ℕ) → is_le (nat_cmp m n) ≡ true → m ≤ n
number_up_to m n h = search (h, arith)

up_to_number : (m n : ℕ) → m ≤ n → is_le (nat_cmp m n) ≡ true
up_to_number m n h = search (h, arith)

-- the same identifier, and no greater number
pub is_up_to : (key : Key) (id : List ℕ) (number : ℕ) → key.0 ≡ id → key.1 ≤ number → IsUpTo key (id, number)
is_up_to key id number same low = rw (equal key.0 id same) (up_to_number key.1 number low)

pub up_to_is : (key : Key) (id : List ℕ) (number : ℕ) → IsUpTo key (id, number) → key.0 ≡ id → key.1 ≤ number
up_to_is key id number up same = number_up_to key.1 number (rw (equal key.0 id same) at up)

-- what lies between two keys of one identifier is of that identifier
pub of_one : (key last : Key) (id : List ℕ) (number : ℕ) → key.0 ≡ id → IsUpTo key last → IsUpTo last (id, number)
    → last.0 ≡ id
of_one key last id number same up down =
    cmp_same last.0 id
    (both_ways (slice_cmp nat_cmp last.0 id) (first_up_to (slice_cmp nat_cmp last.0 id) (nat_cmp last.1 number) down)
    (subst (λ o. is_le o ≡ true) (nat_list_cmp_total.antisymm id last.0) up'))
  where
    up' : is_le (slice_cmp nat_cmp id last.0) ≡ true
    up' =
        subst (λ (t : List ℕ). is_le (slice_cmp nat_cmp t last.0) ≡ true) same
        (first_up_to (slice_cmp nat_cmp key.0 last.0) (nat_cmp key.1 last.1) up)

-- ---- which keys come up to one

module _ (keys : List Key) (ordered : AscendByNumber keys) where
  pub parted_up_to : (key : Key) → IsPartitionedBy (λ k. is_le (key_cmp k key)) keys
  parted_up_to key i j d low within is =
      le_index (key_cmp (slice_index_or keys i d) key)
      ∙ IsPartitionedBy-leb (λ k. ordering_index (key_cmp k key)) keys 1
      (not_falling key_total (λ (k : Key). k) key keys ordered) i j d low within
      (sym (le_index (key_cmp (slice_index_or keys j d) key)) ∙ is)

  -- the identifiers don't descend
  pub ids_ascend : IsSortedBy (λ x y. is_lt (slice_cmp nat_cmp x.0 y.0)) keys
  ids_ascend k d low high =
      not_less (slice_cmp nat_cmp (slice_index_or keys (k + 1) d).0 (slice_index_or keys k d).0)
      (nat_cmp (slice_index_or keys (k + 1) d).1 (slice_index_or keys k d).1) (ordered k d low high)
    where
      not_less : (o p : Ordering) → is_lt (ordering_then o p) ≡ false → is_lt o ≡ false
      not_less Less p is = is
      not_less Equal p is = refl
      not_less Greater p is = refl

  module _ (id : List ℕ) (number count : ℕ) (bound : count ≤ length keys)
      (parted : IsPartitionPoint (λ key. is_le (key_cmp key (id, number)) ≡ true)
      (λ key. is_le (key_cmp key (id, number)) ≡ false) keys count) where
    -- a key up to it stands among the first ones
    before : (key : Key) → (at : Contains keys key) → IsUpTo key (id, number) → at.0 < count
    before key (k, within, is) up = elim (cases_lt k count) [
      | inl less ↦ less
      | inr not_less ↦
          absurd (false≢true (sym (parted.1 k key not_less within)
          ∙ subst (λ (y : Key). is_le (key_cmp y (id, number)) ≡ true) (sym is) up))
    ]

    module _ (last : Key) (some : 0 < count) (is : slice_index_or keys (count - 1) last ≡ last) where
      pub last_after : (key : Key) → Contains keys key → IsUpTo key (id, number) → IsUpTo key last
      last_after key at up = le_index (key_cmp key last) ∙ grind (low, arith, nat_tests)
        where
          falls : ordering_index (key_cmp (slice_index_or keys at.0 key) last)
              ≤ ordering_index (key_cmp (slice_index_or keys (count - 1) key) last)
          falls =
              not_falling key_total (λ (k : Key). k) last keys ordered at.0 (count - 1) key
              (omega (arith, before key at up)) (omega (arith, some, bound))

          there : slice_index_or keys (count - 1) key ≡ last
          there = get_or_default keys (count - 1) key last (omega (arith, some, bound)) ∙ is

          same : ordering_index (key_cmp (slice_index_or keys (count - 1) key) last) ≡ 1
          same =
              ap (λ (k : Key). ordering_index (key_cmp k last)) there ∙ ap ordering_index (tied_itself key_total last)

          low : ordering_index (key_cmp key last) ≤ 1
          low =
              subst (λ (k : Key). ordering_index (key_cmp k last) ≤ 1) at.2 (omega (arith, falls, same))

-- ---- what the last of them tells

module _ (keys : List Key) (id : List ℕ) (number : ℕ) where
  module _ (last : Key) (at : Contains keys last) (up : IsUpTo last (id, number))
      (after : (key : Key) → Contains keys key → IsUpTo key (id, number) → IsUpTo key last) where
    pub last_tells : last.0 ≡ id → nat_eq last.1 number ≡ is_key keys id number
    last_tells same =
        same_from_decides (nat_eq last.1 number) (is_key keys id number)
        (Decides-like (nat_eq last.1 number)
        (λ e. subst (Contains keys) (ap₂ (λ (t : List ℕ) (n : ℕ). (t, n)) same e) at) from (Decides-eqb last.1 number))
        (key_tells keys id number)
      where
        from : Contains keys (id, number) → last.1 ≡ number
        from there =
            let up' = after (id, number) there (is_up_to (id, number) id number refl (omega arith)) in
            omega (arith, up_to_is last id number up same, up_to_is (id, number) last.0 last.1 up' (sym same))

    pub last_differs : (last.0 ≡ id → ⊥) → false ≡ is_key keys id number
    last_differs differs =
        same_from_decides false (is_key keys id number) (
          λ e. absurd (false≢true e),
          λ there. absurd (differs (of_one (id, number) last id number refl
              (after (id, number) there (is_up_to (id, number) id number refl (omega arith))) up)),
        )
        (key_tells keys id number)

    pub last_is_late : bytes_eq last.0 id ≡ list_any (λ (key : Key). bytes_eq key.0 id && nat_le key.1 number) keys
    last_is_late =
        same_from_decides (bytes_eq last.0 id) (list_any (λ (key : Key). bytes_eq key.0 id && nat_le key.1 number) keys)
        (Decides-like (bytes_eq last.0 id) (λ same. (last, at, (same, up_to_is last id number up same)))
        (λ f. of_one f.0 last id number f.2.0 (after f.0 f.1 (is_up_to f.0 id number f.2.0 f.2.1)) up)
        (bytes_eq-Decides last.0 id))
        (up_to_tells keys id number)

  module _ (none : (key : Key) → Contains keys key → IsUpTo key (id, number) → ⊥) where
    pub none_tells : false ≡ is_key keys id number
    none_tells =
        same_from_decides false (is_key keys id number)
        (λ e. absurd (false≢true e), λ there. absurd (none (id, number) there (is_up_to (id, number) id number refl (omega arith))))
        (key_tells keys id number)

    pub none_is_late : false ≡ list_any (λ (key : Key). bytes_eq key.0 id && nat_le key.1 number) keys
    none_is_late =
        same_from_decides false (list_any (λ (key : Key). bytes_eq key.0 id && nat_le key.1 number) keys)
        (λ e. absurd (false≢true e), λ f. absurd (none f.0 f.1 (is_up_to f.0 id number f.2.0 f.2.1)))
        (up_to_tells keys id number)
