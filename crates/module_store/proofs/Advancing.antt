-- The pool after an install: the blocks of the image that is replaced are free.
use Rattle.std.proofs.Common.{◌≡◌, ◌↔◌, ◌⊎◌, inl, inr, ⊎_elim, ℕ, ◌+◌, ◌*◌, ◌≤◌, Bool, false, cond, List, [], ◌∷◌, ◌++◌, length, refl, sym, ap, subst, ◌∙◌, arith}
use Rattle.std.specs.Prelude.{Contains, All, slice_set}
use Rattle.std.proofs.lemmas.Bool.{cases_Bool}
use Rattle.std.proofs.lemmas.List.{length-append, length-set, get_or-append-add}
use Rattle.std.proofs.Math.ListN.{get_or-append}
use Rattle.std.proofs.lemmas.List.Elements.{Contains-append_left, Contains-append_right, Contains-append_cases}
use Rattle.std.proofs.lemmas.List.Elements.{Contains-get_or}
use Rattle.block_pool.specs.Numbers.{IsApart}
use Rattle.package_attrs.specs.declared.name.PackageName.{PackageName}
use Rattle.config_table.specs.Names.{is_same}
use Rattle.config_table.specs.State.{Entry, State, Offer, placed, entry_for, with_package}
use Rattle.bank_layout.specs.Changes.{IsNew}
use Rattle.config_table.specs.Stored.{Stored}
use Rattle.block_pool.specs.Pools.{IsLive, LiveExactly, marked}
use Rattle.bank_layout.specs.Manifest.{Manifest, IsManifest, IsKept, blocks_in, named_blocks, manifest_text}
use Rattle.bank_layout.specs.declared.format.Format.{Format}
use Rattle.bank_layout.specs.declared.format.Format.TheVariants as formats
use Rattle.module_store.specs.Store.{CanPrepare, IsReady, manifest_of, next_of, replaced_blocks}
use Rattle.module_store.specs.declared.store.Store.{Store}
use Rattle.module_store.specs.declared.installing.Ready.{Ready}
use Rattle.module_store.proofs.Keeping.{own_blocks, can_keep}

-- ---- lists that are apart

abbrev pub AreOwn : List ℕ → List ℕ → Type 0
AreOwn xs ys = (n : ℕ) → Contains xs n → ¬ Contains ys n

own_in : (xs ys : List ℕ) → IsApart (xs ++ ys) → AreOwn xs ys
own_in xs ys apart n (k, lt, is) (j, less, same) =
    apart k (length xs + j) n (omega (arith, lt)) (omega (arith, less, length-append xs ys))
    (get_or-append xs ys n k lt ∙ is ∙ sym same ∙ sym (get_or-append-add xs ys j n))

apart_behind : (xs ys : List ℕ) → IsApart (xs ++ ys) → IsApart ys
apart_behind xs ys apart i j d lt less same =
    apart (length xs + i) (length xs + j) d (omega (arith, lt)) (omega (arith, less, length-append xs ys))
    (get_or-append-add xs ys i d ∙ same ∙ sym (get_or-append-add xs ys j d))

apart_front : (xs ys : List ℕ) → IsApart (xs ++ ys) → IsApart xs
apart_front xs ys apart i j d lt less same =
    apart i j d lt (omega (arith, less, length-append xs ys))
    (get_or-append xs ys d i (omega (arith, lt, less)) ∙ same ∙ sym (get_or-append xs ys d j less))

none_there : (n : ℕ) → ¬ Contains [] n
none_there n (k, lt, is) = omega (arith, lt)

-- ---- what is replaced

-- the blocks of the package that has this name, by its place in the list
replaced : PackageName → List (Entry Stored) → List ℕ
replaced name [] = []
replaced name (entry ∷ more) = cond (is_same name entry.name) entry.image.blocks (replaced name more)

replaced_is : (name : PackageName) (packages : List (Entry Stored)) → replaced_blocks name packages ≡ replaced name packages
unfolding replaced
replaced_is name [] = refl
replaced_is name (e ∷ more) = elim (cases_Bool (is_same name e.name)) [
  | inl same ↦ rw same refl
  | inr other ↦ rw other (replaced_is name more)
]

-- what is replaced was there
was_there : (name : PackageName) (packages : List (Entry Stored)) (n : ℕ) → Contains (replaced name packages) n
    → Contains (blocks_in packages) n
unfolding replaced
was_there name [] n there = there
was_there name (e ∷ more) n there = elim (cases_Bool (is_same name e.name)) [
  | inl same ↦ Contains-append_left e.image.blocks (blocks_in more) n (rw same at there)
  | inr other ↦ Contains-append_right e.image.blocks (blocks_in more) n (was_there name more n (rw other at there))
]

-- ---- which blocks are named afterwards

module _ (new : Entry Stored) where
  abbrev Left : List (Entry Stored) → ℕ → Type 0
  Left packages n =
      (Contains (blocks_in packages) n ⊎ Contains new.image.blocks n) × ¬ Contains (replaced new.name packages) n

  forth : (packages : List (Entry Stored)) → IsApart (blocks_in packages)
      → AreOwn new.image.blocks (blocks_in packages) → (n : ℕ) → Contains (blocks_in (placed new packages)) n
      → Left packages n
  unfolding replaced
  forth [] apart own n there = elim (Contains-append_cases new.image.blocks [] n there) [
    | inl mine ↦ (inr mine, none_there n)
    | inr none ↦ absurd (none_there n none)
  ]
  forth (e ∷ more) apart own n there = elim (cases_Bool (is_same new.name e.name)) [
    | inl same ↦ rw same (by_same (Contains-append_cases new.image.blocks (blocks_in more) n (rw same at there)))
    | inr other ↦ rw other (by_other (forth more (apart_behind e.image.blocks (blocks_in more) apart)
        (λ m mine old. own m mine (Contains-append_right e.image.blocks (blocks_in more) m old)) n)
        (Contains-append_cases e.image.blocks (blocks_in (placed new more)) n (rw other at there)))
  ]
    where
      by_same : Contains new.image.blocks n ⊎ Contains (blocks_in more) n
          → (Contains (e.image.blocks ++ blocks_in more) n ⊎ Contains new.image.blocks n) × ¬ Contains e.image.blocks n
      by_same (inl mine) = (
        inr mine,
        λ old. own n mine (Contains-append_left e.image.blocks (blocks_in more) n old),
      )
      by_same (inr rest) = (
        inl (Contains-append_right e.image.blocks (blocks_in more) n rest),
        λ old. own_in e.image.blocks (blocks_in more) apart n old rest,
      )

      by_other : (Contains (blocks_in (placed new more)) n → Left more n)
          → Contains e.image.blocks n ⊎ Contains (blocks_in (placed new more)) n
          → (Contains (e.image.blocks ++ blocks_in more) n ⊎ Contains new.image.blocks n)
          × ¬ Contains (replaced new.name more) n
      by_other further (inl old) = (
        inl (Contains-append_left e.image.blocks (blocks_in more) n old),
        λ gone. own_in e.image.blocks (blocks_in more) apart n old (was_there new.name more n gone),
      )
      by_other further (inr rest) =
          let left = further rest in
          (⊎_elim (λ old. inl (Contains-append_right e.image.blocks (blocks_in more) n old)) (λ mine. inr mine) left.0, left.1)

  back : (packages : List (Entry Stored)) (n : ℕ) → Left packages n → Contains (blocks_in (placed new packages)) n
  unfolding replaced
  back [] n left = elim left.0 [
    | inl none ↦ absurd (none_there n none)
    | inr mine ↦ Contains-append_left new.image.blocks [] n mine
  ]
  back (e ∷ more) n left = elim (cases_Bool (is_same new.name e.name)) [
    | inl same ↦ rw same (by_same (rw same at left))
    | inr other ↦ rw other (by_other (back more n) (rw other at left))
  ]
    where
      by_same : (Contains (e.image.blocks ++ blocks_in more) n ⊎ Contains new.image.blocks n)
          × ¬ Contains e.image.blocks n → Contains (new.image.blocks ++ blocks_in more) n
      by_same (there, stays) = ⊎_elim
          (λ old. ⊎_elim (λ gone. absurd (stays gone))
          (λ rest. Contains-append_right new.image.blocks (blocks_in more) n rest)
          (Contains-append_cases e.image.blocks (blocks_in more) n old))
          (λ mine. Contains-append_left new.image.blocks (blocks_in more) n mine) there

      by_other : (Left more n → Contains (blocks_in (placed new more)) n)
          → (Contains (e.image.blocks ++ blocks_in more) n ⊎ Contains new.image.blocks n)
          × ¬ Contains (replaced new.name more) n → Contains (e.image.blocks ++ blocks_in (placed new more)) n
      by_other further (there, stays) = ⊎_elim
          (λ old. ⊎_elim (λ front. Contains-append_left e.image.blocks (blocks_in (placed new more)) n front)
          (λ rest. Contains-append_right e.image.blocks (blocks_in (placed new more)) n (further (inl rest, stays)))
          (Contains-append_cases e.image.blocks (blocks_in more) n old))
          (λ mine. Contains-append_right e.image.blocks (blocks_in (placed new more)) n (further (inr mine, stays)))
          there

  -- the blocks that were named or are new, and aren't replaced
  left_named : (packages : List (Entry Stored)) → IsApart (blocks_in packages)
      → AreOwn new.image.blocks (blocks_in packages) → (n : ℕ)
      → Contains (blocks_in (placed new packages)) n
      ↔ (Contains (blocks_in packages ++ new.image.blocks) n × ¬ Contains (replaced new.name packages) n)
  left_named packages apart own n = (
    λ there.
        let left = forth packages apart own n there in (
          ⊎_elim (Contains-append_left (blocks_in packages) new.image.blocks n)
              (Contains-append_right (blocks_in packages) new.image.blocks n) left.0,
          left.1,
        ),
    λ both. back packages n (Contains-append_cases (blocks_in packages) new.image.blocks n both.0, both.1),
  )

-- ---- what is asked of the pool

replaced_apart : (name : PackageName) (packages : List (Entry Stored)) → IsApart (blocks_in packages)
    → IsApart (replaced name packages)
unfolding replaced
replaced_apart name [] apart = apart
replaced_apart name (e ∷ more) apart = elim (cases_Bool (is_same name e.name)) [
  | inl same ↦ rw same (apart_front e.image.blocks (blocks_in more) apart)
  | inr other ↦ rw other (replaced_apart name more (apart_behind e.image.blocks (blocks_in more) apart))
]

marked_length : (flag : Bool) (numbers : List ℕ) (pool : List Bool) → length (marked flag numbers pool) ≡ length pool
marked_length flag [] pool = refl
marked_length flag (n ∷ more) pool = marked_length flag more (slice_set pool n flag) ∙ length-set pool n flag

-- ---- the store after an install

-- what an install makes of a state that can be kept can be kept
abbrev pub KeepsStates : Type 0
KeepsStates = (capacity : ℕ) (offer : Offer) (digest : List ℕ) (stored : Stored) (state : State Stored)
    → IsKept capacity state → IsNew capacity offer digest stored state
    → IsKept capacity (with_package offer digest stored state)

-- the next manifest is a valid one
pub prepared_valid : KeepsStates → (s : Store) (offer : Offer) (digest : List ℕ) (stored : Stored)
    → CanPrepare s offer digest stored
    → IsManifest s.module.capacity
    (record { sequence = s.sequence + 1; state = with_package offer digest stored s.state })
prepared_valid kept s offer digest stored can = record {
  of_module = (can.valid.owner.limits.some_capacity, can.valid.owner.limits.most_capacity);
  some = omega arith;
  most = can.sequence;
  state = kept s.module.capacity offer digest stored s.state
      (can_keep s.module.capacity s.running (manifest_of s) can.valid.manifest) can.fresh;
}

module _ (s : Store) (ready : Ready) (is : IsReady s ready) where
  abbrev New : Entry Stored
  New = entry_for is.offer is.digest is.stored

  gone_is : replaced_blocks ready.name s.state.packages ≡ replaced New.name s.state.packages
  gone_is = ap (λ (name : PackageName). replaced_blocks name s.state.packages) is.name
      ∙ replaced_is is.offer.name s.state.packages

  named_apart : IsApart (blocks_in s.state.packages)
  named_apart = (own_blocks s.module.capacity s.running (manifest_of s) is.can.valid.manifest).apart

  pub gone_live : All (IsLive s.pool) (replaced_blocks ready.name s.state.packages)
  gone_live = subst (λ (gone : List ℕ). All (IsLive s.pool) gone) (sym gone_is)
      (λ k d lt. (is.can.live _).1
      (Contains-append_left (blocks_in s.state.packages) is.stored.blocks _
      (was_there New.name s.state.packages _
      (Contains-get_or (replaced New.name s.state.packages) k d lt))))

  pub gone_apart : IsApart (replaced_blocks ready.name s.state.packages)
  gone_apart = subst (λ (gone : List ℕ). IsApart gone) (sym gone_is)
      (replaced_apart New.name s.state.packages named_apart)

  left_is : (n : ℕ) → Contains (named_blocks ready.state) n
      ↔ (Contains (named_blocks s.state ++ is.stored.blocks) n
      × ¬ Contains (replaced_blocks ready.name s.state.packages) n)
  left_is n =
      subst (λ (m : Manifest). Contains (named_blocks m.state) n
      ↔ (Contains (named_blocks s.state ++ is.stored.blocks) n
      × ¬ Contains (replaced_blocks ready.name s.state.packages) n)) (sym is.made)
      (subst (λ (gone : List ℕ). Contains (blocks_in (placed New s.state.packages)) n
      ↔ (Contains (named_blocks s.state ++ is.stored.blocks) n × ¬ Contains gone n)) (sym gone_is)
      (left_named New s.state.packages named_apart is.can.fresh.own n))

  -- what is installed is a valid manifest
  pub next_valid : KeepsStates → IsManifest s.module.capacity (next_of ready)
  next_valid kept = subst (λ (m : Manifest). IsManifest s.module.capacity m) (sym is.made)
      (prepared_valid kept s is.offer is.digest is.stored is.can)

  -- and its text is short
  pub next_short : KeepsStates
      → ((format : Format) (capacity : ℕ) (m : Manifest) → IsManifest capacity m
      → length (manifest_text format m) ≤ 131072)
      → length ready.octets.items ≤ 131072
  next_short kept size = omega (
    arith,
    ap (λ (l : List ℕ). length l) is.text,
    size formats.Two s.module.capacity (next_of ready) (next_valid kept),
  )

  pub next_sequence : (next_of ready).sequence ≡ (manifest_of s).sequence + 1
  next_sequence = ap (λ (m : Manifest). m.sequence) is.made

  module _ (retired : (pool : List Bool) (named gone left : List ℕ) → LiveExactly pool named
      → ((n : ℕ) → Contains left n ↔ (Contains named n × ¬ Contains gone n))
      → LiveExactly (marked false gone pool) left) (pool : List Bool)
      (pool_is : pool ≡ marked false (replaced_blocks ready.name s.state.packages) s.pool) where
    pub quiet_after : LiveExactly pool (named_blocks ready.state)
    quiet_after = subst (λ (p : List Bool). LiveExactly p (named_blocks ready.state)) (sym pool_is)
        (retired s.pool (named_blocks s.state ++ is.stored.blocks) (replaced_blocks ready.name s.state.packages)
        (named_blocks ready.state) is.can.live left_is)

    pub live_after : All (IsLive pool) (named_blocks ready.state)
    live_after = λ k d lt. (quiet_after _).1 (Contains-get_or (named_blocks ready.state) k d lt)

    pub size_after : length pool ≡ 2 * s.module.capacity
    size_after = ap (λ (p : List Bool). length p) pool_is
        ∙ marked_length false (replaced_blocks ready.name s.state.packages) s.pool ∙ is.can.valid.blocks
