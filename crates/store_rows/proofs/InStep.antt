-- A store that is kept in memory stays in step with its board over a stream that is given back, and over an install.
use Rattle.std.proofs.Common.{◌≡◌, ℕ, ◌++◌, [], Bool, true, false, List, take, Option, Some, None, Result, Ok, Err}
use Rattle.std.proofs.Common.{IfSome, All, IsTrue, IfOk, sym, ◌∙◌, ap, subst, arith}
use Rattle.std.specs.Prelude.{IsSome, is_ok, unwrap_or}
use Rattle.std.specs.Result.{OnOk, result_ok}
use Rattle.std.proofs.lemmas.Bool.{false≢true}
use Rattle.std.proofs.lemmas.List.Elements.{Contains-get_or, Contains-append_right}
use Rattle.std.proofs.lemmas.Option.{none-some}
use Rattle.der_core.proofs.Numbers.{some_is}
use Rattle.edge_board.specs.Board.{Nowhere, IsSettled}
use Rattle.edge_board.specs.MemBoard.{mem_view}
use Rattle.edge_board.specs.Runs.{Touches}
use Rattle.edge_board.specs.declared.mem_board.MemBoard.{MemBoard}
use Rattle.edge_board.proofs.RunLemmas.{touch_then, touch_wider}
use Rattle.block_pool.specs.Numbers.{IsApart}
use Rattle.block_pool.specs.Pools.{IsFree, IsLive, LiveExactly, free_numbers, marked}
use Rattle.package_attrs.specs.Description.{Description}
use Rattle.package_attrs.specs.Image.{blocks_for}
use Rattle.config_table.specs.State.{offer_of}
use Rattle.content_stream.specs.Plans.{InStream, IsPlanned, Plan, TakesBlocks, image_size}
use Rattle.bank_layout.specs.Layout.{first_image_block}
use Rattle.bank_layout.specs.Manifest.{named_blocks}
use Rattle.module_store.specs.Moments.{Stays}
use Rattle.module_store.specs.Store.{CanPrepare, HasBlocks, IsStore, IsStoreOf}
use Rattle.module_store.specs.declared.store.Store.{Store}
use Rattle.store_rows.specs.Plain.{IsPlain}
use Rattle.store_rows.specs.InStep.{HasRoom, IsInStep, StreamsInto}
use Rattle.store_rows.proofs.Preparing.{can_prepare}

-- ---- results

pub on_ok : {A F P : Type 0} (r : Result A F) (b : Bool) → b ≡ is_ok r → IsTrue b → OnOk r P → P
on_ok (Ok x) b is done h = h
on_ok (Err f) b is done h = absurd (false≢true (sym is ∙ done))

pub if_ok : {A F : Type 0} (P R : A → Type 0) (Q : Type 0) (r : Result A F) (o : Option A) → o ≡ result_ok r → IfOk r P → OnOk r Q
    → ((x : A) → P x → Q → R x) → IfSome o R
if_ok P R Q (Ok x) o is p q f = subst (λ o. IfSome o R) (sym is) (f x p q)
if_ok P R Q (Err e) o is p q f = subst (λ o. IfSome o R) (sym is) tt

-- ---- streams

-- a stream that was fed and has come to its end
pub streams : (size : ℕ) (front : List ℕ) (old new : List Bool) (plan : Plan) (blocks : Option (List ℕ)) (a b c : MemBoard)
    → IsPlanned first_image_block size front old new plan → blocks ≡ plan.blocks
    → Touches (Unit {0}) (InStream plan) (mem_view a) (mem_view b) → Touches (Unit {0}) Nowhere (mem_view b) (mem_view c)
    → IsSettled (mem_view c) → StreamsInto old new blocks (mem_view a) (mem_view c)
streams size front old new plan blocks a b c planned taken fed ended settled = record {
  size = size;
  front = front;
  plan = plan;
  planned = planned;
  taken = taken;
  touches = touch_then (mem_view a) (mem_view b) (mem_view c) fed
      (touch_wider (mem_view b) (mem_view c) (λ told i none. absurd none) ended);
  settled = settled;
}

taken_are : (n : ℕ) (old new : List Bool) (blocks : Option (List ℕ)) (numbers : List ℕ) → Some numbers ≡ blocks
    → TakesBlocks n old new blocks → (numbers ≡ take n (free_numbers old)) × (new ≡ marked true numbers old)
taken_are n old new None numbers is t = absurd (none-some numbers (sym is))
taken_are n old new (Some others) numbers is t =
    let same : numbers ≡ others = some_is numbers others is in
    (same ∙ t.1, t.2 ∙ ap (λ (l : List ℕ). marked true l old) (sym same))

-- ---- the store beside its board

-- streams have no say in what the board recovers to
abbrev pub HaveNoSay : Type 0
HaveNoSay =
    (s : Store) (old new : MemBoard) (size : ℕ) (front : List ℕ) (after : List Bool) (plan : Plan) → IsStore s
    → IsStoreOf s (mem_view old).cells → IsSettled (mem_view old) → IsPlanned first_image_block size front s.pool after plan
    → Touches (Unit {0}) (InStream plan) (mem_view old) (mem_view new) → Stays s (mem_view old) (mem_view new)

-- blocks that are taken are live too
abbrev pub AreLiveToo : Type 0
AreLiveToo =
    (pool : List Bool) (named numbers : List ℕ) → LiveExactly pool named → All (IsFree pool) numbers
    → LiveExactly (marked true numbers pool) (named ++ numbers)

module _ (s : Store) (old new : MemBoard) (step : IsInStep s (mem_view old)) (pool : List Bool) where
  module _ (blocks : Option (List ℕ)) (stream : StreamsInto s.pool pool blocks (mem_view old) (mem_view new)) where
    pub still_held : HaveNoSay → IsStoreOf s (mem_view new).cells
    still_held law =
        (law s old new stream.size stream.front pool stream.plan step.valid step.holds step.settled stream.planned
        stream.touches).now.0

    pub still_fits : HasBlocks s (mem_view new).blocks
    still_fits = omega (arith, step.blocks, stream.touches.blocks)

  module _ (numbers : List ℕ) (stream : StreamsInto s.pool pool (Some numbers) (mem_view old) (mem_view new))
      (are-free : (pool : List Bool) (n : ℕ) → All (IsFree pool) (take n (free_numbers pool))) where
    taken : (numbers ≡ take (blocks_for (image_size stream.plan)) (free_numbers s.pool)) × (pool ≡ marked true numbers s.pool)
    taken = taken_are (blocks_for (image_size stream.plan)) s.pool pool stream.plan.blocks numbers stream.taken
        stream.planned.taken

    free : All (IsFree s.pool) numbers
    free = subst (λ (l : List ℕ). All (IsFree s.pool) l) (sym taken.0)
        (are-free s.pool (blocks_for (image_size stream.plan)))

    pub all_live : AreLiveToo → All (IsLive pool) numbers
    all_live law = λ k e lt. (live _).1
        (Contains-append_right (named_blocks s.state) numbers _ (Contains-get_or numbers k e lt))
      where
        live : LiveExactly pool (named_blocks s.state ++ numbers)
        live = subst (λ (p : List Bool). LiveExactly p (named_blocks s.state ++ numbers)) (sym taken.1)
            (law s.pool (named_blocks s.state) numbers step.quiet free)

    -- blocks that are given back leave the store as it was
    pub given_back : HaveNoSay
        → ((pool : List Bool) (numbers : List ℕ) → All (IsFree pool) numbers → marked false numbers (marked true numbers pool) ≡ pool)
        → (given : List Bool) → given ≡ marked false numbers pool → IsInStep (record s { pool = given }) (mem_view new)
    given_back law undone given is =
        let same : s.pool ≡ given =
        sym (is ∙ ap (λ (p : List Bool). marked false numbers p) taken.1 ∙ undone s.pool numbers free) in
        subst (λ (p : List Bool). IsInStep (record s { pool = p }) (mem_view new)) same
        (record {
          valid = step.valid;
          quiet = step.quiet;
          blocks = still_fits (Some numbers) stream;
          settled = stream.settled;
          holds = still_held (Some numbers) stream law;
        })

    -- a package with room can be prepared over them
    pub can_be_prepared : AreLiveToo → ((pool : List Bool) (n : ℕ) → IsApart (take n (free_numbers pool)))
        → (d : Description) → IsPlain d → (digest : List ℕ) (size : ℕ)
        → HasRoom (record s { pool = pool }) (offer_of d) digest (record { length = size; blocks = numbers })
        → CanPrepare (record s { pool = pool }) (offer_of d) digest (record { length = size; blocks = numbers })
    can_be_prepared law are-apart d plain digest size room =
        can_prepare s d plain digest room.digest_size size numbers step.valid step.quiet room.sequence room.some room.blocks free
        (subst IsApart (sym taken.0) (are-apart s.pool (blocks_for (image_size stream.plan)))) room.fit room.packages
        room.stale law pool taken.1

  -- the same where they are there
  pub streamed_can_be_prepared : (blocks : Option (List ℕ)) → IsSome blocks
      → StreamsInto s.pool pool blocks (mem_view old) (mem_view new)
      → ((pool : List Bool) (n : ℕ) → All (IsFree pool) (take n (free_numbers pool))) → AreLiveToo
      → ((pool : List Bool) (n : ℕ) → IsApart (take n (free_numbers pool))) → (d : Description) → IsPlain d
      → (digest : List ℕ) (size : ℕ)
      → HasRoom (record s { pool = pool }) (offer_of d) digest (record { length = size; blocks = unwrap_or blocks [] })
      → CanPrepare (record s { pool = pool }) (offer_of d) digest (record { length = size; blocks = unwrap_or blocks [] })
  streamed_can_be_prepared None some stream are-free law are-apart d plain digest size room = absurd (false≢true some)
  streamed_can_be_prepared (Some numbers) some stream are-free law are-apart d plain digest size room =
      can_be_prepared numbers stream are-free law are-apart d plain digest size room
