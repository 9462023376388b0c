-- The end of a content: what is known of it, and its blocks.
use Rattle.std.specs.Prelude.{IfOk, Result, ◌↔◌, ◌⊎◌, Contains}
use Rattle.std.proofs.Common.{◌≡◌, ℕ, zero, suc, ◌<◌, min, List, Bool, true, false, length, take, drop, get_or, Option, Some, sym, ap, subst, ◌∙◌, arith, length-drop, refl, inl, All}
use Rattle.std.proofs.lemmas.List.Elements.{Contains-get_or}
use Rattle.edge_board.specs.Board.{View}
use Rattle.block_pool.specs.Pools.{IsFree, IsLive, free_numbers, marked}
use Rattle.package_attrs.specs.Image.{IsImage}
use Rattle.content_stream.specs.Wraps.{IsWrapSize}
use Rattle.package_attrs.specs.Image.{blocks_for}
use Rattle.content_stream.specs.Plans.{TakesBlocks, image_size}
use Rattle.content_stream.specs.Streams.{IsStreamed, plan_of}
use Rattle.content_stream.specs.declared.content_stream.ContentStream.{ContentStream}
use Rattle.content_stream.specs.declared.content_stream.Streamed.{Streamed}
use Rattle.cms_signed.specs.Outline.{Seen, content_of}
use Rattle.cms_signed.specs.Answer.{FitsCut}
use Rattle.item_intake.specs.declared.inflow.Inflow.{Inflow}
use Rattle.item_intake.specs.Inflows.{Start, Streams, Gathered, IsInflow}
use Rattle.item_intake.specs.declared.fault.TakeFault.{TakeFault}
use Rattle.item_intake.specs.Intakes.{IsOnItsWay}
use Rattle.item_intake.specs.HeldItems.{HoldsContent, HasStreamed}

-- blocks that were taken were free, are live, and to give them undoes to take them
module _ (n : ℕ) (old new : List Bool) (blocks : Option (List ℕ)) (numbers : List ℕ)
    (taken : TakesBlocks n old new blocks) (is : blocks ≡ Some numbers) where
  taken_some : TakesBlocks n old new (Some numbers)
  taken_some = subst (λ (o : Option (List ℕ)). TakesBlocks n old new o) is taken

  taken_free : All (IsFree old) (take n (free_numbers old)) → All (IsFree old) numbers
  taken_free free = subst (λ (l : List ℕ). All (IsFree old) l) (sym taken_some.1) free

  pub taken_live : All (IsFree old) (take n (free_numbers old))
      → ((i : ℕ) → IsLive (marked true numbers old) i
      ↔ ((Contains numbers i × (i < length old)) ⊎ IsLive old i)) → All (IsLive new) numbers
  taken_live free live k d lt =
      subst (λ (pool : List Bool). IsLive pool (get_or numbers k d)) (sym taken_some.2)
      ((live (get_or numbers k d)).1 (inl (Contains-get_or numbers k d lt, (taken_free free k d lt).0)))

  pub taken_given : All (IsFree old) (take n (free_numbers old))
      → (All (IsFree old) numbers → marked false numbers (marked true numbers old) ≡ old)
      → marked false numbers new ≡ old
  taken_given free undo =
      ap (λ (pool : List Bool). marked false numbers pool) taken_some.2 ∙ undo (taken_free free)

module _ {told moments : Type 0} (size : ℕ) (start : Start) (pool : List Bool) (v w : View) (stream : ContentStream)
    (content : List ℕ) (s : Streams told moments size start pool v stream content) (is_whole : length content ≡ size) where
  pub whole_wrap : IsWrapSize (length content) (take 6 content) (plan_of stream).wrap_size
  whole_wrap = subst (λ (n : ℕ). IsWrapSize n (take 6 content) (plan_of stream).wrap_size) (sym is_whole) s.plan.wrap

  pub holds_content : (streamed : Streamed) → IsImage content (drop (plan_of stream).wrap_size content)
      → IsStreamed told (plan_of stream).base content (drop (plan_of stream).wrap_size content) w streamed
      → streamed.blocks ≡ (plan_of stream).blocks → HoldsContent told start.pool pool w content streamed
  holds_content streamed image is blocks = record {
    image = drop (plan_of stream).wrap_size content;
    image_is = image;
    streamed_is = subst (λ (b : ℕ). IsStreamed told b content (drop (plan_of stream).wrap_size content) w streamed)
        s.plan.same_base is;
    taken = subst (λ (o : Option (List ℕ)). TakesBlocks
        (blocks_for (length (drop (plan_of stream).wrap_size content))) start.pool pool o) (sym blocks)
        (subst (λ (n : ℕ). TakesBlocks (blocks_for n) start.pool pool (plan_of stream).blocks) same s.plan.taken);
  }
    where
      same : image_size (plan_of stream) ≡ length (drop (plan_of stream).wrap_size content)
      same = omega (arith, length-drop (plan_of stream).wrap_size content, s.plan.same_size)

-- the same pool at the start, and the same octets
pub holds_same : (told : Type 0) (before before' pool : List Bool) (w : View) (content content' : List ℕ) (streamed : Streamed)
    → before ≡ before' → content ≡ content' → HoldsContent told before pool w content streamed
    → HoldsContent told before' pool w content' streamed
holds_same told before before' pool w content content' streamed same text h =
    subst (λ (x : List Bool). HoldsContent told x pool w content' streamed) same
    (subst (λ (x : List ℕ). HoldsContent told before pool w x streamed) text h)

-- a content of an item that has come whole
pub held_whole : (told moments : Type 0) (start : Start) (pool : List Bool) (v : View) (inflow : Inflow) (outline : Seen)
    (item : List ℕ) (place size : ℕ) → outline.cut ≡ Some (place, size) → FitsCut outline.cut (content_of outline.cut item)
    → IsOnItsWay told moments start pool v inflow outline.cut (content_of outline.cut item)
    → IsInflow told moments size start pool v inflow (content_of outline.cut item)
    × (length (content_of outline.cut item) ≡ size)
held_whole told moments start pool v inflow outline item place size is whole held =
    let fits = subst (λ (o : Option (ℕ × ℕ)). FitsCut o (content_of o item)) is whole in
    let content = ap (λ (o : Option (ℕ × ℕ)). content_of o item) is in (
      subst (λ (l : List ℕ). IsInflow told moments size start pool v inflow l) (sym content)
          (subst (λ (o : Option (ℕ × ℕ)). IsOnItsWay told moments start pool v inflow o (content_of o item)) is held),
      ap length content ∙ fits,
    )

pub has_streamed : (told : Type 0) (before now : List Bool) (v : View) (cut : Option (ℕ × ℕ)) (content : List ℕ)
    (streamed : Streamed) (place size : ℕ) → cut ≡ Some (place, size) → HoldsContent told before now v content streamed
    → HasStreamed told before now v cut content (Some streamed)
has_streamed told before now v cut content streamed place size is h =
    subst (λ (o : Option (ℕ × ℕ)). HasStreamed told before now v o content (Some streamed)) (sym is) h

-- a content that is gathered whole has no octet
pub gathered_empty : (told : Type 0) (size : ℕ) (start : Start) (pool : List Bool) (v : View) (front content : List ℕ)
    → Gathered told size start pool v front content → length content ≡ size → length content ≡ 0
gathered_empty told size start pool v front content x is = by_length (length content) x.few is
  where
    by_length : (n : ℕ) → (0 < n → n < min 6 size) → n ≡ size → n ≡ 0
    by_length zero few is = refl
    by_length (suc n) few is = absurd (omega (arith, few (omega arith), is))

pub holds_all : (told : Type 0) (before before' pool : List Bool) (w : View) (content content' : List ℕ)
    (result : Result Streamed TakeFault) → before ≡ before' → content ≡ content'
    → IfOk result (HoldsContent told before pool w content) → IfOk result (HoldsContent told before' pool w content')
holds_all told before before' pool w content content' result same text h =
    subst (λ (x : List Bool). IfOk result (HoldsContent told x pool w content')) same
    (subst (λ (x : List ℕ). IfOk result (HoldsContent told before pool w x)) text h)
