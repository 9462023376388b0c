-- An item that is held, from its reading to its answer.
use Rattle.std.proofs.Common.{◌≡◌, ◌⊎◌, inl, ℕ, ◌+◌, ◌<◌, ◌^◌, List, [], length, take, get_or, refl, sym, ◌∙◌, ap, subst, Bool, true, false, Option, Some, None, unwrap_or}
use Rattle.std.specs.Prelude.{◌↔◌, All, Contains, IsSome}
use Rattle.std.proofs.lemmas.List.Elements.{Contains-get_or}
use Rattle.std.proofs.lemmas.Bool.{false≢true}
use Rattle.sha2.specs.Sha256.{sha256}
use Rattle.sha2.proofs.Facts256.{length-sha256}
use Rattle.edge_board.specs.Board.{View}
use Rattle.block_pool.specs.Pools.{IsFree, IsLive, free_numbers, marked}
use Rattle.config_table.specs.State.{Offer, offer_of}
use Rattle.config_table.specs.Stored.{lengths}
use Rattle.cms_signed.specs.Outline.{content_of}
use Rattle.content_stream.specs.ImageBlocks.{image_at}
use Rattle.content_stream.specs.Plans.{TakesBlocks}
use Rattle.content_stream.specs.declared.content_stream.Streamed.{Streamed}
use Rattle.package_attrs.specs.Description.{Description}
use Rattle.package_attrs.specs.Image.{IsImage, blocks_for}
use Rattle.bank_layout.specs.Recovery.{image_octets}
use Rattle.judge_core.specs.Installing.{CanInstall}
use Rattle.judge_core.specs.Verdicts.{Bench, Judges, accepts, bench}
use Rattle.module_store.specs.declared.store.Store.{Store}
use Rattle.module_store.specs.Room.{HasRoomFor, IsOffer}
use Rattle.module_store.specs.Store.{CanPrepare, IsQuiet, IsStore}
use Rattle.item_intake.specs.HeldItems.{HasStreamed, HoldsContent, IsHeldItem}
use Rattle.item_intake.specs.declared.item.Held.{Held}
use Rattle.load_item.specs.Answers.{GivesBack, StoodWith}
use Rattle.load_item.specs.Judged.{IsContentOf, IsOutlineOf, KnowsContent, MatchesContent}

-- ---- what is known of it

-- what was read of an item is enough to judge it
pub outline_known : (told : Type 0) (before now : List Bool) (v : View) (held : Held) (octets : List ℕ)
    → IsHeldItem told before now v held octets → IsOutlineOf held.outline held.streamed octets
outline_known told before now v held octets h = record {
  sequence = h.sequence;
  are = h.are;
  sees = h.sees;
  knows = by_cut held.outline.cut held.streamed (content_of held.outline.cut octets) h.streamed;
}
  where
    by_cut : (o : Option (ℕ × ℕ)) (s : Option Streamed) (content : List ℕ) → HasStreamed told before now v o content s
        → KnowsContent o content s
    by_cut None None content x = tt
    by_cut None (Some s) content x = absurd x
    by_cut (Some c) None content x = absurd x
    by_cut (Some c) (Some s) content x = (
      x.image,
      record {
        content_digest = x.streamed_is.content_digest;
        image_digest = x.streamed_is.image_digest;
        size = x.streamed_is.size;
        image_is = x.image_is;
      },
    )

pub gives_back : (told : Type 0) (before now : List Bool) (v : View) (cut : Option (ℕ × ℕ)) (content : List ℕ)
    (streamed : Option Streamed) → HasStreamed told before now v cut content streamed → GivesBack before now streamed
gives_back told before now v None content None h = h
gives_back told before now v None content (Some s) h = absurd h
gives_back told before now v (Some c) content None h = absurd h
gives_back told before now v (Some c) content (Some s) h = (blocks_for (length h.image), h.taken)

pub some_of : {X : Type 0} (o : Option X) → IsSome o → (x : X) × (o ≡ Some x)
some_of None some = absurd (false≢true some)
some_of (Some x) some = (x, refl)

there : {X : Type 0} (o : Option X) (d : X) → IsSome o → o ≡ Some (unwrap_or o d)
there None d some = absurd (false≢true some)
there (Some x) d some = refl

-- ---- its blocks

-- Blocks that were taken are live, and where they are given back the pool is as before
module _ (free : (pool : List Bool) (n : ℕ) → All (IsFree pool) (take n (free_numbers pool)))
    (marks : (pool : List Bool) (numbers : List ℕ) (n : ℕ) → IsLive (marked true numbers pool) n
    ↔ ((Contains numbers n × (n < length pool)) ⊎ IsLive pool n))
    (undoes : (pool : List Bool) (numbers : List ℕ) → All (IsFree pool) numbers
    → marked false numbers (marked true numbers pool) ≡ pool)
    (n : ℕ) (before now : List Bool) (numbers : List ℕ) (taken : TakesBlocks n before now (Some numbers)) where
  were_free : All (IsFree before) numbers
  were_free = subst (λ (l : List ℕ). All (IsFree before) l) (sym taken.1) (free before n)

  pub taken_live : All (IsLive now) numbers
  taken_live k d lt = subst (λ (p : List Bool). IsLive p (get_or numbers k d)) (sym taken.2)
      ((marks before numbers (get_or numbers k d)).1 (inl (Contains-get_or numbers k d lt, (were_free k d lt).0)))

  pub taken_given : marked false numbers now ≡ before
  taken_given = ap (λ (p : List Bool). marked false numbers p) taken.2 ∙ undoes before numbers were_free

-- ---- it is accepted

-- the image of the verdict stands in the blocks that were taken
module _ (one : (content these those : List ℕ) → IsImage content these → IsImage content those → these ≡ those)
    (told : Type 0) (before now : List Bool) (v : View) (come content image : List ℕ) (s : Streamed) where
  known : (cut : Option (ℕ × ℕ)) → IsSome cut → MatchesContent cut come content image (Some s)
      → (content ≡ come) × IsContentOf content image s
  known None some m = absurd (false≢true some)
  known (Some c) some m = m

  holds : (cut : Option (ℕ × ℕ)) → HasStreamed told before now v cut come (Some s) → HoldsContent told before now v come s
  holds None h = absurd h
  holds (Some c) h = h

  same_image : (cut : Option (ℕ × ℕ)) (some : IsSome cut) (h : HoldsContent told before now v come s)
      → MatchesContent cut come content image (Some s) → h.image ≡ image
  same_image cut some h m =
      let k = known cut some m in
      one come h.image image h.image_is (subst (λ (l : List ℕ). IsImage l image) k.0 k.1.image_is)

  pub digest_is : (cut : Option (ℕ × ℕ)) → IsSome cut → MatchesContent cut come content image (Some s)
      → s.image_digest ≡ sha256 image
  digest_is cut some m = (known cut some m).1.image_digest

  pub length_is : (cut : Option (ℕ × ℕ)) → IsSome cut → MatchesContent cut come content image (Some s)
      → s.length ≡ length image
  length_is cut some m = (known cut some m).1.size

  pub takes : (cut : Option (ℕ × ℕ)) → IsSome cut → HasStreamed told before now v cut come (Some s)
      → MatchesContent cut come content image (Some s) → TakesBlocks (blocks_for (length image)) before now s.blocks
  takes cut some h m =
      let k = holds cut h in
      subst (λ (l : List ℕ). TakesBlocks (blocks_for (length l)) before now s.blocks) (same_image cut some k m) k.taken

  pub image_there : (cut : Option (ℕ × ℕ)) → IsSome cut → HasStreamed told before now v cut come (Some s)
      → MatchesContent cut come content image (Some s) → IsSome s.blocks → told
      → image_octets v.cells (record { length = s.length; blocks = unwrap_or s.blocks [] }) ≡ image
  image_there cut some h m blocks tells =
      let k = holds cut h in
      let same : k.image ≡ image = same_image cut some k m in
      let numbers : List ℕ = unwrap_or s.blocks [] in
      subst (λ (n : ℕ). image_at 84 numbers n v.cells ≡ image) (sym k.streamed_is.size)
      (subst (λ (l : List ℕ). image_at 84 numbers (length k.image) v.cells ≡ l) same
      (k.streamed_is.reads tells numbers (there s.blocks [] blocks) v.cells (record { size = refl; each = λ i free. refl })))

-- there is room for what is accepted
has_room : (b : Bench) (described : Description) (image : List ℕ) → CanInstall b (offer_of described) image
    → HasRoomFor b.holder.capacity (offer_of described) (sha256 image) (length image) b.state
has_room b described image can = record {
  some = can.some;
  blocks = can.fit;
  packages = can.packages;
  stale = can.stale;
}

offered : (b : Bench) (described : Description) (image : List ℕ) → CanInstall b (offer_of described) image
    → IsOffer (offer_of described)
offered b described image can = record {
  name = can.name;
  makes_stale = can.makes_stale;
  kind = can.kind;
  needs = can.needs;
  few_needs = can.few_needs;
}

-- the laws of a package that is accepted
pub record Ready : Type 0 where
  pub can : (b : Bench) (item : List ℕ) (described : Description) (content image key_id : List ℕ)
      → Judges b item (accepts described content image key_id) → CanInstall b (offer_of described) image
  pub blocks : (s : Store) (offer : Offer) (digest : List ℕ) (size : ℕ) (pool : List Bool) → IsStore s → IsQuiet s
      → HasRoomFor s.module.capacity offer digest size (lengths s.state) → ¬ TakesBlocks (blocks_for size) s.pool pool None
  pub ready : (s : Store) (offer : Offer) (digest : List ℕ) (size : ℕ) (pool : List Bool) (numbers : List ℕ) → IsStore s
      → IsQuiet s → IsOffer offer → length digest ≡ 32 → HasRoomFor s.module.capacity offer digest size (lengths s.state)
      → s.sequence + 1 < 2 ^ 64 → TakesBlocks (blocks_for size) s.pool pool (Some numbers)
      → CanPrepare (record s { pool = pool }) offer digest (record { length = size; blocks = numbers })

-- an accepted item has found its blocks, and can be prepared
module _ (laws : Ready) (s : Store) (before : List Bool) (stood : StoodWith s before) (at : ℕ) (item : List ℕ)
    (described : Description) (content image key_id : List ℕ)
    (judges : Judges (bench s.module s.state s.sequence at) item (accepts described content image key_id)) where
  install : CanInstall (bench s.module s.state s.sequence at) (offer_of described) image
  install = laws.can (bench s.module s.state s.sequence at) item described content image key_id judges

  room : HasRoomFor s.module.capacity (offer_of described) (sha256 image) (length image) (lengths s.state)
  room = has_room (bench s.module s.state s.sequence at) described image install

  found : (o : Option (List ℕ)) → TakesBlocks (blocks_for (length image)) before s.pool o
      → IsSome o × CanPrepare s (offer_of described) (sha256 image) (record { length = length image; blocks = unwrap_or o [] })
  found None t = absurd (laws.blocks (record s { pool = before }) (offer_of described) (sha256 image) (length image) s.pool
      stood.0 stood.1 room t)
  found (Some numbers) t = (
    refl,
    laws.ready (record s { pool = before }) (offer_of described) (sha256 image) (length image) s.pool numbers
        stood.0 stood.1 (offered (bench s.module s.state s.sequence at) described image install) (length-sha256 image) room
        install.sequence t,
  )

  pub accepted_ready : (streamed : Streamed) → TakesBlocks (blocks_for (length image)) before s.pool streamed.blocks
      → streamed.image_digest ≡ sha256 image → streamed.length ≡ length image
      → IsSome streamed.blocks × CanPrepare s (offer_of described) streamed.image_digest
      (record { length = streamed.length; blocks = unwrap_or streamed.blocks [] })
  accepted_ready streamed taken digest size =
      subst (λ (l : List ℕ). IsSome streamed.blocks × CanPrepare s (offer_of described) l
      (record { length = streamed.length; blocks = unwrap_or streamed.blocks [] })) (sym digest)
      (subst (λ (n : ℕ). IsSome streamed.blocks × CanPrepare s (offer_of described) (sha256 image)
      (record { length = n; blocks = unwrap_or streamed.blocks [] })) (sym size) (found streamed.blocks taken))
