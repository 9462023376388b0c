-- A content on its way has no say, and what is read leaves of a store.
use Rattle.std.proofs.Common.{◌≡◌, ℕ, ◌*◌, List, Bool, sym, ◌∙◌, ap, subst, Option}
use Rattle.std.specs.Prelude.{All}
use Rattle.std.proofs.lemmas.Bool.{false≢true}
use Rattle.edge_board.specs.Board.{View, Keeps, IsSettled}
use Rattle.edge_board.specs.Runs.{Touches, Spares}
use Rattle.edge_board.proofs.RunLemmas.{keeps_settled, keeps_wider, leaves_weaker}
use Rattle.block_pool.specs.Pools.{IsLive, LiveExactly}
use Rattle.content_stream.specs.Plans.{InFree}
use Rattle.config_table.specs.State.{State}
use Rattle.config_table.specs.Stored.{Stored}
use Rattle.der_core.specs.Items.{HasSequence}
use Rattle.der_core.proofs.Sequences.{has_from_is}
use Rattle.module_record.specs.declared.module.Module.{Module}
use Rattle.module_record.specs.ModuleRecord.{IsModule}
use Rattle.bank_layout.specs.declared.bank.Bank.{Bank}
use Rattle.bank_layout.specs.Manifest.{Manifest, named_blocks}
use Rattle.bank_layout.specs.Changes.{IsUnnamed, LooksAs}
use Rattle.bank_layout.specs.Recovery.{HoldsModule}
use Rattle.module_store.specs.Moments.{Stays}
use Rattle.module_store.specs.Store.{CanRun, IsQuiet, IsStore, IsStoreOf, manifest_of}
use Rattle.module_store.specs.declared.store.Store.{Store}
use Rattle.item_intake.specs.ReadItem.{IsItemRead, IsLast}
use Rattle.item_intake.specs.declared.item.Item.{Item}
use Rattle.item_intake.specs.declared.item.Item.TheVariants as items
use Rattle.load_item.specs.Answers.{StoodWith}

-- ---- free blocks

-- a free block isn't named
free_unnamed : (s : Store) → IsQuiet s → (i : ℕ) → InFree 84 s.pool i → IsUnnamed s.state i
free_unnamed s quiet i (n, free, inside) = (n, inside, λ named. false≢true (sym free.1 ∙ (quiet n).1 named))

module _ (told : Type 0) (s : Store) (a b : View)
    (law : (x y : List ℕ) (m : Module) (running : Option Bank) (manifest : Manifest) → HoldsModule x m running manifest
    → Keeps (IsUnnamed manifest.state) x y → LooksAs x y m running manifest)
    (quiet : IsQuiet s) (holds : IsStoreOf s a.cells) (settled : IsSettled a) (touches : Touches told (InFree 84 s.pool) a b) where
  looks : (image : List ℕ) → Keeps (InFree 84 s.pool) a.cells image
      → LooksAs a.cells image s.module s.running (manifest_of s)
  looks image keeps = law a.cells image s.module s.running (manifest_of s) holds
      (keeps_wider a.cells image (free_unnamed s quiet) keeps)

  -- the store still is what the flash says, at each moment
  pub stays : told → Stays s a b
  stays tells = record {
    now = looks b.cells (touches.cells tells);
    moments = leaves_weaker a b (Spares (InFree 84 s.pool) a)
        (λ image sent. LooksAs a.cells image s.module s.running (manifest_of s) × a.sent sent) (touches.images tells)
        (λ image sent x. (looks image (keeps_settled a image settled x.0), x.1));
  }

-- ---- the store behind the reading

-- with the pool of another store that says the same it is that store
pub stood : (s t : Store) → IsStore s → IsQuiet s → t.module ≡ s.module → t.running ≡ s.running
    → manifest_of t ≡ manifest_of s → StoodWith t s.pool
stood s t valid quiet own runs says = (
  record {
    owner = subst IsModule (sym own) valid.owner;
    manifest = subst (λ (m : Module). CanRun m.capacity t.running (manifest_of t)) (sym own)
        (subst (λ (o : Option Bank). CanRun s.module.capacity o (manifest_of t)) (sym runs)
        (subst (λ (x : Manifest). CanRun s.module.capacity s.running x) (sym says) valid.manifest));
    blocks = valid.blocks ∙ ap (λ (m : Module). 2 * m.capacity) (sym own);
    live = subst (λ (x : State Stored). All (IsLive s.pool) (named_blocks x)) (sym says_state) valid.live;
  },
  subst (λ (x : State Stored). LiveExactly s.pool (named_blocks x)) (sym says_state) quiet,
)
  where
    says_state : t.state ≡ s.state
    says_state = ap (λ (x : Manifest). x.state) says

-- the pool that it was with is its own again
pub stands : (s : Store) (pool : List Bool) → s.pool ≡ pool → StoodWith s pool → IsStore s × IsQuiet s
stands s pool is stood = subst (λ (p : List Bool). StoodWith s p) (sym is) stood

-- ---- the end of the source

-- where no whole SEQUENCE was read, the source has ended
pub last_read : (told : Type 0) (before now : List Bool) (v : View) (left : Option (List ℕ)) (octets : List ℕ) (item : Item)
    → IsItemRead told before now v left octets item → (HasSequence octets → ⊥) → IsLast item
last_read told before now v left octets (items.Whole held) h none = none (has_from_is octets h.sequence)
last_read told before now v left octets items.TooLong h none = none (has_from_is octets h.0)
last_read told before now v left octets items.Unfinished h none = tt
last_read told before now v left octets items.End h none = tt
