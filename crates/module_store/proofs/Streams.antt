-- Calls that have no say in what the flash of a store recovers to.
use Rattle.std.proofs.Common.{ℕ, Bool, List, sym, ◌∙◌, subst}
use Rattle.std.specs.Prelude.{All, Contains, Option}
use Rattle.std.proofs.lemmas.Bool.{false≢true}
use Rattle.edge_board.specs.Board.{View, Keeps, IsSettled}
use Rattle.edge_board.specs.Runs.{Spares, Touches}
use Rattle.edge_board.proofs.RunLemmas.{keeps_settled, keeps_wider, leaves_weaker}
use Rattle.block_pool.specs.Pools.{IsLive}
use Rattle.content_stream.specs.Plans.{Plan, InFree, InStream}
use Rattle.module_record.specs.declared.module.Module.{Module}
use Rattle.bank_layout.specs.declared.bank.Bank.{Bank}
use Rattle.bank_layout.specs.Layout.{first_image_block}
use Rattle.bank_layout.specs.Changes.{IsUnnamed, LooksAs}
use Rattle.bank_layout.specs.Manifest.{Manifest, named_blocks}
use Rattle.bank_layout.specs.Recovery.{HoldsModule}
use Rattle.module_store.specs.declared.store.Store.{Store}
use Rattle.module_store.specs.Moments.{Stays}
use Rattle.module_store.specs.Store.{IsStore, IsStoreOf, manifest_of}

named_is_live : (pool : List Bool) (named : List ℕ) → All (IsLive pool) named → (n : ℕ) → Contains named n → IsLive pool n
named_is_live pool named live n (k, lt, is) = subst (λ (x : ℕ). IsLive pool x) is (live k n lt)

-- the state names no free block
pub unnamed : (s : Store) (plan : Plan) → IsStore s → ((i : ℕ) → InStream plan i → InFree first_image_block s.pool i)
    → (i : ℕ) → InStream plan i → IsUnnamed s.state i
unnamed s plan valid free i inside =
    let f = free i inside in
    (f.0, f.2, λ named. false≢true (sym f.1.1 ∙ named_is_live s.pool (named_blocks s.state) valid.live f.0 named))

-- what changes where the state names nothing has no say
pub stays : {told : Type 0} {free : ℕ → Type 0} → told → (s : Store) (old new : View) → IsStoreOf s old.cells
    → IsSettled old → ((i : ℕ) → free i → IsUnnamed s.state i)
    → ((a b : List ℕ) (m : Module) (running : Option Bank) (manifest : Manifest) → HoldsModule a m running manifest
    → Keeps (IsUnnamed manifest.state) a b → LooksAs a b m running manifest)
    → Touches told free old new → Stays s old new
stays {told} {free} t s old new holds settled outside law touches = record {
  now = law old.cells new.cells s.module s.running (manifest_of s) holds
      (keeps_wider old.cells new.cells outside (touches.cells t));
  moments = leaves_weaker old new (Spares free old)
      (λ image q. LooksAs old.cells image s.module s.running (manifest_of s) × old.sent q) (touches.images t)
      (λ image q spares. (
        law old.cells image s.module s.running (manifest_of s) holds
            (keeps_wider old.cells image outside (keeps_settled old image settled spares.0)),
        spares.1,
      ));
}
