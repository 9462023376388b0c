-- The steps of an item over the recovery of the crates below.
use Rattle.std.proofs.Common.{◌≡◌, ℕ, ◌+◌, List, [], ◌∷◌, refl, sym, ◌∙◌, ap, subst, arith, IsTrue}
use Rattle.std.specs.Prelude.{Option, length}
use Rattle.sha2.specs.Sha256.{sha256}
use Rattle.edge_board.specs.Board.{View, Keeps, IsSettled, InBlock}
use Rattle.edge_board.specs.Runs.{LeavesOnly, Touches, Spares}
use Rattle.edge_board.proofs.RunLemmas.{leaves_weaker, keeps_wider, keeps_settled}
use Rattle.key_state.specs.Row.{spent_in, IsUsedUp}
use Rattle.key_state.specs.KeyBlock.{row_of}
use Rattle.lms_sign.specs.PublicKeys.{leaf_count}
use Rattle.module_record.specs.declared.module.Module.{Module}
use Rattle.config_table.specs.State.{Offer, with_package, after_package, offer_of}
use Rattle.config_table.specs.Stored.{Stored}
use Rattle.package_attrs.specs.Description.{Description}
use Rattle.bank_layout.specs.declared.bank.Bank.{Bank}
use Rattle.bank_layout.specs.Changes.{IsUnnamedIn, OldOrNew}
use Rattle.bank_layout.specs.Manifest.{Manifest}
use Rattle.bank_layout.specs.Recovery.{Standing, Recovers, HoldsModule, standing_of, image_octets}
use Rattle.bank_layout.specs.Recovery.Holder.{module_board}
use Rattle.judge_core.specs.Verdicts.{Verdict, accepts}
use Rattle.load_claims.specs.Items.{JudgesAt, after, uses_leaf}
use Rattle.load_claims.specs.Kept.{SameStore}
use Rattle.load_claims.specs.Boards.{LeavesRun, IsInstalled}
use Rattle.load_claims.proofs.Serving.{RowLaws, quiet, installing, full_found}

-- ---- the landed laws, as they are used

abbrev pub LawK : Type 0
LawK = (a b : List ℕ) (m : Module) (standing : Standing) → Recovers a (module_board m standing) → Keeps (IsUnnamedIn m.capacity a) a b → Recovers b (module_board m standing)

abbrev pub RowsApart : Type 0
RowsApart = (a b : List ℕ) (m : Module) (running : Option Bank) (manifest : Manifest) → HoldsModule a m running manifest → Keeps (InBlock 17) a b
    → HoldsModule b m running manifest × (standing_of m manifest b ≡ record (standing_of m manifest a) { row = row_of (leaf_count m.key) b })

abbrev pub Made : Type 0
Made = (a : List ℕ) (m : Module) (manifest next : Manifest) (offer : Offer) (stored : Stored)
    → next ≡ record { sequence = manifest.sequence + 1; state = with_package offer (sha256 (image_octets a stored)) stored manifest.state }
    → standing_of m next a ≡ record {
      sequence = (standing_of m manifest a).sequence + 1;
      state = after_package offer (image_octets a stored) (standing_of m manifest a).state;
      row = (standing_of m manifest a).row;
    }

abbrev with_row : Standing → List ℕ → Standing
with_row s row = record { sequence = s.sequence; state = s.state; row = row }

pub row_laws : RowsApart → RowLaws
row_laws law = record {
  row = λ m image now found. ap (λ (s : Standing). s.row) found.3;
  apart = λ m image other now found keeps.
      let there : HoldsModule other m found.0 found.1 × (standing_of m found.1 other ≡ record (standing_of m found.1 image) { row = row_of (leaf_count m.key) other }) = law image other m found.0 found.1 found.2 keeps in
      (found.0, found.1, there.0, ap (λ (s : Standing). with_row s (row_of (leaf_count m.key) other)) found.3 ∙ sym there.1);
}

-- ---- steps

pub stores : {told : Type 0} → told → LawK → (a b : View) (m : Module) (at : ℕ) (start : Standing) (items : List (List ℕ)) (free : ℕ → Type 0) → IsSettled a → Recovers a.cells (module_board m start)
    → ((i : ℕ) → free i → IsUnnamedIn m.capacity a.cells i) → Touches told free a b → LeavesRun m at start items a b
stores t law a b m at start items free settled found wider touches = quiet m at start items a b
    (leaves_weaker a b (Spares free a) (λ image s. Recovers image (module_board m start) × a.sent s) (touches.images t)
    (λ image s spares. (law a.cells image m start found (keeps_wider a.cells image wider (keeps_settled a image settled spares.0)), spares.1)))

pub stored_found : {told : Type 0} → told → LawK → (a b : View) (m : Module) (start : Standing) (free : ℕ → Type 0) → Recovers a.cells (module_board m start)
    → ((i : ℕ) → free i → IsUnnamedIn m.capacity a.cells i) → Touches told free a b → Recovers b.cells (module_board m start)
stored_found t law a b m start free found wider touches = law a.cells b.cells m start found (keeps_wider a.cells b.cells wider (touches.cells t))

abbrev with_image : Manifest → Offer → Stored → List ℕ → Manifest
with_image manifest offer stored i = record { sequence = manifest.sequence + 1; state = with_package offer (sha256 i) stored manifest.state }

abbrev after_image : Offer → Standing → List ℕ → Standing
after_image offer start i = record { sequence = start.sequence + 1; state = after_package offer i start.state; row = start.row }

module _ (law : Made) (m : Module) (at : ℕ) (item : List ℕ) (described : Description) (content image key_id : List ℕ) (manifest next : Manifest) (stored : Stored) (cells : List ℕ)
    (given : JudgesAt m at (standing_of m manifest cells) item (accepts described content image key_id)) (holds : image_octets cells stored ≡ image)
    (is : next ≡ record { sequence = manifest.sequence + 1; state = with_package (offer_of described) (sha256 image) stored manifest.state }) where
  made : standing_of m next cells ≡ record {
    sequence = (standing_of m manifest cells).sequence + 1;
    state = after_package (offer_of described) image (standing_of m manifest cells).state;
    row = (standing_of m manifest cells).row;
  }
  made = law cells m manifest next (offer_of described) stored (is ∙ ap (λ (i : List ℕ). with_image manifest (offer_of described) stored i) (sym holds)) ∙ ap (after_image (offer_of described) (standing_of m manifest cells)) holds

  made_store : SameStore (standing_of m next cells) (after (standing_of m manifest cells) (accepts described content image key_id))
  made_store = record { sequence = ap (λ (s : Standing). s.sequence) made; state = ap (λ (s : Standing). s.state) made }

  made_row : (standing_of m next cells).row ≡ (standing_of m manifest cells).row
  made_row = refl

  pub installs : (a b : View) → a.cells ≡ cells → LeavesOnly a b (λ i s. OldOrNew cells i m manifest next × a.sent s) → LeavesRun m at (standing_of m manifest cells) (item ∷ []) a b
  installs a b same leaves = installing m at (standing_of m manifest cells) item (accepts described content image key_id) given (standing_of m next cells) a b made_store made_row leaves

  pub is_installed : (b : View) (running : Option Bank) → HoldsModule b.cells m running next → standing_of m next b.cells ≡ standing_of m next cells → IsSettled b
      → IsInstalled m at (standing_of m manifest cells) item (accepts described content image key_id) b
  is_installed b running holds same settled = record {
    given = given;
    standing = standing_of m next cells;
    found = (running, next, holds, sym same);
    store = made_store;
    row = made_row;
    settled = settled;
  }

pub all_spent : RowLaws → (b : View) (m : Module) (at : ℕ) (start : Standing) (item : List ℕ) (verdict : Verdict) → IsTrue (uses_leaf verdict) → IsInstalled m at start item verdict b
    → IsUsedUp (row_of (leaf_count m.key) b.cells) → Recovers b.cells (module_board m (after start verdict))
all_spent laws b m at start item verdict uses installed full =
    let there : start.row ≡ row_of (leaf_count m.key) b.cells = sym installed.row ∙ laws.row m b.cells installed.standing installed.found in
    full_found m at start item verdict installed.given b laws uses installed (omega (arith, full, ap length there, ap spent_in there))

-- where the image is the start's, nothing has begun
pub opens : (a b : View) (m : Module) (at : ℕ) (start : Standing) (items : List (List ℕ)) → Recovers a.cells (module_board m start) → LeavesOnly a b (λ image s. (image ≡ a.cells) × a.sent s) → LeavesRun m at start items a b
opens a b m at start items found leaves = quiet m at start items a b
    (leaves_weaker a b (λ image s. (image ≡ a.cells) × a.sent s) (λ image s. Recovers image (module_board m start) × a.sent s) leaves
    (λ image s both. (subst (λ (l : List ℕ). Recovers l (module_board m start)) (sym both.0) found, both.1)))
