-- What spending a leaf leaves, as a part of the run of a command that signs.
use Rattle.std.proofs.Common.{◌≡◌, ◌∙◌, ◌⊎◌, ℕ, ◌+◌, ◌<◌, ◌≤◌, List, [], length, take, Option}
use Rattle.std.proofs.Common.{refl, sym, subst, ap, inl, inr, ⊎_elim, arith}
use Rattle.std.proofs.lemmas.Bool.{cases_lt}
use Rattle.edge_board.specs.Supply.{Supply}
use Rattle.edge_board.specs.Board.{View, Keeps, Nowhere, IsSettled, IsHonest, cell}
use Rattle.edge_board.specs.Sends.{IsFront}
use Rattle.edge_board.specs.Runs.{Touches}
use Rattle.edge_board.proofs.RunLemmas.{touch_wider}
use Rattle.key_state.specs.Row.{spent_in, IsUsedUp}
use Rattle.key_state.specs.KeyBlock.{row_of, row_start, IsLeafCount, FirstUnspent}
use Rattle.key_state.proofs.Rows.{row_fits, row_length}
use Rattle.lms_sign.specs.declared.key.SignKey.{SignKey}
use Rattle.lms_sign.specs.PublicKeys.{leaf_count}
use Rattle.packager.specs.SigningRuns.{SigningRun, Signs, Output, output_text}
use Rattle.packager.specs.SigningRuns.Output.{Certifies, Packs}
use Rattle.recipe_text.proofs.RecipeLaws.{certificate_has_no_bad_line, package_has_no_bad_line}
use Rattle.module_record.specs.KeyRecord.{BeginsWithKeyRecord}
use Rattle.bank_layout.specs.Layout.{record_start}
use Rattle.bank_layout.specs.Recovery.{HoldsKey}
use Rattle.bank_layout.specs.Recovery.{Holder, Recovers}
use Rattle.bank_layout.specs.Recovery.Holder.{key_board}
use Rattle.lms_verify.specs.declared.kind.LmsKind.{LmsKind}
use Rattle.lms_verify.specs.declared.kind.LmsKind.TheVariants.{H5, H10, H15, H20, H25}
use Rattle.lms_verify.specs.Kinds.{height}
use Rattle.std.proofs.lemmas.List.{ext_get_or}
use Rattle.std.proofs.Common.{◌^◌, drop, length-take, length-drop, get_or-take, get_or-drop}
use Rattle.fwload_top.specs.declared.signing.Product.{Product}
use Rattle.fwload_top.specs.declared.signing.Product.TheVariants.{Certificate, Package}
use Rattle.fwload_top.specs.declared.status.Status.TheVariants.{KeySpent}
use Rattle.fwload_top.specs.BadLine.{line_refused}
use Rattle.fwload_top.specs.Input.{WasRead}
use Rattle.fwload_top.specs.Seen.{seen}
use Rattle.fwload_top.specs.AnswersOnce.{ComesTo, MayRead, CutInAnswer, CutLeaves, AnswersOnce}
use Rattle.fwload_top.specs.Signing.{IsRecipeOf, IsBadAt, IsRecipe, IsNext, SignsNothing, answer, signing}
use Rattle.fwload_top.specs.Signing.Outcome.{no_key, bad_line, all_spent, signed}
use Rattle.fwload_top.proofs.AnswersOnceLemmas.{Quiet, Wrote, Poised, quiet_touched, wrote_before, wrote_unchanged, poised}
use Rattle.fwload_top.proofs.AnswersOnceLemmas.{supplied, has_input, silent_run}

-- the only front of no octets
front_of_none : (s : List ℕ) → IsFront [] s → s ≡ []
front_of_none s front = front.2 ∙ ap (λ (k : ℕ). take {A = ℕ} k []) {x = front.0} {y = 0} (omega (arith, front.1))

-- ---- one key

-- an image is held by one key
abbrev pub HasOneKey : List ℕ → Type 0
HasOneKey image = (first second : SignKey) → HoldsKey image first → HoldsKey image second → first ≡ second

same_key : {k l : SignKey} {row other : List ℕ} → ◌≡◌ {A = Holder} (key_board k row) (key_board l other) → k ≡ l
same_key same = cc

pub one_key : ((image : List ℕ) (first second : Holder) → Recovers image first → Recovers image second → first ≡ second)
    → (image : List ℕ) → HasOneKey image
one_key one image first second holds other =
    same_key (one image (key_board first (row_of (leaf_count first) image))
    (key_board second (row_of (leaf_count second) image)) (holds, refl) (other, refl))

-- a signing key has few leaves
pub few_leaves : (kind : LmsKind) → height kind ≤ 10 → 2 ^ height kind ≤ 1024
few_leaves H5 low = omega arith
few_leaves H10 low = omega arith
few_leaves H15 low = absurd (omega (arith, low))
few_leaves H20 low = absurd (omega (arith, low))
few_leaves H25 low = absurd (omega (arith, low))

-- ---- the record of a key that holds

part_cell : (at n i : ℕ) (l : List ℕ) → i < n → cell (take n (drop at l)) i ≡ cell l (at + i)
part_cell at n i l lt = get_or-take n (drop at l) i 0 lt ∙ get_or-drop at l i 0

part_same : (at n : ℕ) (a b : List ℕ) → length b ≡ length a
    → ((i : ℕ) → i < n → cell b (at + i) ≡ cell a (at + i)) → take n (drop at b) ≡ take n (drop at a)
part_same at n a b size same = ext_get_or 0 (take n (drop at b)) (take n (drop at a))
    (omega (arith, size, length-take n (drop at a), length-drop at a, length-take n (drop at b), length-drop at b))
    (λ i lt.
    let few : i < n = omega (arith, lt, length-take n (drop at b)) in
    part_cell at n i b few ∙ same i few ∙ sym (part_cell at n i a few))

-- positions from the row on have no say in which key holds a board
holds_on : {free : ℕ → Type 0} (key : SignKey) (a b : List ℕ) → HoldsKey a key → ((i : ℕ) → free i → row_start ≤ i)
    → Keeps free a b → HoldsKey b key
holds_on {free} key a b holds behind keeps = record {
  size = omega (arith, holds.size, keeps.size);
  gate = keeps.each 0 (λ in_free. omega (arith, behind 0 in_free)) ∙ holds.gate;
  text = subst (λ (octets : List ℕ). BeginsWithKeyRecord octets key)
      (sym (part_same record_start 65536 a b keeps.size
      (λ i few. keeps.each (record_start + i) (λ in_free. omega (arith, behind (record_start + i) in_free, few))))) holds.text;
}

module _ (p : Product) {tc : Type 0} (start : View) (key : SignKey) (held : tc → HoldsKey start.cells key) where
  pub may_read : MayRead (signing p) tc start
  may_read = (bad_line 0, tt, λ told. (key, held told))

  abbrev next : ℕ
  next = spent_in (row_of (leaf_count key) start.cells)

  module _ {tm : Type 0} (source source' : Supply) (mid : View) (input : List ℕ) (honest : IsHonest tc tm start)
      (room : 18 ≤ start.blocks) (was : WasRead source source' input) (leaves : ℕ) (same : leaves ≡ leaf_count key)
      (touched : Touches tc (FirstUnspent leaves start.cells) start mid) where
    touches : Touches tc (FirstUnspent (leaf_count key) start.cells) start mid
    touches = subst (λ (n : ℕ). Touches tc (FirstUnspent n start.cells) start mid) same touched

    module _ (output : Output) (recipe : IsRecipeOf p input output) where
      comes : (leaf : ℕ) → (tc → leaf ≡ next) → leaf < leaf_count key
          → ComesTo (answer p (signed output key leaf)) tc source.left start.cells start.blocks
      comes leaf first unspent = record {
        cells = λ told. record { holds = held told; first = first told; unspent = unspent };
        blocks = room;
        input = has_input source source' input (λ input. IsRecipeOf p input output) was recipe;
      }

      -- whatever a spend answers
      pub spend_wrote : start.faults ≤ mid.faults → Wrote (signing p) tc tm source.left start mid
      spend_wrote count = elim (cases_lt next (leaf_count key)) [
        | inl unspent ↦ wrote_before (signing p) source.left start mid (signed output key next) honest
            (comes next (λ told. refl) unspent) touches (λ image keeps. keeps) count
        | inr none ↦ wrote_unchanged (signing p) source.left start mid honest
            (touch_wider start mid (λ told i free. absurd (omega (arith, none, free.0))) touches) count
      ]

      -- a leaf was spent
      pub spend_done : (leaf : ℕ) → (tc → leaf ≡ spent_in (row_of leaves start.cells)) → leaf < leaves
          → (tc → cell mid.cells (row_start + leaf) ≡ 0) → (tc → IsSettled mid) → mid.faults ≡ start.faults
          → Poised (signing p) tc tm source source' start mid (signed output key leaf)
      spend_done leaf first unspent blank settled calm = record {
        wrote = spend_wrote (omega (arith, calm));
        comes = comes leaf
            (λ told. first told ∙ ap (λ (n : ℕ). spent_in (row_of n start.cells)) same)
            (omega (arith, unspent, same));
        read = λ is. was.end;
        cells = λ told. (touches.cells told, blank told);
        settled = λ told s. settled told;
        calm = calm;
      }

    -- no leaf was left
    pub none_was_left : ((image : List ℕ) → HasOneKey image) → IsLeafCount leaves → (tc → IsUsedUp (row_of leaves start.cells))
        → IsRecipe p input → mid.faults ≡ start.faults
        → AnswersOnce (signing p) (seen tc tm KeySpent source source' start mid)
    none_was_left one count used recipe calm =
        silent_run (signing p) source source' start mid mid all_spent
        (poised (signing p) source source' start mid all_spent quiet (λ c. refl)
        (record {
          cells = λ told. (
            (key, held told),
            λ other holds. subst (λ (k : SignKey). IsUsedUp (row_of (leaf_count k) start.cells))
                (one start.cells key other (held told) holds)
                (subst (λ (n : ℕ). IsUsedUp (row_of n start.cells)) same (used told)),
          );
          blocks = room;
          input = has_input source source' input (IsRecipe p) was recipe;
        })
        (λ is. was.end)) (supplied source source' start input was may_read) KeySpent tt refl refl
      where
        none_free : tc → (i : ℕ) → FirstUnspent (leaf_count key) start.cells i → Nowhere i
        none_free told i free =
            omega (
              arith,
              subst (λ (n : ℕ). spent_in (row_of n start.cells) < n) (sym same) free.0,
              used told,
              row_length leaves start.cells (row_fits told leaves start honest count room),
            )

        quiet : Quiet tc tm start mid
        quiet = quiet_touched start mid honest (touch_wider start mid none_free touches) calm

-- a key that has a leaf left isn't used up
pub some_left : (cells : List ℕ) (key : SignKey) (leaf : ℕ) → IsNext cells key leaf
    → IsUsedUp (row_of (leaf_count key) cells) → ⊥
some_left cells key leaf next used =
    let few = few_leaves key.kind next.holds.text.0.low in
    let long = row_length (leaf_count key) cells (omega (arith, few, next.holds.size)) in
    omega (arith, next.first, next.unspent, used, long)

-- a recipe has no bad line
pub no_bad_line : (p : Product) (input : List ℕ) (output : Output) (n : ℕ) → IsRecipeOf p input output
    → IsBadAt p input n → ⊥
no_bad_line Certificate input (Certifies plan) n recipe bad = certificate_has_no_bad_line input plan n recipe bad
no_bad_line Certificate input (Packs plan) n recipe bad = recipe
no_bad_line Package input (Certifies plan) n recipe bad = recipe
no_bad_line Package input (Packs plan) n recipe bad = package_has_no_bad_line input plan n recipe bad

-- ---- what a power cut leaves is a signing run

abbrev pub run_of : List ℕ → List ℕ → List ℕ → SigningRun
run_of cells image s = record { start = cells; sent = s; left = image }

module _ (one : (image : List ℕ) → HasOneKey image) (p : Product) {tc : Type 0} (told : tc) (left : Option (List ℕ))
    (cells : List ℕ) (count : ℕ) where
  signs_in : (output : Output) (key : SignKey) (leaf : ℕ) → ComesTo (answer p (signed output key leaf)) tc left cells count
      → (image s : List ℕ) → CutInAnswer (answer p (signed output key leaf)) cells image s
      → Signs key output (run_of cells image s)
  signs_in output key leaf comes image s (inl early) = record {
    leaf = record { kept = early.1; spent = λ some. absurd (omega (arith, some, ap length early.0)) };
    sent = (0, early.0);
  }
  signs_in output key leaf comes image s (inr later) =
      let next = comes.cells told in record {
        leaf = record {
          kept = later.0.0;
          spent = λ some. (
            omega (arith, next.first, next.unspent),
            subst (λ (n : ℕ). cell image (row_start + n) ≡ 0) next.first later.0.1,
          );
        };
        sent = (
          later.1.0,
          later.1.2 ∙ ap (λ (n : ℕ). take later.1.0 (output_text key output n)) next.first,
        );
      }

  nothing_cut : {line : List ℕ} (image s : List ℕ) → (IsFront line s → (s ≡ []) ⊎ ((n : ℕ) × IsFront (line_refused n) s))
      → ((s ≡ []) × (image ≡ cells)) ⊎ ((image ≡ cells) × IsFront line s) → SignsNothing cells image s
  nothing_cut image s front (inl early) = (early.1, inl early.0)
  nothing_cut image s front (inr later) = (later.0, front later.1)

  pub nothing_or_signs : (key : SignKey) → HoldsKey cells key → (image s : List ℕ)
      → CutLeaves (signing p) tc left cells count image s
      → SignsNothing cells image s ⊎ ((output : Output) × Signs key output (run_of cells image s))
  nothing_or_signs key holds image s (inl before) = inl (before.1, inl before.0)
  nothing_or_signs key holds image s (inr (no_key, comes, cut)) =
      inl (nothing_cut image s (λ front. inl (front_of_none s front)) cut)
  nothing_or_signs key holds image s (inr (bad_line n, comes, cut)) =
      inl (nothing_cut image s (λ front. inr (n, front)) cut)
  nothing_or_signs key holds image s (inr (all_spent, comes, cut)) =
      inl (nothing_cut image s (λ front. inl (front_of_none s front)) cut)
  nothing_or_signs key holds image s (inr (signed output other leaf, comes, cut)) =
      let same = one cells other key (comes.cells told).holds holds in
      inr (
        output,
        subst (λ (k : SignKey). Signs k output (run_of cells image s)) same
            (signs_in output other leaf comes image s cut),
      )

  -- the key still holds the board
  pub still_holds : (key : SignKey) → HoldsKey cells key → (image s : List ℕ)
      → CutLeaves (signing p) tc left cells count image s → HoldsKey image key
  still_holds key holds image s cut = ⊎_elim (λ none. subst (λ (c : List ℕ). HoldsKey c key) (sym none.0) holds)
      (λ signs. holds_on key cells image holds (λ i free. omega (arith, free.1)) signs.1.leaf.kept)
      (nothing_or_signs key holds image s cut)

  -- where no key holds the board nothing is signed
  pub signs_nothing : ((key : SignKey) → ¬ HoldsKey cells key) → (image s : List ℕ)
      → CutLeaves (signing p) tc left cells count image s → SignsNothing cells image s
  signs_nothing none image s (inl before) = (before.1, inl before.0)
  signs_nothing none image s (inr (no_key, comes, cut)) =
      nothing_cut image s (λ front. inl (front_of_none s front)) cut
  signs_nothing none image s (inr (bad_line n, comes, cut)) =
      absurd (none (comes.cells told).0 (comes.cells told).1)
  signs_nothing none image s (inr (all_spent, comes, cut)) =
      absurd (none (comes.cells told).0.0 (comes.cells told).0.1)
  signs_nothing none image s (inr (signed output key leaf, comes, cut)) =
      absurd (none key (comes.cells told).holds)
