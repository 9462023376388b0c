-- What a change of an image does to what it recovers to.
use Rattle.std.proofs.Common.{◌≡◌, ◌⊎◌, inl, inr, ℕ, ◌+◌, ◌*◌, ◌<◌, ◌≤◌, List, length, Option, Some, None, ◌∙◌, sym, ap, subst, arith}
use Rattle.std.specs.Prelude.{Contains}
use Rattle.std.proofs.lemmas.Bool.{cases_eq}
use Rattle.sha2.specs.Sha256.{sha256}
use Rattle.edge_board.specs.Board.{Keeps, InBlock, cell}
use Rattle.edge_board.proofs.RunLemmas.{keeps_wider}
use Rattle.bank_gate.specs.States.{IsOpen}
use Rattle.key_state.specs.KeyBlock.{row_of}
use Rattle.lms_sign.specs.PublicKeys.{leaf_count}
use Rattle.config_table.specs.State.{Offer, with_package, after_package}
use Rattle.config_table.specs.Stored.{Stored}
use Rattle.config_table.proofs.StateLemmas.{with_package-state_with}
use Rattle.bank_layout.specs.declared.bank.Bank.{Bank}
use Rattle.bank_layout.specs.Layout.{other, gate_block, manifest_start, place_of, manifest_octets, image_block, InBank}
use Rattle.bank_layout.specs.declared.bank.Bank.TheVariants as banks
use Rattle.bank_layout.specs.Manifest.{Manifest, named_blocks, BeginsWithManifest}
use Rattle.module_record.specs.declared.module.Module.{Module}
use Rattle.module_record.specs.ModuleRecord.{BeginsWithModuleRecord}
use Rattle.bank_layout.specs.Recovery.{IsOver, Runs, IsInForce, image_octets, Standing, standing_of, HoldsModule, Recovers}
use Rattle.bank_layout.specs.Changes.{IsUnnamed, IsUnnamedIn, spare, LooksAs, OldOrNew}
use Rattle.bank_layout.specs.Recovery.Holder.{module_board}
use Rattle.bank_layout.proofs.Parts.{kept_part, SameHead, same_head, same_row, SameBank, same_bank, same_block, state_same}

-- ---- banks

module _ (capacity : ℕ) (a b : List ℕ) where
  over_too : (bank : Bank) (m : Manifest) → SameBank bank a b → IsOver capacity a bank m → IsOver capacity b bank m
  over_too bank m same over = record {
    gate = same.gate ∙ over.gate;
    text = subst (λ (l : List ℕ). BeginsWithManifest capacity l m) (sym same.octets) over.text;
  }

  -- An open gate in b was open in a, over the same octets.
  abbrev OpenAsBefore : Bank → Type 0
  OpenAsBefore bank = IsOpen (place_of bank) b → IsOpen (place_of bank) a × (manifest_octets bank b ≡ manifest_octets bank a)

  runs_too : (bank : Bank) (m : Manifest) → SameBank bank a b → OpenAsBefore (other bank) → Runs capacity a bank m
      → Runs capacity b bank m
  runs_too bank m same was runs = record {
    over = over_too bank m same runs.over;
    before = λ opens.
        let back = was opens in
        let found = runs.before back.0 in (
          found.0,
          record {
            gate = opens;
            text = subst (λ (l : List ℕ). BeginsWithManifest capacity l found.0) (sym back.1) found.1.text;
          },
          found.2,
        );
  }

  -- where the bank that isn't the spare is the same, and the spare's gate is open only where it was
  pub installed_too : (running : Option Bank) (m : Manifest) → SameBank (other (spare running)) a b
      → OpenAsBefore (spare running) → IsInForce capacity a running m → IsInForce capacity b running m
  installed_too None m same was none = (shut, none.1)
    where
      shut : (bank : Bank) → ¬ IsOpen (place_of bank) b
      shut banks.Zero opens = none.0 banks.Zero (was opens).0
      shut banks.One opens = none.0 banks.One (sym same.gate ∙ opens)
  installed_too (Some banks.Zero) m same was runs = runs_too banks.Zero m same was runs
  installed_too (Some banks.One) m same was runs = runs_too banks.One m same was runs

  -- where the spare's gate is open over the next manifest
  pub next_runs : (running : Option Bank) (m next : Manifest) → SameBank (other (spare running)) a b
      → IsInForce capacity a running m → IsOver capacity b (spare running) next
      → next.sequence ≡ m.sequence + 1 → Runs capacity b (spare running) next
  next_runs None m next same none over is = record {
    over = over;
    before = λ opens. absurd (none.0 banks.One (sym same.gate ∙ opens));
  }
  next_runs (Some banks.Zero) m next same runs over is = record {
    over = over;
    before = λ opens. (m, over_too banks.Zero m same runs.over, omega (arith, is));
  }
  next_runs (Some banks.One) m next same runs over is = record {
    over = over;
    before = λ opens. (m, over_too banks.One m same runs.over, omega (arith, is));
  }

open_as_before : (capacity : ℕ) (a b : List ℕ) (bank : Bank) → SameBank bank a b → OpenAsBefore capacity a b bank
open_as_before capacity a b bank same opens = (sym same.gate ∙ opens, same.octets)

-- ---- modules

module _ (a b : List ℕ) (m : Module) where
  standing_same : (manifest : Manifest)
      → ((n : ℕ) → Contains (named_blocks manifest.state) n → image_block n b ≡ image_block n a)
      → row_of (leaf_count m.key) b ≡ row_of (leaf_count m.key) a
      → standing_of m manifest b ≡ standing_of m manifest a
  standing_same manifest blocks row = λ i. record {
    sequence = manifest.sequence;
    state = state_same a b manifest.state blocks i;
    row = row i;
  }

  head_too : (running new_running : Option Bank) (manifest new : Manifest) → SameHead a b
      → HoldsModule a m running manifest → IsInForce m.capacity b new_running new
      → HoldsModule b m new_running new
  head_too running new_running manifest new same holds installed = record {
    size = omega (arith, same.size, holds.size);
    gate = same.gate ∙ holds.gate;
    text = subst (λ (l : List ℕ). BeginsWithModuleRecord l m) (sym same.octets) holds.text;
    in_force = installed;
  }

-- the positions of a bank are behind the row and before the image blocks
bank_low : (bank : Bank) (i : ℕ) → InBank bank i → (73728 ≤ i) × (i < 344064)
bank_low banks.Zero i inside = (omega (arith, inside.0), omega (arith, inside.1))
bank_low banks.One i inside = (omega (arith, inside.0), omega (arith, inside.1))

-- and not those of the other bank
banks_apart : (bank : Bank) (i : ℕ) → InBank (other bank) i → InBank bank i → ⊥
banks_apart banks.Zero i there here = omega (arith, there.0, here.1)
banks_apart banks.One i there here = omega (arith, there.1, here.0)

-- ---- image blocks that aren't named

module _ (a b : List ℕ) (m : Module) (running : Option Bank) (manifest : Manifest)
    (holds : HoldsModule a m running manifest) (keeps : Keeps (IsUnnamed manifest.state) a b) where
  unnamed_high : (i : ℕ) → i < 344064 → IsUnnamed manifest.state i → ⊥
  unnamed_high i lt (n, inside, _) = omega (arith, lt, inside.0)

  all_same : (bank : Bank) → SameBank bank a b
  all_same bank = same_bank bank a b keeps (λ i inside. unnamed_high i (bank_low bank i inside).1)

  named_kept : (n : ℕ) → Contains (named_blocks manifest.state) n → image_block n b ≡ image_block n a
  named_kept n named = same_block n a b keeps (λ i inside free.
      let (k, within, unnamed) = free in
      let same : k ≡ n = omega (arith, inside.0, inside.1, within.0, within.1) in
      unnamed (subst (λ (x : ℕ). Contains (named_blocks manifest.state) x) (sym same) named))

  pub unnamed_say_nothing : LooksAs a b m running manifest
  unnamed_say_nothing = (
    head_too a b m running running manifest manifest
        (same_head a b keeps (λ i lt. unnamed_high i (omega (arith, lt)))) holds
        (installed_too m.capacity a b running manifest (all_same (other (spare running)))
        (open_as_before m.capacity a b (spare running) (all_same (spare running))) holds.in_force),
    standing_same a b m manifest named_kept
        (same_row m.key.kind m.key.low a b keeps (λ i inside. unnamed_high i (omega (arith, inside.1)))),
  )

-- what no running manifest names, the one that runs doesn't
pub unnamed_in : (capacity : ℕ) (image : List ℕ) (running : Option Bank) (manifest : Manifest)
    → IsInForce capacity image running manifest → (i : ℕ) → IsUnnamedIn capacity image i → IsUnnamed manifest.state i
unnamed_in capacity image None manifest none i (n, inside, unnamed) = (
  n,
  inside,
  λ named. absurd (omega (arith, named.1, ap (λ (x : Manifest). length (named_blocks x.state)) none.1)),
)
unnamed_in capacity image (Some bank) manifest runs i (n, inside, unnamed) = (n, inside, unnamed bank manifest runs)

-- ---- the spare bank

module _ (a b : List ℕ) (m : Module) (running : Option Bank) (manifest : Manifest)
    (holds : HoldsModule a m running manifest) (keeps : Keeps (InBank (spare running)) a b) where
  kept : SameBank (other (spare running)) a b
  kept = same_bank (other (spare running)) a b keeps (banks_apart (spare running))

  head : SameHead a b
  head = same_head a b keeps (λ i lt inside. omega (arith, lt, (bank_low (spare running) i inside).0))

  pub standing_kept : (any : Manifest) → standing_of m any b ≡ standing_of m any a
  standing_kept any = standing_same a b m any
      (λ n _. same_block n a b keeps
      (λ i there inside. omega (arith, there.0, (bank_low (spare running) i inside).1)))
      (same_row m.key.kind m.key.low a b keeps
      (λ i there inside. omega (arith, there.1, (bank_low (spare running) i inside).0)))

  pub as_before : OpenAsBefore m.capacity a b (spare running) → LooksAs a b m running manifest
  as_before was = (
    head_too a b m running running manifest manifest head holds
        (installed_too m.capacity a b running manifest kept was holds.in_force),
    standing_kept manifest,
  )

  pub while_shut : ¬ IsOpen (place_of (spare running)) b → LooksAs a b m running manifest
  while_shut shut = as_before (λ opens. absurd (shut opens))

  pub once_open : (next : Manifest) → IsOver m.capacity b (spare running) next
      → next.sequence ≡ manifest.sequence + 1
      → HoldsModule b m (Some (spare running)) next × (standing_of m next b ≡ standing_of m next a)
  once_open next over is = (
    head_too a b m running (Some (spare running)) manifest next head holds
        (next_runs m.capacity a b running manifest next kept holds.in_force over is),
    standing_kept next,
  )

  -- where the spare's gate is open over what it was open over, or over the next manifest
  pub old_or_new : (next : Manifest)
      → (IsOpen (place_of (spare running)) b
      → (IsOpen (place_of (spare running)) a × (manifest_octets (spare running) b ≡ manifest_octets (spare running) a))
      ⊎ BeginsWithManifest m.capacity (manifest_octets (spare running) b) next)
      → next.sequence ≡ manifest.sequence + 1 → OldOrNew a b m manifest next
  old_or_new next over is = elim (cases_eq (cell b (4096 * gate_block (spare running))) 15) [
    | inr shut ↦ old (λ opens. absurd (shut opens))
    | inl opens ↦ elim (over opens) [
      | inl was ↦ old (λ _. was)
      | inr text ↦
          let new = once_open next (record { gate = opens; text = text }) is in
          inr (Some (spare running), next, new.0, sym new.1)
    ]
  ]
    where
      old : OpenAsBefore m.capacity a b (spare running) → OldOrNew a b m manifest next
      old was = let same = as_before was in inl (running, manifest, same.0, sym same.1)

-- closing
pub while_closing : (a b : List ℕ) (m : Module) (running : Option Bank) (manifest : Manifest)
    → HoldsModule a m running manifest → Keeps (InBlock (gate_block (spare running))) a b
    → (IsOpen (place_of (spare running)) b → IsOpen (place_of (spare running)) a) → LooksAs a b m running manifest
while_closing a b m running manifest holds keeps was =
    let wide : Keeps (InBank (spare running)) a b = record {
      size = keeps.size;
      each = λ i out. keeps.each i (λ inside. out (inside.0, omega (arith, inside.1)));
    } in
    as_before a b m running manifest holds wide (λ opens. (
      was opens,
      kept_manifest keeps,
    ))
  where
    kept_manifest : Keeps (InBlock (gate_block (spare running))) a b
        → manifest_octets (spare running) b ≡ manifest_octets (spare running) a
    kept_manifest keeps = kept_part (manifest_start (spare running)) 131072 a b keeps
        (λ i lt inside. omega (arith, inside.1))

-- ---- the row

pub row_alone : (a b : List ℕ) (m : Module) (running : Option Bank) (manifest : Manifest)
    → HoldsModule a m running manifest → Keeps (InBlock 17) a b
    → HoldsModule b m running manifest
    × (standing_of m manifest b ≡ record (standing_of m manifest a) { row = row_of (leaf_count m.key) b })
row_alone a b m running manifest holds keeps = (
  head_too a b m running running manifest manifest
      (same_head a b keeps (λ i lt inside. omega (arith, lt, inside.0))) holds
      (installed_too m.capacity a b running manifest (banks (other (spare running)))
      (open_as_before m.capacity a b (spare running) (banks (spare running))) holds.in_force),
  λ i. record {
    sequence = manifest.sequence;
    state = state_same a b manifest.state
        (λ n _. same_block n a b keeps (λ j there inside. omega (arith, there.0, inside.1))) i;
    row = row_of (leaf_count m.key) b;
  },
)
  where
    banks : (bank : Bank) → SameBank bank a b
    banks bank = same_bank bank a b keeps
        (λ i there inside. omega (arith, inside.1, (bank_low bank i there).0))

-- ---- an install

-- the next manifest's state is the old one with the package: so is what is found
pub next_standing : (a : List ℕ) (m : Module) (manifest next : Manifest) (offer : Offer) (stored : Stored)
    → next ≡ record {
      sequence = manifest.sequence + 1;
      state = with_package offer (sha256 (image_octets a stored)) stored manifest.state;
    }
    → standing_of m next a ≡ record {
      sequence = manifest.sequence + 1;
      state = after_package offer (image_octets a stored) (standing_of m manifest a).state;
      row = row_of (leaf_count m.key) a;
    }
next_standing a m manifest next offer stored is =
    ap (λ (x : Manifest). standing_of m x a) is
    ∙ (λ i. record {
      sequence = manifest.sequence + 1;
      state = with_package-state_with (image_octets a) offer (sha256 (image_octets a stored)) stored manifest.state i;
      row = row_of (leaf_count m.key) a;
    })

pub law_k : (a b : List ℕ) (m : Module) (standing : Standing) → Recovers a (module_board m standing)
    → Keeps (IsUnnamedIn m.capacity a) a b → Recovers b (module_board m standing)
law_k a b m standing found keeps =
    let same = unnamed_say_nothing a b m found.0 found.1 found.2
    (keeps_wider a b (unnamed_in m.capacity a found.0 found.1 found.2.in_force) keeps) in
    (found.0, found.1, same.0, found.3 ∙ sym same.1)
