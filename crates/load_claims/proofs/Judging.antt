-- Verdicts: no list of items is without them, and they are exact.
use Rattle.std.proofs.Common.{◌≡◌, ℕ, List, [], ◌∷◌, length, refl, arith}
use Rattle.std.specs.Prelude.{◌↔◌}
use Rattle.module_record.specs.declared.module.Module.{Module}
use Rattle.bank_layout.specs.Recovery.{Standing}
use Rattle.judge_core.specs.Verdicts.{Bench, Verdict, Judges, IsAccepted, IsAdmitted}
use Rattle.load_claims.specs.Items.{JudgesAt, Judged, after, bench_at}
use Rattle.load_claims.specs.Headline.{AreExact}

-- ---- no list of items is without verdicts

pub judged_at : (m : Module) (at : ℕ) (now : Standing) (item : List ℕ) (verdict : Verdict) → Judges (bench_at m at now) item verdict → JudgesAt m at now item verdict
unfolding JudgesAt
judged_at m at now item verdict judges = judges

pub judges_at : (m : Module) (at : ℕ) (now : Standing) (item : List ℕ) (verdict : Verdict) → JudgesAt m at now item verdict → Judges (bench_at m at now) item verdict
unfolding JudgesAt
judges_at m at now item verdict judges = judges

-- where no item is without one
pub have_verdicts : ((b : Bench) (item : List ℕ) → ¬ ((verdict : Verdict) → ¬ Judges b item verdict)) → (m : Module) (at : ℕ) (start : Standing) (items : List (List ℕ)) → ((verdicts : List Verdict) → length verdicts ≡ length items → ¬ Judged m at start items verdicts) → ⊥
have_verdicts law m at start [] none = none [] refl tt
have_verdicts law m at start (item ∷ items) none = law (bench_at m at start) item (λ verdict judges.
    have_verdicts law m at (after start verdict) items (λ verdicts size judged. none (verdict ∷ verdicts) (omega (arith, size)) (judged_at m at start item verdict judges, judged)))

-- ---- verdicts are exact

pub are_exact : ((b : Bench) (item : List ℕ) (verdict : Verdict) → Judges b item verdict → IsAccepted verdict ↔ IsAdmitted b item)
    → (m : Module) (at : ℕ) (now : Standing) (items : List (List ℕ)) (verdicts : List Verdict) → Judged m at now items verdicts → AreExact m at now items verdicts
are_exact law m at now items [] judged = tt
are_exact law m at now [] (verdict ∷ verdicts) judged = absurd judged
are_exact law m at now (item ∷ items) (verdict ∷ verdicts) judged =
    (law (bench_at m at now) item verdict (judges_at m at now item verdict judged.0), are_exact law m at (after now verdict) items verdicts judged.1)
