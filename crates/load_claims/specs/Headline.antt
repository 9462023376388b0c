-- What recovery finds after a power cut in a run over items.
use Rattle.std.specs.Prelude.{◌↔◌, ℕ, List, [], ◌∷◌}
use Rattle.module_record.specs.declared.module.Module.{Module}
use Rattle.bank_layout.specs.Recovery.{Standing, Recovers}
use Rattle.bank_layout.specs.Recovery.Holder.{module_board}
use Rattle.judge_core.specs.Verdicts.{Verdict, IsAccepted, IsAdmitted}
use Rattle.load_claims.specs.Items.{after, bench_at}
use Rattle.load_claims.specs.Kept.{SentWhole, MadeByFirst}
use Rattle.load_claims.specs.Lives.{Round}

-- each verdict accepts exactly where its item is admitted: where its octets are the text of a signed package, and its
-- signatures, its path's constraints and the module's rules admit it (all 41 conditions)
abbrev pub AreExact : Module → ℕ → Standing → List (List ℕ) → List Verdict → Type 0
AreExact m at now items [] = Unit {0}
AreExact m at now [] (verdict ∷ verdicts) = ⊥
AreExact m at now (item ∷ items) (verdict ∷ verdicts) =
    (IsAccepted verdict ↔ IsAdmitted (bench_at m at now) item) × AreExact m at (after now verdict) items verdicts

-- The image recovers to the module, with the images and stale entries that a prefix of the packages accepted by these
-- verdicts makes: it holds each one whose receipt was sent whole, and at most one more. The packages are accepted exactly
-- where they are admitted. (`Keeps` says more: which item the one more is, and that it is there from the first octet of its
-- answer on.)
pub record FindsPrefix (m : Module) (at : ℕ) (start : Standing) (items : List (List ℕ)) (verdicts : List Verdict)
    (image s : List ℕ) : Type 0 where
  pub exact : AreExact m at start items verdicts
  pub whole : ℕ
  pub sent : SentWhole m start verdicts s whole
  pub now : Standing
  pub recovers : Recovers image (module_board m now)
  pub count : ℕ
  pub made : MadeByFirst start verdicts whole now count

-- in each run of a life packages are accepted exactly where they are admitted
abbrev pub AreExactIn : Module → Round → Type 0
AreExactIn m r = AreExact m r.at r.from r.items r.verdicts
