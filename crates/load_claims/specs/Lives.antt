-- A life of a module: runs over items, each from what the one before it left.
use Rattle.std.specs.Prelude.{◌≡◌, ◌⊎◌, ℕ, ◌+◌, ◌-◌, ◌≤◌, List, [], ◌∷◌, ◌++◌, length, take, drop, replicate, if◌then◌else◌}
use Rattle.key_state.specs.Row.{spent_in}
use Rattle.config_table.specs.State.{Offer, empty_state}
use Rattle.lms_sign.specs.PublicKeys.{leaf_count}
use Rattle.module_record.specs.declared.module.Module.{Module}
use Rattle.bank_layout.specs.Recovery.{Standing, Recovers}
use Rattle.bank_layout.specs.Recovery.Holder.{module_board}
use Rattle.judge_core.specs.Verdicts.{Verdict}
use Rattle.load_claims.specs.Items.{answer, after, accepted, is_signed, Judged}
use Rattle.load_claims.specs.Kept.{Keeps}

-- ---- one run

-- A run over items, as far as it came: the image that it began with, the moment, the items, what was sent, and the image
-- that it left, or that a power cut did; and what shows that: what both images recover to, the verdicts on the first
-- items, and how many answers were sent whole.
pub record Round : Type 0 where
  pub start : List ℕ
  pub at : ℕ
  pub items : List (List ℕ)
  pub sent : List ℕ
  pub end : List ℕ
  pub from : Standing
  pub to : Standing
  pub verdicts : List Verdict
  pub whole : ℕ

pub record IsRound (m : Module) (r : Round) : Type 0 where
  pub from : Recovers r.start (module_board m r.from)
  pub to : Recovers r.end (module_board m r.to)
  pub judged : Judged m r.at r.from r.items r.verdicts
  pub keeps : Keeps m r.from r.verdicts r.to r.sent r.whole

-- ---- all of them

-- each run begins with what the one before it left
abbrev pub Follow : Module → List ℕ → List Round → Type 0
Follow m image [] = Unit {0}
Follow m image (r ∷ rounds) = (r.start ≡ image) × IsRound m r × Follow m r.end rounds

abbrev pub last_image : List ℕ → List Round → List ℕ
last_image image [] = image
last_image image (r ∷ rounds) = last_image r.end rounds

-- nothing is installed, and no leaf is spent
abbrev pub fresh : Module → Standing
fresh m = record { sequence = 0; state = empty_state; row = replicate (leaf_count m.key) 255 }

-- a life begins with a fresh module
pub record Life (m : Module) (first : List ℕ) (rounds : List Round) : Type 0 where
  pub empty : Recovers first (module_board m (fresh m))
  pub goes_on : Follow m first rounds

-- ---- what a run installed

-- how many packages it accepted and answered with a whole receipt, and how many it installed
abbrev pub receipts : Round → ℕ
receipts r = length (accepted (take r.whole r.verdicts))

abbrev pub installs : Round → ℕ
installs r = r.to.sequence - r.from.sequence

abbrev pub installed_in : Round → List (Offer × List ℕ)
installed_in r = take (installs r) (accepted r.verdicts)

-- those whose receipts were sent whole, or one more
abbrev pub InstallsReceiptsOrOneMore : Round → Type 0
InstallsReceiptsOrOneMore r =
    (installs r ≤ length (accepted r.verdicts)) × ((installs r ≡ receipts r) ⊎ (installs r ≡ receipts r + 1))

-- ---- the leaves of its answers

-- the leaf of an answer, where it is signed
abbrev pub leaf_if_signed : Standing → Verdict → List ℕ
leaf_if_signed now verdict = if is_signed now verdict then spent_in now.row ∷ [] else []

-- the leaves of the signed answers of which any octet is among these that were sent, in the order of the answers
abbrev pub leaves_in : Module → Standing → List Verdict → List ℕ → List ℕ
leaves_in m now [] sent = []
leaves_in m now (verdict ∷ verdicts) [] = []
leaves_in m now (verdict ∷ verdicts) (octet ∷ octets) =
    leaf_if_signed now verdict
    ++ leaves_in m (after now verdict) verdicts (drop (length (answer m now verdict)) (octet ∷ octets))

-- those of a run
abbrev pub leaves_of : Module → Round → List ℕ
leaves_of m r = leaves_in m r.from r.verdicts r.sent
