-- From one step of an item to the next.
use Rattle.std.proofs.Common.{◌≡◌, ℕ, ◌<◌, ◌≤◌, List, [], ◌∷◌, Result, refl, sym, subst, arith, false, Bool, IsTrue}
use Rattle.std.specs.Prelude.{Option, nat_le, ◌+◌}
use Rattle.std.proofs.lemmas.Bool.Decides.{nat_tests}
use Rattle.std.proofs.lemmas.List.{append-nil}
use Rattle.std.proofs.lemmas.Result.{on_ok_weaker, on_err_weaker}
use Rattle.edge_board.specs.Board.{View, IsSettled, SameTest}
use Rattle.edge_board.specs.Sends.{FrontSent}
use Rattle.package_attrs.specs.declared.name.PackageName.{PackageName}
use Rattle.config_table.specs.State.{Offer, with_package}
use Rattle.config_table.specs.Stored.{Stored}
use Rattle.module_record.specs.declared.module.Module.{Module}
use Rattle.bank_layout.specs.Manifest.{Manifest}
use Rattle.bank_layout.specs.Recovery.{Standing, Recovers}
use Rattle.bank_layout.specs.Recovery.Holder.{module_board}
use Rattle.judge_core.specs.Verdicts.{Verdict, refuses}
use Rattle.load_claims.specs.Items.{JudgesAt, answer as said_by}
use Rattle.load_claims.specs.Boards.{IsInstalled, LeavesRun, Loads}
use Rattle.item_answer.specs.Answers.{AnswersItem, AnswersPart}

-- ---- a part of the answers

-- none was judged, and nothing was sent
pub part_none : (m : Module) (at : ℕ) (start : Standing) (items : List (List ℕ)) (old new : View) → SameTest old.sent new.sent → AnswersPart m at start items old new
part_none m at start items old new silent = record {
  verdicts = [];
  judged = tt;
  sent = (0, omega arith, λ p h. subst (λ (l : List ℕ). new.sent l) (sym (append-nil p)) (silent.forth p h));
}

-- a front of one answer
pub part_of : (m : Module) (at : ℕ) (start : Standing) (item : List ℕ) (verdict : Verdict) (old new : View) → JudgesAt m at start item verdict
    → FrontSent (said_by m start verdict) old new → AnswersPart m at start (item ∷ []) old new
part_of m at start item verdict old new given front = record {
  verdicts = verdict ∷ [];
  judged = (given, tt);
  sent = subst (λ (l : List ℕ). FrontSent l old new) (sym (append-nil (said_by m start verdict))) front;
}

-- ---- since an earlier moment, where nothing was sent between

pub same_test : (test : List ℕ → Type 0) → SameTest test test
same_test test = record { forth = λ s h. h; back = λ s h. h }

loads_since : (m : Module) (at : ℕ) (start end : Standing) (items : List (List ℕ)) (refused : Bool) (old mid new : View) → SameTest old.sent mid.sent
    → Loads m at start end items refused mid new → Loads m at start end items refused old new
loads_since m at start end items refused old mid new silent l = record {
  verdicts = l.verdicts;
  judged = l.judged;
  all = l.all;
  refused_is = l.refused_is;
  end_is = l.end_is;
  sent = λ p h. l.sent p (silent.forth p h);
  found = l.found;
}

part_since : (m : Module) (at : ℕ) (start : Standing) (items : List (List ℕ)) (old mid new : View) → SameTest old.sent mid.sent
    → AnswersPart m at start items mid new → AnswersPart m at start items old new
part_since m at start items old mid new silent a = record {
  verdicts = a.verdicts;
  judged = a.judged;
  sent = (a.sent.0, a.sent.1, λ p h. a.sent.2 p (silent.forth p h));
}

pub answers_since : {T E : Type 0} (tm : Type 0) (m : Module) (at : ℕ) (start : Standing) (item : List ℕ) (verdict : Verdict) (old mid new : View) (r : Result T E)
    → SameTest old.sent mid.sent → (tm → LeavesRun m at start (item ∷ []) mid new → LeavesRun m at start (item ∷ []) old new)
    → AnswersItem tm m at start item verdict mid new r → AnswersItem tm m at start item verdict old new r
answers_since tm m at start item verdict old mid new r silent more a = record {
  loads = on_ok_weaker r (λ l. loads_since m at start _ _ _ old mid new silent l) a.loads;
  partly = on_err_weaker r (λ p. part_since m at start _ old mid new silent p) a.partly;
  moments = λ told. more told (a.moments told);
}

-- ---- verdicts

pub late_uses : (n : ℕ) → 30 ≤ n → IsTrue (nat_le 30 n)
late_uses n le = grind (arith, nat_tests)

pub early_uses : (n : ℕ) → n < 30 → nat_le 30 n ≡ false
early_uses n lt = grind (arith, nat_tests)

-- a refusal installs nothing
pub refused_installed : (m : Module) (at : ℕ) (start : Standing) (item : List ℕ) (number : ℕ) (name : Option PackageName) (v : View)
    → JudgesAt m at start item (refuses number name) → Recovers v.cells (module_board m start) → IsSettled v → IsInstalled m at start item (refuses number name) v
refused_installed m at start item number name v given found settled = record {
  given = given;
  standing = start;
  found = found;
  store = record { sequence = refl; state = refl };
  row = refl;
  settled = settled;
}

-- what a package of this digest makes of a manifest
abbrev pub with_digest : Manifest → Offer → Stored → List ℕ → Manifest
with_digest manifest offer stored digest = record { sequence = manifest.sequence + 1; state = with_package offer digest stored manifest.state }
