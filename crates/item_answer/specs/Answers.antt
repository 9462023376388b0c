-- What the answer to an item leaves on the board, and of a power cut in it. A receipt or a load error is sent for an item
-- (RFC 4108, sections 3 and 4); in which order, and what is kept meanwhile, is this project's own.
use Rattle.std.specs.Prelude.{◌≡◌, ℕ, ◌≤◌, List, [], ◌∷◌, Result, Ok, Err, OnOk, OnErr}
use Rattle.std.specs.Result.{IsErrOf}
use Rattle.edge_board.specs.Board.{View, IsSettled}
use Rattle.edge_board.specs.Causes.{Rose}
use Rattle.edge_board.specs.Sends.{FrontSent}
use Rattle.edge_board.specs.declared.failed.Failed.{Failed}
use Rattle.bank_gate.specs.States.{RisesAtMost}
use Rattle.module_record.specs.declared.module.Module.{Module}
use Rattle.bank_layout.specs.Recovery.{Standing}
use Rattle.judge_core.specs.Verdicts.{Verdict}
use Rattle.answer_write.specs.Reserved.{Forms, IsReserved}
use Rattle.load_claims.specs.Items.{Judged, after, answers, answer_type, answer_text, some_refused}
use Rattle.load_claims.specs.Boards.{Loads, LeavesRun}
use Rattle.item_answer.specs.declared.fault.ItemFault.{ItemFault}
use Rattle.item_answer.specs.declared.fault.ItemFault.TheVariants as faults

-- ---- for a reader

-- The first of these items were judged, and a front of their answers was sent: of none where none was judged.
pub record AnswersPart (m : Module) (at : ℕ) (start : Standing) (items : List (List ℕ)) (old new : View) : Type 0 where
  pub verdicts : List Verdict
  pub judged : Judged m at start items verdicts
  pub sent : FrontSent (answers m start verdicts) old new

-- With Ok the item of this verdict is answered: what was sent is its answer, and what stands there is what the verdict
-- makes of the start. With a fault a front of its answer was sent. A power cut leaves a part of the item's run.
pub record AnswersItem {T E : Type 0} (tells_moments : Type 0) (m : Module) (at : ℕ) (start : Standing) (item : List ℕ)
    (verdict : Verdict) (old new : View) (result : Result T E) : Type 0 where
  pub loads : OnOk result (Loads m at start (after start verdict) (item ∷ []) (some_refused (verdict ∷ [])) old new)
  pub partly : OnErr result (AnswersPart m at start (item ∷ []) old new)
  pub moments : tells_moments → LeavesRun m at start (item ∷ []) old new

-- Whatever the answer says: with Ok nothing is pending, so many blocks were erased at most, and the board is to blame
-- exactly where it counted a fault.
pub record EndsAnswer (tells_cells : Type 0) (most : ℕ) (old new : View) (result : Result Unit ItemFault) : Type 0 where
  pub settled : tells_cells → OnOk result (IsSettled new)
  pub blocks : new.blocks ≡ old.blocks
  pub erased : RisesAtMost most old.erased new.erased
  pub later : old.faults ≤ new.faults
  pub calm : ¬ IsErrOf result faults.Failed → new.faults ≡ old.faults
  pub fault : IsErrOf result faults.Failed → Rose old.faults new.faults

-- ---- for the steps of an answer

-- it is ready to answer the item of this verdict, over what stood there before it: signed but for a leaf, and plain
abbrev pub IsAnswerTo : Module → Standing → Verdict → Forms → Type 0
IsAnswerTo m start verdict answer = IsReserved m (answer_type verdict) (answer_text m start verdict) answer

-- what a board answered, as the end of an item's answer, whose memory was taken before
abbrev pub ended : Result Unit Failed → Result Unit ItemFault
ended (Ok _) = Ok tt
ended (Err _) = Err faults.Failed
