-- What the answer to an item that was read leaves.
use Rattle.std.specs.Prelude.{◌≡◌, ℕ, ◌+◌, ◌≤◌, Bool, false, List, [], ◌∷◌, ◌++◌, Option, None, Some, Result, Ok, Err}
use Rattle.std.specs.Prelude.{OnOk, OnErr, IfOk, IfErr, MatchResult}
use Rattle.edge_board.specs.Board.{View, IsSettled}
use Rattle.content_stream.specs.Plans.{TakesBlocks}
use Rattle.content_stream.specs.declared.content_stream.Streamed.{Streamed}
use Rattle.module_record.specs.declared.module.Module.{Module}
use Rattle.bank_layout.specs.Recovery.{Standing}
use Rattle.module_store.specs.Store.{IsQuiet, IsStore, IsStoreOf}
use Rattle.module_store.specs.declared.store.Store.{Store}
use Rattle.item_intake.specs.declared.fault.LoadFault.{LoadFault}
use Rattle.item_intake.specs.declared.fault.LoadFault.TheVariants as faults
use Rattle.item_answer.specs.Answers.{AnswersPart}
use Rattle.item_answer.specs.declared.fault.ItemFault.{ItemFault}
use Rattle.item_answer.specs.declared.fault.ItemFault.TheVariants as ends
use Rattle.load_claims.specs.Boards.{Loads, LeavesRun}
use Rattle.load_item.specs.declared.turn.Turn.{Turn}
use Rattle.load_item.specs.Turns.{IsItem, IsTurn, turn_items, turn_refuses, turn_erases}

-- the faults of an answer: the board's, and want of memory
abbrev pub IsAnswerFault : LoadFault → Type 0
IsAnswerFault faults.Device = Unit {0}
IsAnswerFault faults.Memory = Unit {0}
IsAnswerFault faults.Source = ⊥
IsAnswerFault faults.TooLong = ⊥

-- the end of an answer, as that of a turn
abbrev pub item_fault : ItemFault → LoadFault
item_fault ends.Failed = faults.Device
item_fault ends.Memory = faults.Memory

abbrev pub turn_result : Turn → Result Unit ItemFault → Result Turn LoadFault
turn_result turn (Ok _) = Ok turn
turn_result turn (Err fault) = Err (item_fault fault)

-- What an answer to the item leaves, over a board on which this stands. Of no item there is none.
pub record Answers (told moments : Type 0) (m : Module) (at : ℕ) (start end : Standing) (item : List ℕ)
    (left' : Option (List ℕ)) (old new : View) (result : Result Turn LoadFault) : Type 0 where
  pub is : IfOk result (IsTurn item left')
  pub loads : told → IfOk result (λ turn. Loads m at start end (turn_items item turn) (turn_refuses turn) old new)
  pub leaves : moments → MatchResult result
      (λ turn. (others : List (List ℕ)) → LeavesRun m at start (turn_items item turn ++ others) old new)
      (λ _. (others : List (List ℕ)) → LeavesRun m at start (item ∷ others) old new)
  pub item_is : OnErr result (IsItem item [] left')
  pub fault : IfErr result IsAnswerFault
  pub nothing : told
      → IfErr result (λ fault. ¬ (fault ≡ faults.Device) → Loads m at start start [] false old new)
  pub partly : told → OnErr result (AnswersPart m at start (item ∷ []) old new)
  pub later : old.erased ≤ new.erased
  pub few : IfOk result (λ turn. new.erased ≤ old.erased + turn_erases turn)
  pub most : new.erased ≤ old.erased + 34

-- Behind an answer the store is a quiet one of the same module, and the board's.
pub record KeepsStore {T E : Type 0} (told : Type 0) (s s' : Store) (old new : View) (result : Result T E) : Type 0 where
  pub owner : s'.module ≡ s.module
  pub valid : OnOk result (IsStore s')
  pub quiet : OnOk result (IsQuiet s')
  pub holds : told → OnOk result (IsStoreOf s' new.cells)
  pub settled : told → OnOk result (IsSettled new)
  pub blocks : new.blocks ≡ old.blocks

-- with this pool the store is a quiet one
abbrev pub StoodWith : Store → List Bool → Type 0
StoodWith s pool = IsStore (record s { pool = pool }) × IsQuiet (record s { pool = pool })

-- what came of an item's content is given back to this pool
abbrev pub GivesBack : List Bool → List Bool → Option Streamed → Type 0
GivesBack before now None = now ≡ before
GivesBack before now (Some streamed) = (n : ℕ) × TakesBlocks n before now streamed.blocks
