-- What turns over the items of a source leave, one after the other. A bridge between the loop and `LoadRuns`: nothing here
-- has to be believed.
use Rattle.std.specs.Prelude.{◌≡◌, ◌⊎◌, ℕ, ◌+◌, ◌*◌, ◌≤◌, Bool, List, [], ◌∷◌, ◌++◌, length, Option, sum_by}
use Rattle.std.specs.Io.KnownBytes.{Consumes, IsAtEnd}
use Rattle.std.specs.List.{flat_map, AllByRecursion}
use Rattle.edge_board.specs.Board.{View}
use Rattle.der_core.specs.Items.{IsSequence, HasSequence, IsItems, Splits}
use Rattle.package_attrs.specs.Image.{blocks_for}
use Rattle.module_record.specs.declared.module.Module.{Module}
use Rattle.bank_layout.specs.Recovery.{Standing}
use Rattle.load_claims.specs.Boards.{Loads, LeavesRun}
use Rattle.item_intake.specs.declared.fault.LoadFault.{LoadFault}
use Rattle.item_intake.specs.declared.fault.LoadFault.TheVariants as faults
use Rattle.item_answer.specs.Answers.{AnswersPart}
use Rattle.load_item.specs.Turns.{IsItem, StoredAsCome}
use Rattle.loader_core.specs.Loading.{most_erased}

-- Between two turns: these octets were handed on, and the items that they are were answered.
pub record InTurns (told moments : Type 0) (m : Module) (at : ℕ) (start end : Standing) (old now : View)
    (left left' : Option (List ℕ)) (passed passed' : ℕ) (refused : Bool) : Type 0 where
  pub octets : List ℕ
  pub text : Consumes left left' octets
  pub passed_is : passed' ≡ passed + length octets
  pub ended : List (List ℕ)
  pub splits : Splits octets ended []
  pub loads : told → Loads m at start end ended refused old now
  pub leaves : moments → (others : List (List ℕ)) → LeavesRun m at start (ended ++ others) old now
  pub later : old.erased ≤ now.erased
  pub most : now.erased ≤ old.erased + sum_by most_erased ended

-- All that was left was answered, one was refused or none was, and the source is at its end.
pub record RunsItems (told moments : Type 0) (m : Module) (at : ℕ) (start : Standing) (old new : View)
    (left left' : Option (List ℕ)) (passed passed' : ℕ) (refused : Bool) : Type 0 where
  pub octets : List ℕ
  pub text : Consumes left left' octets
  pub passed_is : passed' ≡ passed + length octets
  pub at_end : IsAtEnd left'
  pub items : List (List ℕ)
  pub items_are : IsItems octets items
  pub end : Standing
  pub loads : told → Loads m at start end items refused old new
  pub leaves : moments → LeavesRun m at start items old new
  pub later : old.erased ≤ new.erased
  pub most : new.erased ≤ old.erased + sum_by most_erased items

-- A turn failed: the items that had ended were answered, and of the next one these octets had come. `items` has that one
-- where its answer was begun, and else none.
pub record BreaksRun (told moments : Type 0) (m : Module) (at : ℕ) (start : Standing) (old new : View)
    (left left' : Option (List ℕ)) (passed passed' : ℕ) (buffered : List ℕ) (fault : LoadFault) : Type 0 where
  pub octets : List ℕ
  -- the octet beyond the limit
  pub beyond : List ℕ
  pub text : Consumes left left' (octets ++ beyond)
  pub passed_is : passed' ≡ passed + length octets
  pub excess : (fault ≡ faults.TooLong × (length beyond ≡ 1)) ⊎ (¬ (fault ≡ faults.TooLong) × (beyond ≡ []))
  pub ended : List (List ℕ)
  pub so_far : List ℕ
  pub whole : octets ≡ flat_map (λ item. item) ended ++ so_far
  pub each : AllByRecursion IsSequence ended
  pub last : HasSequence so_far → IsSequence so_far
  pub goes_on : (fault ≡ faults.TooLong) ⊎ (fault ≡ faults.Source) → HasSequence so_far → ⊥
  pub items : List (List ℕ)
  pub are : (items ≡ []) ⊎ ((items ≡ so_far ∷ []) × IsItem so_far (beyond ++ buffered) left')
  pub loads : told → ¬ (fault ≡ faults.Device)
      → (end : Standing) × (refused : Bool) × Loads m at start end ended refused old new
  pub partly : told → AnswersPart m at start (ended ++ items) old new
  pub leaves : moments → (others : List (List ℕ)) → LeavesRun m at start (ended ++ (items ++ others)) old new
  pub later : old.erased ≤ new.erased
  pub most : new.erased ≤ old.erased + sum_by most_erased ended + blocks_for (length so_far) + 34 * length items
  pub least : moments → fault ≡ faults.Source → StoredAsCome m old.erased so_far new
