-- What one turn over the items of a source leaves: the next item was read, judged and answered, or it wasn't. The limits
-- are this project's own.
use Rattle.std.specs.Prelude.{◌≡◌, ◌⊎◌, ℕ, ◌+◌, ◌-◌, ◌*◌, ◌/◌, ◌<◌, ◌≤◌, Bool, true, false, List, [], ◌∷◌, ◌++◌, length, Option}
use Rattle.std.specs.Io.KnownBytes.{Consumes, IsAtEnd}
use Rattle.edge_board.specs.Board.{View}
use Rattle.package_attrs.specs.Image.{blocks_for}
use Rattle.der_core.specs.Items.{IsSequence, HasSequence}
use Rattle.der_core.specs.Progress.{Declares}
use Rattle.cms_signed.specs.Cut.{HasCut}
use Rattle.module_record.specs.declared.module.Module.{Module}
use Rattle.bank_layout.specs.Recovery.{Standing}
use Rattle.judge_core.specs.Conditions.{most_contents}
use Rattle.item_intake.specs.ReadItem.{content_come}
use Rattle.item_intake.specs.declared.fault.LoadFault.{LoadFault}
use Rattle.item_intake.specs.declared.fault.LoadFault.TheVariants as faults
use Rattle.item_answer.specs.Answers.{AnswersPart}
use Rattle.load_claims.specs.Boards.{Loads, LeavesRun}
use Rattle.load_item.specs.declared.turn.Turn.{Turn}
use Rattle.load_item.specs.declared.turn.Turn.TheVariants as turns

-- ---- the item of a turn

-- The octets are an item, behind which these others were taken and these are left: a whole SEQUENCE, or the last octets,
-- which begin with none.
abbrev pub IsItem : List ℕ → List ℕ → Option (List ℕ) → Type 0
IsItem octets behind left' =
    IsSequence octets ⊎ ((0 < length octets) × (HasSequence octets → ⊥) × (behind ≡ []) × IsAtEnd left')

-- nothing is left behind the turn
abbrev pub IsLast : Turn → Type 0
IsLast turns.Accepted = ⊥
IsLast turns.Refused = ⊥
IsLast turns.Last = Unit {0}
IsLast turns.End = Unit {0}

-- what the octets of a turn are
abbrev pub IsTurn : List ℕ → Option (List ℕ) → Turn → Type 0
IsTurn octets left' turns.Accepted = IsSequence octets
IsTurn octets left' turns.Refused = IsSequence octets
IsTurn octets left' turns.Last = (0 < length octets) × (HasSequence octets → ⊥) × IsAtEnd left'
IsTurn octets left' turns.End = (octets ≡ []) × IsAtEnd left'

-- the items of a turn: one, or none at the end
abbrev pub turn_items : List ℕ → Turn → List (List ℕ)
turn_items octets turns.Accepted = octets ∷ []
turn_items octets turns.Refused = octets ∷ []
turn_items octets turns.Last = octets ∷ []
turn_items octets turns.End = []

-- one of them was refused
abbrev pub turn_refuses : Turn → Bool
turn_refuses turns.Accepted = false
turn_refuses turns.Refused = true
turn_refuses turns.Last = true
turn_refuses turns.End = false

-- how many blocks its answer erases at most: an install writes one bank, of 34 blocks
abbrev pub turn_erases : Turn → ℕ
turn_erases turns.Accepted = 34
turn_erases turns.Refused = 0
turn_erases turns.Last = 0
turn_erases turns.End = 0

-- ---- what it leaves

-- As many blocks were erased at least as the content has filled that had come, but for its first six octets, where the
-- module has blocks for it and the item isn't too long.
abbrev pub StoredAsCome : Module → ℕ → List ℕ → View → Type 0
StoredAsCome m before octets new =
    (place size : ℕ) → HasCut octets place size
    → ((contents : ℕ) → Declares octets contents → contents ≤ most_contents)
    → blocks_for size ≤ m.capacity
    → before + (content_come octets place size - 6) / 4096 ≤ new.erased

-- The next item was read, judged and answered; or none was left.
pub record TurnsItem (told moments : Type 0) (m : Module) (at : ℕ) (start end : Standing) (old new : View)
    (left left' : Option (List ℕ)) (passed passed' : ℕ) (turn : Turn) : Type 0 where
  pub octets : List ℕ
  pub text : Consumes left left' octets
  pub passed_is : passed' ≡ passed + length octets
  pub is : IsTurn octets left' turn
  pub loads : told → Loads m at start end (turn_items octets turn) (turn_refuses turn) old new
  pub leaves : moments → (others : List (List ℕ)) → LeavesRun m at start (turn_items octets turn ++ others) old new
  pub later : old.erased ≤ new.erased
  pub most : new.erased ≤ old.erased + blocks_for (length octets) + turn_erases turn

-- The next item wasn't answered whole: these octets of it were taken, and its answer was begun (`items` has the item), or
-- nothing was (`items` has none).
pub record FailsItem (told moments : Type 0) (m : Module) (at : ℕ) (start : Standing) (old new : View)
    (left left' : Option (List ℕ)) (passed passed' : ℕ) (buffered : List ℕ) (fault : LoadFault) : Type 0 where
  pub octets : List ℕ
  -- the octet beyond the limit
  pub beyond : List ℕ
  pub text : Consumes left left' (octets ++ beyond)
  pub passed_is : passed' ≡ passed + length octets
  pub excess : (fault ≡ faults.TooLong × (length beyond ≡ 1)) ⊎ (¬ (fault ≡ faults.TooLong) × (beyond ≡ []))
  pub last : HasSequence octets → IsSequence octets
  pub goes_on : (fault ≡ faults.TooLong) ⊎ (fault ≡ faults.Source) → HasSequence octets → ⊥
  pub items : List (List ℕ)
  pub are : (items ≡ []) ⊎ ((items ≡ octets ∷ []) × IsItem octets (beyond ++ buffered) left')
  -- but after a fault of the board, nothing was sent or installed
  pub nothing : told → ¬ (fault ≡ faults.Device) → Loads m at start start [] false old new
  -- a front of its answer was sent at most
  pub partly : told → AnswersPart m at start items old new
  pub leaves : moments → (others : List (List ℕ)) → LeavesRun m at start (items ++ others) old new
  pub later : old.erased ≤ new.erased
  pub most : new.erased ≤ old.erased + blocks_for (length octets) + 34 * length items
  pub least : moments → fault ≡ faults.Source → StoredAsCome m old.erased octets new
