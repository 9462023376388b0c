-- What a run leaves whose command answers once, at its end.
use Rattle.std.specs.Prelude.{◌≡◌, ◌⊎◌, ℕ, ◌<◌, ◌≤◌, List, [], length, Option, IfSome, IsSomeAnd}
use Rattle.std.specs.Io.KnownBytes.{IsAtEnd}
use Rattle.edge_board.specs.Board.{View, SameTest, Sent, IsSettled}
use Rattle.edge_board.specs.Runs.{LeavesOnly}
use Rattle.edge_board.specs.Sends.{IsFront, FrontSent, Sending}
use Rattle.fwload_top.specs.declared.status.Status.{Status}
use Rattle.fwload_top.specs.declared.status.Status.TheVariants.{Done, SomeRefused, Usage, NotAModule, DeviceFault}
use Rattle.fwload_top.specs.declared.status.Status.TheVariants.{SourceFault, InputTooLong, NoMemory, Refused, KeySpent}
use Rattle.fwload_top.specs.Seen.{Seen}
use Rattle.fwload_top.specs.HasCauses.{HasCauses}
use Rattle.fwload_top.specs.Meaning.{Input, Answer, Meaning, WritesNoFlash, input_limit}
use Rattle.fwload_top.specs.Meaning.Input.{unread, read}

-- ---- when a run comes to an answer

-- some input, which is what the source had left where it tells that
abbrev pub HasInput : (List ℕ → Type 0) → Option (List ℕ) → Type 0
HasInput P left = (input : List ℕ) × P input × IfSome left (λ told. told ≡ input)

-- the input is within the limit, and is as the answer says
abbrev pub IsInput : Input → Option (List ℕ) → Type 0
IsInput unread left = Unit {0}
IsInput (read P) left = HasInput (λ input. (length input ≤ input_limit) × P input) left

-- A run may come to this answer: the board's cells and blocks were as it says, as far as the board tells the cells, and
-- so is the input.
pub record ComesTo (a : Answer) (tells_cells : Type 0) (left : Option (List ℕ)) (start : List ℕ) (count : ℕ) :
    Type 0 where
  pub cells : tells_cells → a.cells start
  pub blocks : a.blocks count
  pub input : IsInput a.input left

-- the input is read for it
abbrev pub IsRead : Input → Type 0
IsRead unread = ⊥
IsRead (read P) = Unit {0}

-- there is an answer over these cells for which the input is read
abbrev pub MayRead : Meaning → Type 0 → View → Type 0
MayRead m tells_cells old =
    (o : m.Outcome) × IsRead (m.answer o).input × (tells_cells → (m.answer o).cells old.cells)

-- ---- the end of the run

-- The run came to an answer, and sent exactly its line.
pub record Ended (m : Meaning) (r : Seen) : Type 0 where
  pub outcome : m.Outcome
  pub status : (m.answer outcome).status ≡ r.status
  pub comes : ComesTo (m.answer outcome) r.tells_cells r.source.left r.old.cells r.old.blocks
  pub read : IsRead (m.answer outcome).input → IsAtEnd r.source'.left
  pub sent : Sent r.old r.new (m.answer outcome).line
  pub cells : r.tells_cells → (m.answer outcome).after r.old.cells r.new.cells

-- Nothing was sent, and the cells stay.
pub record Stopped (r : Seen) : Type 0 where
  pub silent : SameTest r.old.sent r.new.sent
  pub cells : r.tells_cells → r.new.cells ≡ r.old.cells

-- A call on the board failed: nothing was sent, or a front of a line that this input and board come to.
abbrev pub BrokeOff : Meaning → Seen → Type 0
BrokeOff m r =
    SameTest r.old.sent r.new.sent
    ⊎ ((o : m.Outcome) × ComesTo (m.answer o) r.tells_cells r.source.left r.old.cells r.old.blocks
    × FrontSent (m.answer o).line r.old r.new)

-- the input is longer than the limit
abbrev pub IsLonger : List ℕ → Type 0
IsLonger input = input_limit < length input

-- what is known by the status
abbrev pub EndsWith : Status → Meaning → Seen → Type 0
EndsWith Done m r = Ended m r
EndsWith SomeRefused m r = Ended m r
EndsWith Refused m r = Ended m r
EndsWith NotAModule m r = Ended m r
EndsWith KeySpent m r = Ended m r
EndsWith DeviceFault m r = BrokeOff m r
EndsWith SourceFault m r = Stopped r × MayRead m r.tells_cells r.old
EndsWith InputTooLong m r = Stopped r × MayRead m r.tells_cells r.old × IfSome r.source.left IsLonger
EndsWith NoMemory m r = Stopped r
EndsWith Usage m r = ⊥

-- ---- a power cut

-- Of an answer: none of its line was sent, or the cells are as from its line on.
abbrev pub CutInAnswer : Answer → List ℕ → List ℕ → List ℕ → Type 0
CutInAnswer a start image s =
    ((s ≡ []) × a.before start image)
    ⊎ (a.after start image × IsFront a.line s)

-- Over these cells and so many blocks, a power cut leaves this image, and has sent these octets since the start: none,
-- and the cells are as they were; or it fell into an answer that the run would have come to.
abbrev pub CutLeaves : Meaning → Type 0 → Option (List ℕ) → List ℕ → ℕ → List ℕ → List ℕ → Type 0
CutLeaves m tells_cells left start count image s =
    ((s ≡ []) × (image ≡ start))
    ⊎ ((o : m.Outcome) × ComesTo (m.answer o) tells_cells left start count × CutInAnswer (m.answer o) start image s)

-- The flash stays: the cells, and where nothing was pending at the start a power cut at any moment leaves them alone.
pub record LeavesFlash (r : Seen) : Type 0 where
  pub cells : r.tells_cells → r.new.cells ≡ r.old.cells
  pub only_image : r.tells_moments → IsSettled r.old → LeavesOnly r.old r.new (λ image s. image ≡ r.old.cells)

-- ---- the run

-- What the run leaves.
pub record AnswersOnce (m : Meaning) (r : Seen) : Type 0 where
  pub causes : HasCauses input_limit r
  pub ends : EndsWith r.status m r
  -- where no answer over these cells reads the input, the source stays
  pub source : MayRead m r.tells_cells r.old ⊎ (r.source' ≡ r.source)
  pub blocks : r.new.blocks ≡ r.old.blocks
  -- however it ends
  pub flash : WritesNoFlash m → LeavesFlash r
  pub settled : r.tells_cells → IsSettled r.old → ¬ (r.status ≡ DeviceFault) → IsSettled r.new
  -- what a power cut at any moment leaves, where nothing was pending
  pub moments : r.tells_moments → IsSettled r.old
      → LeavesOnly r.old r.new (Sending r.old (CutLeaves m r.tells_cells r.source.left r.old.cells r.old.blocks))

-- ---- what brings it to its end

-- The board is as the command needs it, and where the input is read, it is told, is within the limit and has its form.
pub record IsReady (m : Meaning) (r : Seen) : Type 0 where
  pub board : m.needs r.tells_cells r.old
  pub input : MayRead m r.tells_cells r.old
      → IsSomeAnd r.source.left (λ input. (length input ≤ input_limit) × m.form r.old input)
