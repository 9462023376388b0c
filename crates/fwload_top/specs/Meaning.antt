-- What a command that answers once, at its end, may come to.
use Rattle.std.specs.Prelude.{◌≡◌, ℕ, ◌^◌, List}
use Rattle.edge_board.specs.Board.{View}
use Rattle.fwload_top.specs.declared.status.Status.{Status}

-- ---- one thing that it may come to

-- Whether the input is read for it, and then what the input is.
pub data Input : Type 1 where
  unread : Input
  read : (List ℕ → Type 0) → Input

-- What a run comes to: how it ends, what it sends, over which board and input it comes to that, and what it makes of
-- the cells.
pub record Answer : Type 1 where
  pub status : Status
  pub line : List ℕ
  -- the cells at the start, and how many blocks they are
  pub cells : List ℕ → Type 0
  pub blocks : ℕ → Type 0
  pub input : Input
  -- what the cells at the start may become before the line's first octet is sent, and what they are from then on
  pub before : List ℕ → List ℕ → Type 0
  pub after : List ℕ → List ℕ → Type 0

-- it may be anything
abbrev pub any : {A : Type 0} → A → Type 0
any x = Unit {0}

-- the cells stay
abbrev pub stay : List ℕ → List ℕ → Type 0
stay start image = image ≡ start

-- an answer on a board of any size, whose cells stay
abbrev pub says : Status → List ℕ → (List ℕ → Type 0) → Input → Answer
says status line cells input = record {
  status = status;
  line = line;
  cells = cells;
  blocks = any;
  input = input;
  before = stay;
  after = stay;
}

-- ---- a command

-- What a command means: what it may come to, and what brings it to its end.
pub record Meaning : Type 1 where
  pub Outcome : Type 0
  pub answer : Outcome → Answer
  -- the board that it needs, where the type says that the board tells its cells
  pub needs : Type 0 → View → Type 0
  -- the form that its input must have, over such a board
  pub form : View → List ℕ → Type 0

-- any board is as it needs
abbrev pub any_board : Type 0 → View → Type 0
any_board tells_cells old = Unit {0}

-- no answer changes the cells: the command writes no flash
abbrev pub WritesNoFlash : Meaning → Type 0
WritesNoFlash m = (o : m.Outcome) (start image : List ℕ)
    → ((m.answer o).before start image → image ≡ start) × ((m.answer o).after start image → image ≡ start)

-- the most octets of input that such a command takes
abbrev pub input_limit : ℕ
input_limit = 2 ^ 26
