-- `list`: the lines of the module that holds the board.
use Rattle.std.specs.Prelude.{◌≡◌, ℕ, ◌+◌, ◌*◌, ◌≤◌, List, []}
use Rattle.key_state.specs.Row.{spent_in}
use Rattle.config_table.specs.State.{State}
use Rattle.module_record.specs.declared.module.Module.{Module}
use Rattle.bank_layout.specs.Layout.{first_image_block}
use Rattle.bank_layout.specs.Recovery.{Standing, Recovers}
use Rattle.bank_layout.specs.Recovery.Holder.{module_board}
use Rattle.report_text.specs.ListLines.{list_lines}
use Rattle.fwload_top.specs.declared.status.Status.TheVariants.{Done, NotAModule}
use Rattle.fwload_top.specs.Meaning.{Meaning, Answer, any, says, stay}
use Rattle.fwload_top.specs.Meaning.Input.{unread}
use Rattle.fwload_top.specs.Standing.{HasNoModule, StandsAt}

-- It recovers so, and so many leaves of the module's key are spent.
pub record IsListed (cells : List ℕ) (m : Module) (sequence spent : ℕ) (state : State ℕ) : Type 0 where
  pub stands : StandsAt cells m sequence state
  pub spent_is : spent ≡ spent_in stands.standing.row

-- What a run may come to.
pub data Outcome : Type 0 where
  no_module : Outcome
  -- the module, its sequence number, how many leaves are spent, and the state
  listed : Module → ℕ → ℕ → State ℕ → Outcome

-- what each is answered with, over which board
abbrev pub answer : Outcome → Answer
answer no_module = says NotAModule [] HasNoModule unread
answer (listed m sequence spent state) = record {
  status = Done;
  line = list_lines m sequence spent state;
  cells = λ cells. IsListed cells m sequence spent state;
  blocks = λ n. first_image_block + 2 * m.capacity ≤ n;
  input = unread;
  before = stay;
  after = stay;
}

-- the command, which never reads the source
abbrev pub list : Meaning
list = record {
  Outcome = Outcome;
  answer = answer;
  needs = λ tells_cells old.
      tells_cells × (m : Module) × (standing : Standing) × Recovers old.cells (module_board m standing);
  form = λ old. any;
}
