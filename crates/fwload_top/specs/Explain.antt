-- `explain`: what the path of the package permits that the input is, and the verdict on it. The lines are this project's
-- own.
use Rattle.std.specs.Prelude.{◌≡◌, ◌⊎◌, ℕ, ◌+◌, ◌*◌, ◌≤◌, List, [], ◌++◌, Option, Some, None}
use Rattle.config_table.specs.State.{State}
use Rattle.module_record.specs.declared.module.Module.{Module}
use Rattle.bank_layout.specs.Layout.{first_image_block}
use Rattle.bank_layout.specs.Recovery.{Standing, Recovers}
use Rattle.bank_layout.specs.Recovery.Holder.{module_board}
use Rattle.judge_core.specs.Granted.{PathGrant, Grants}
use Rattle.judge_core.specs.Verdicts.{Bench, Verdict, Judges}
use Rattle.judge_core.specs.Verdicts.Verdict.{accepts, refuses}
use Rattle.explain_text.specs.GrantText.{IsGrantText}
use Rattle.explain_text.specs.Lines.{path_line, verdict_line}
use Rattle.fwload_top.specs.declared.status.Status.{Status}
use Rattle.fwload_top.specs.declared.status.Status.TheVariants.{Done, SomeRefused, NotAModule}
use Rattle.fwload_top.specs.Meaning.{Meaning, Answer, any, says, stay}
use Rattle.fwload_top.specs.Meaning.Input.{unread, read}
use Rattle.fwload_top.specs.Standing.{HasNoModule, StandsAt}

-- ---- the lines

-- the lines of a path and of what it permits
abbrev pub ArePathLines : PathGrant → List ℕ → Type 0
ArePathLines told text =
    (lines : List ℕ) × IsGrantText told.grant lines × (text ≡ path_line told.certificates told.anchor ++ lines)

-- those of the item, where the conditions 1 to 23 hold of it, and else none
abbrev pub IsFront : Module → List ℕ → List ℕ → Type 0
IsFront m item text =
    ((told : PathGrant) × Grants m item told × ArePathLines told text)
    ⊎ (((told : PathGrant) → ¬ Grants m item told) × (text ≡ []))

-- the condition by which a verdict refuses
abbrev pub refused_by : Verdict → Option ℕ
refused_by (accepts described content image key_id) = None
refused_by (refuses number name) = Some number

-- These lines explain the verdict on the item, which fails this condition first, or none.
pub record Explains (b : Bench) (item : List ℕ) (refused : Option ℕ) (lines : List ℕ) : Type 0 where
  pub verdict : Verdict
  pub judged : Judges b item verdict
  pub refused_is : refused ≡ refused_by verdict
  pub front : List ℕ
  pub is_front : IsFront b.holder item front
  pub is : lines ≡ front ++ verdict_line refused

-- ---- the answers

-- the status of a verdict
abbrev pub answer_status : Option ℕ → Status
answer_status None = Done
answer_status (Some number) = SomeRefused

-- What a run may come to.
pub data Outcome : Type 0 where
  no_module : Outcome
  -- the module, its sequence number and its state, the condition that the input fails first, and the lines
  explained : Module → ℕ → State ℕ → Option ℕ → List ℕ → Outcome

-- what each is answered with, over which board and input
abbrev pub answer : ℕ → Outcome → Answer
answer at no_module = says NotAModule [] HasNoModule unread
answer at (explained m sequence state refused lines) = record {
  status = answer_status refused;
  line = lines;
  cells = λ cells. StandsAt cells m sequence state;
  blocks = λ n. first_image_block + 2 * m.capacity ≤ n;
  input = read (λ input.
      Explains (record { holder = m; at = at; sequence = sequence; state = state }) input refused lines);
  before = stay;
  after = stay;
}

-- the command
abbrev pub explain : ℕ → Meaning
explain at = record {
  Outcome = Outcome;
  answer = answer at;
  needs = λ tells_cells old.
      tells_cells × (m : Module) × (standing : Standing) × Recovers old.cells (module_board m standing);
  form = λ old. any;
}
