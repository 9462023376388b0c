-- `rehearse`: the lines of the verdicts on the input's attribute sets, and of what they leave installed in a module that
-- has nothing at first. The input's form and the lines are this project's own.
use Rattle.std.specs.Prelude.{◌≡◌, ℕ, List, [], ◌∷◌, ◌++◌, Bool, true, false, ◌||◌, not, length, ◌==◌}
use Rattle.std.specs.List.{AllByRecursion, flat_map, list_any}
use Rattle.der_core.specs.Element.{enc, IsElement, HasTagged}
use Rattle.config_table.specs.State.{State, empty_state}
use Rattle.config_table.specs.Stored.{Stored, lengths}
use Rattle.package_rules.specs.Module.{Module}
use Rattle.report_text.specs.Lines.{state_lines, accepted_line, refused_line, rehearsal_head}
use Rattle.fwload_top.specs.declared.status.Status.{Status}
use Rattle.fwload_top.specs.declared.status.Status.TheVariants.{Done, SomeRefused}
use Rattle.fwload_top.specs.Meaning.{Meaning, Answer, says, any, any_board}
use Rattle.fwload_top.specs.Meaning.Input.{read}
use Rattle.judge_core.specs.Rehearsal.{Verdict}
use Rattle.judge_core.specs.Rehearsal.Verdict.{accepted, refused}
use Rattle.fwload_top.specs.Verdicts.{JudgesAll, after_all, is_refused}

-- The module that packages are rehearsed for: its hardware type is 1.2.3 and its serial number 00 01, it is in the
-- community 1.2.3.100, and it takes packages of type 1.
abbrev pub rehearsal_module : Module
rehearsal_module = record {
  hw_type = 0x2A ∷ 3 ∷ [];
  serial = 0x00 ∷ 0x01 ∷ [];
  communities = (0x2A ∷ 3 ∷ 100 ∷ []) ∷ [];
  kinds = 1 ∷ [];
}

-- The input is SETs with these contents one after the other, and then octets at whose front no SET stands.
pub record AreSets (input : List ℕ) (sets : List (List ℕ)) (rest : List ℕ) : Type 0 where
  pub text : input ≡ flat_map (enc 0x31) sets ++ rest
  pub each : AllByRecursion (IsElement 0x31) sets
  pub ends : HasTagged 0x31 rest → ⊥

-- the line of a verdict
abbrev pub verdict_line : Verdict → List ℕ
verdict_line (accepted d) = accepted_line d.identifier.name
verdict_line (refused number) = refused_line number

-- a rest fails the first condition, as it is no element
abbrev pub rest_line : List ℕ → List ℕ
rest_line [] = []
rest_line (octet ∷ octets) = refused_line 1

-- the lines of what is installed
abbrev pub installed_lines : State Stored → List ℕ
installed_lines state = state_lines (lengths state)

-- what is printed: the moment, the verdicts, the rest where there is one, and what is installed then
abbrev pub rehearsal_lines : ℕ → List Verdict → List ℕ → List ℕ
rehearsal_lines at verdicts rest =
    rehearsal_head at ++ (flat_map verdict_line verdicts
    ++ (rest_line rest ++ installed_lines (after_all empty_state verdicts)))

-- whether a set is refused, or a rest
abbrev pub is_one_refused : List Verdict → List ℕ → Bool
is_one_refused verdicts rest = list_any is_refused verdicts || not (length rest == 0)

-- the status that goes with it
abbrev pub answer_status : Bool → Status
answer_status false = Done
answer_status true = SomeRefused

-- The answer is the lines of the rehearsal of this input at this moment, and whether it refuses something is this.
pub record Rehearses (at : ℕ) (refuses : Bool) (input answer : List ℕ) : Type 0 where
  pub sets : List (List ℕ)
  pub rest : List ℕ
  pub verdicts : List Verdict
  pub parts : AreSets input sets rest
  pub judged : JudgesAll rehearsal_module empty_state sets verdicts
  pub known : refuses ≡ is_one_refused verdicts rest
  pub lines : answer ≡ rehearsal_lines at verdicts rest

-- ---- the answers

pub data Outcome : Type 0 where
  -- these lines are printed, and something is refused or nothing is
  rehearsed : Bool → List ℕ → Outcome

abbrev pub answer : ℕ → Outcome → Answer
answer at (rehearsed refuses lines) =
    says (answer_status refuses) lines any (read (λ input. Rehearses at refuses input lines))

abbrev pub rehearse : ℕ → Meaning
rehearse at = record {
  Outcome = Outcome;
  answer = answer at;
  needs = any_board;
  form = λ old. any;
}
