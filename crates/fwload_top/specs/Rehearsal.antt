-- What a rehearsal has come to: one set more, and the sets at the front of octets.
use Rattle.std.specs.Prelude.{◌≡◌, ℕ, List, ◌++◌, ◌||◌}
use Rattle.std.specs.List.{AllByRecursion, flat_map, list_any}
use Rattle.der_core.specs.Element.{enc, IsElement}
use Rattle.package_rules.specs.Module.{Module}
use Rattle.fwload_top.specs.declared.rehearsal.Rehearsal.{Rehearsal}
use Rattle.judge_core.specs.Rehearsal.{Verdict, after}
use Rattle.fwload_top.specs.Verdicts.{Judges, JudgesAll, after_all, is_refused}
use Rattle.fwload_top.specs.Rehearse.{verdict_line}

-- one verdict more: what it leaves installed, its line, and whether it is a refusal
pub record Follows (before : Rehearsal) (v : Verdict) (next : Rehearsal) : Type 0 where
  pub state : next.state ≡ after before.state v
  pub lines : next.lines.items ≡ before.lines.items ++ verdict_line v
  pub refuses : next.refuses ≡ (before.refuses || is_refused v)

-- one set more, with its verdict
abbrev pub JudgesOne : Module → Rehearsal → List ℕ → Rehearsal → Type 0
JudgesOne m before contents next = (v : Verdict) × Judges m before.state contents v × Follows before v next

-- the octets are sets and then the rest, and the sets have been judged
pub record JudgesFront (m : Module) (begun : Rehearsal) (octets rest : List ℕ) (done : Rehearsal) : Type 0 where
  pub sets : List (List ℕ)
  pub verdicts : List Verdict
  pub text : octets ≡ flat_map (enc 0x31) sets ++ rest
  pub each : AllByRecursion (IsElement 0x31) sets
  pub judged : JudgesAll m begun.state sets verdicts
  pub state : done.state ≡ after_all begun.state verdicts
  pub lines : done.lines.items ≡ begun.lines.items ++ flat_map verdict_line verdicts
  pub refuses : done.refuses ≡ (begun.refuses || list_any is_refused verdicts)
