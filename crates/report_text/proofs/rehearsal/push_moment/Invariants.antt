use Rattle.std.proofs.Common.{◌≡◌, ◌++◌, ◌/◌, ◌%◌, take, string_bytes}
use Rattle.std.specs.Fmt.{decimal}
use Rattle.std.specs.List.{flat_map}
use Rattle.report_text.proofs.Rows.{places}
use Rattle.report_text.proofs.rehearsal.push_moment.Given as goal

-- the digits so far stand behind what the line had
abbrev pub invariant-loop-place : goal.invariant-loop-place
invariant-loop-place l =
    string_bytes l.line ≡ string_bytes l.initial.line
    ++ flat_map (λ place. decimal (l.digits / place % 10)) (take l.place-index places)
