use Rattle.std.proofs.Common.{◌≡◌, ◌++◌, take, string_bytes}
use Rattle.std.specs.List.{flat_map}
use Rattle.report_text.specs.Lines.{stale_line}
use Rattle.report_text.proofs.state.push_stale_entries.Given as goal

-- the lines of the entries so far stand behind what the text had
abbrev pub invariant-loop-place : goal.invariant-loop-place
invariant-loop-place l =
    string_bytes l.text ≡ string_bytes l.initial.text ++ flat_map stale_line (take l.place l.state.stale)
