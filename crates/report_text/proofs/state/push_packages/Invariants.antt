use Rattle.std.proofs.Common.{◌≡◌, ◌++◌, map, take, string_bytes}
use Rattle.std.specs.List.{flat_map}
use Rattle.config_table.specs.State.{entry_with}
use Rattle.report_text.specs.Lines.{package_line}
use Rattle.report_text.proofs.state.push_packages.Given as goal

-- the lines of the packages so far stand behind what the text had
abbrev pub invariant-loop-place : goal.invariant-loop-place
invariant-loop-place l =
    string_bytes l.text ≡ string_bytes l.initial.text
    ++ flat_map package_line (take l.place (map (λ entry. entry_with (λ image. image.length) entry) l.state.packages))
