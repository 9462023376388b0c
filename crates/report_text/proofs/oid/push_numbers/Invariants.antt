use Rattle.std.proofs.Common.{◌≡◌, ◌++◌, ◌∷◌, take, string_bytes}
use Rattle.std.specs.List.{flat_map}
use Rattle.std.specs.Fmt.{decimal}
use Rattle.report_text.proofs.oid.push_numbers.Given as goal

-- the numbers so far stand behind what the line had
abbrev pub invariant-loop-number : goal.invariant-loop-number
invariant-loop-number l =
    string_bytes l.line ≡ string_bytes l.initial.line ++ flat_map (λ s. 46 ∷ decimal s) (take l.number-index l.rest)
