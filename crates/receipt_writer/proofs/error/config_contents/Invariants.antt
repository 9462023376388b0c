use Rattle.std.proofs.Common.{◌≡◌, ◌≤◌, ◌*◌, take, length}
use Rattle.std.specs.List.{flat_map}
use Rattle.receipt_writer.specs.Answers.{current_text}
use Rattle.receipt_writer.proofs.error.config_contents.Given as goal

-- the packages so far, and how long they are at most
abbrev pub invariant-loop-place : goal.invariant-loop-place
invariant-loop-place l =
    (l.contents.items ≡ flat_map current_text (take l.place l.state.packages))
    × (length l.contents.items ≤ 128 * l.place)
