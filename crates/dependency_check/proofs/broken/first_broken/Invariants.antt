use Rattle.std.proofs.Common.{◌≡◌, ℕ, ◌<◌, false, slice_get}
use Rattle.std.specs.Option.{option_map_or}
use Rattle.dependency_check.specs.Deciding.{loses_need}
use Rattle.dependency_check.proofs.broken.first_broken.Given as goal

-- no package so far loses a need
abbrev pub invariant-loop-place : goal.invariant-loop-place
invariant-loop-place l =
    (i : ℕ) → i < l.place → option_map_or (loses_need l.name l.state) (slice_get l.state.packages i) false ≡ false
