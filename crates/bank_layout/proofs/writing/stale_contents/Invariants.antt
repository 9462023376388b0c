use Rattle.std.proofs.Common.{◌≡◌, take}
use Rattle.std.specs.List.{flat_map}
use Rattle.bank_layout.specs.Manifest.{stale_entry_text}
use Rattle.bank_layout.proofs.writing.stale_contents.Given as goal

-- the entries so far
abbrev pub invariant-loop-place : goal.invariant-loop-place
invariant-loop-place l = l.contents.items ≡ flat_map stale_entry_text (take l.place l.state.stale)
