use Rattle.std.proofs.Common.{◌≡◌, take}
use Rattle.std.specs.List.{flat_map}
use Rattle.bank_layout.specs.declared.format.Format.TheVariants.{Two}
use Rattle.bank_layout.specs.Manifest.{entry_text}
use Rattle.bank_layout.proofs.writing.packages_contents.Given as goal

-- the packages so far
abbrev pub invariant-loop-place : goal.invariant-loop-place
invariant-loop-place l = l.contents.items ≡ flat_map (entry_text Two) (take l.place l.state.packages)
