-- Faults of the crates below, as those of this one.
use Rattle.std.specs.Prelude.{ℕ}
use Rattle.cms_signed.specs.declared.signed.SignedFault.{SignedFault}
use Rattle.cms_signed.specs.declared.signed.SignedFault.TheVariants as signed
use Rattle.path_check.specs.declared.check.PathFault.{PathFault}
use Rattle.path_check.specs.declared.check.PathFault.TheVariants as paths
use Rattle.path_check.specs.declared.find.FindFault.{FindFault}
use Rattle.path_check.specs.declared.find.FindFault.TheVariants as finds
use Rattle.judge_core.specs.declared.fault.Fault.{Fault}
use Rattle.judge_core.specs.declared.fault.Fault.TheVariants.{Fails, Memory}

-- where there is no path, condition 22 fails
abbrev pub of_find : FindFault → Fault
of_find finds.NoAnchor = Fails 22
of_find finds.Memory = Memory

abbrev pub of_path : PathFault → Fault
of_path (paths.Fails condition) = Fails condition
of_path paths.Memory = Memory

-- a condition is told, and this is said of its number
abbrev pub IfFails : SignedFault → (ℕ → Type 0) → Type 0
IfFails (signed.Fails condition) P = P condition
IfFails signed.Memory P = ⊥
