-- What is answered where a call inside has failed.
use Rattle.std.specs.Prelude.{◌≡◌, ℕ, ◌≤◌, Result, IsErrOf}
use Rattle.edge_board.specs.Causes.{Rose}
use Rattle.module_store.specs.declared.fault.OpenFault.{OpenFault}
use Rattle.module_store.specs.declared.fault.OpenFault.TheVariants as opens

-- A fault is answered exactly where the board counted one.
pub record HasOpenCause {T : Type 0} (before now : ℕ) (result : Result T OpenFault) : Type 0 where
  pub later : before ≤ now
  pub calm : ¬ IsErrOf result opens.Fault → now ≡ before
  pub failed : IsErrOf result opens.Fault → Rose before now
