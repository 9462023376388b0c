-- Why a path hands nothing on.
use Rattle.std.specs.Prelude.{List, Result, Ok, Err}
use Rattle.der_core.specs.Asked.{Asked, FirstFail}
use Rattle.path_check.specs.declared.check.PathFault.{PathFault}
use Rattle.path_check.specs.declared.check.PathFault.TheVariants.{Fails, Memory}

-- where a condition is told, it is the first of these that fails
abbrev pub FailsFirst : {A : Type 0} → Result A PathFault → List Asked → Type 0
FailsFirst (Ok value) conditions = Unit {0}
FailsFirst (Err (Fails condition)) conditions = FirstFail conditions condition
FailsFirst (Err Memory) conditions = Unit {0}
