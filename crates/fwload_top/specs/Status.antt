-- What a status says of a run, whatever its command; this project's own.
use Rattle.fwload_top.specs.declared.status.Status.{Status}
use Rattle.fwload_top.specs.declared.status.Status.TheVariants.{Done, SomeRefused, Usage, NotAModule, DeviceFault}
use Rattle.fwload_top.specs.declared.status.Status.TheVariants.{SourceFault, InputTooLong, NoMemory, Refused, KeySpent}

-- the command was done, or memory was wanting
abbrev pub IsFinished : Status → Type 0
IsFinished Done = Unit {0}
IsFinished SomeRefused = Unit {0}
IsFinished NoMemory = Unit {0}
IsFinished Refused = ⊥
IsFinished NotAModule = ⊥
IsFinished KeySpent = ⊥
IsFinished Usage = ⊥
IsFinished DeviceFault = ⊥
IsFinished SourceFault = ⊥
IsFinished InputTooLong = ⊥

-- a run of any command that ends so sends nothing
abbrev pub IsSilent : Status → Type 0
IsSilent Usage = Unit {0}
IsSilent NotAModule = Unit {0}
IsSilent KeySpent = Unit {0}
IsSilent Done = ⊥
IsSilent SomeRefused = ⊥
IsSilent Refused = ⊥
IsSilent DeviceFault = ⊥
IsSilent SourceFault = ⊥
IsSilent InputTooLong = ⊥
IsSilent NoMemory = ⊥
