-- The number that the program ends with, by the status of its run; this project's own.
use Rattle.std.specs.Prelude.{ℕ}
use Rattle.fwload_top.specs.declared.status.Status.{Status}
use Rattle.fwload_top.specs.declared.status.Status.TheVariants.{Done, SomeRefused, Usage, NotAModule, DeviceFault}
use Rattle.fwload_top.specs.declared.status.Status.TheVariants.{SourceFault, InputTooLong, NoMemory, Refused, KeySpent}

-- 0 where the command was done, else why it wasn't
abbrev pub exit_number : Status → ℕ
exit_number Done = 0
exit_number SomeRefused = 1
exit_number Usage = 2
exit_number NotAModule = 3
exit_number DeviceFault = 4
exit_number SourceFault = 5
exit_number InputTooLong = 6
exit_number NoMemory = 7
exit_number Refused = 8
exit_number KeySpent = 9
