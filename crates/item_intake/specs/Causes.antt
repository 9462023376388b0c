-- The faults of reading and answering, from those of their parts.
use Rattle.std.specs.Prelude.{ℕ}
use Rattle.load_input.specs.declared.input.ReadFault.{ReadFault}
use Rattle.load_input.specs.declared.input.ReadFault.TheVariants as reads
use Rattle.item_intake.specs.declared.fault.TakeFault.{TakeFault}
use Rattle.item_intake.specs.declared.fault.TakeFault.TheVariants as takes
use Rattle.item_intake.specs.declared.fault.LoadFault.{LoadFault}
use Rattle.item_intake.specs.declared.fault.LoadFault.TheVariants as faults

abbrev pub take_fault : TakeFault → LoadFault
take_fault takes.Device = faults.Device
take_fault takes.Memory = faults.Memory

abbrev pub read_fault : ReadFault → LoadFault
read_fault reads.Failed = faults.Source
read_fault reads.TooLong = faults.TooLong

-- how many octets were taken beyond the limit
abbrev pub excess : LoadFault → ℕ
excess faults.TooLong = 1
excess faults.Device = 0
excess faults.Source = 0
excess faults.Memory = 0
