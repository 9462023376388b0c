-- How a run ends that opened no store, that answered all items, or that met a fault.
use Rattle.std.specs.Prelude.{Bool, true, false}
use Rattle.item_intake.specs.declared.fault.LoadFault.{LoadFault}
use Rattle.item_intake.specs.declared.fault.LoadFault.TheVariants as faults
use Rattle.module_store.specs.declared.fault.OpenFault.{OpenFault}
use Rattle.module_store.specs.declared.fault.OpenFault.TheVariants as opens
use Rattle.loader_core.specs.declared.loading.Ending.{Ending}
use Rattle.loader_core.specs.declared.loading.Ending.TheVariants as endings

abbrev pub open_ending : OpenFault → Ending
open_ending opens.NotAModule = endings.NotAModule
open_ending opens.Fault = endings.DeviceFault
open_ending opens.Memory = endings.NoMemory

abbrev pub full_ending : Bool → Ending
full_ending true = endings.SomeRefused
full_ending false = endings.Done

abbrev pub fault_ending : LoadFault → Ending
fault_ending faults.Device = endings.DeviceFault
fault_ending faults.Source = endings.SourceFault
fault_ending faults.TooLong = endings.InputTooLong
fault_ending faults.Memory = endings.NoMemory
