-- What a format answers where it isn't known whether the board is held.
use Rattle.bank_store.specs.declared.fault.HolderFault.{HolderFault}
use Rattle.bank_store.specs.declared.fault.HolderFault.TheVariants as holders
use Rattle.bank_store.specs.declared.fault.FormatFault.{FormatFault}
use Rattle.bank_store.specs.declared.fault.FormatFault.TheVariants as formats

abbrev pub format_fault : HolderFault → FormatFault
format_fault holders.Fault = formats.Fault
format_fault holders.Memory = formats.Memory
