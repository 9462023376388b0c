use Rattle.std.proofs.Common.{arith}
use Rattle.der_core.proofs.Places.{length-enc}
use Rattle.module_record.specs.ModuleRecord.{module_contents}
use Rattle.bank_store.proofs.module_format.module_record.Goals as goal

pub put_module-requires : goal.put_module-requires
put_module-requires c = omega (arith, c.requires, length-enc 0x30 (module_contents c.args.holder.now))
