use Rattle.module_record.proofs.ModuleLaws.{same_records}
use Rattle.module_record.proofs.laws.one_module_record_each.Goals as goal

pub returns : goal.returns
returns c = record { unique = same_records }
