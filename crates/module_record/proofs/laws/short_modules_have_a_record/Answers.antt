use Rattle.module_record.proofs.RecordLaws.{short_module, short_record}
use Rattle.module_record.proofs.laws.short_modules_have_a_record.Goals as goal

pub returns-clause-valid : goal.returns-clause-valid
returns-clause-valid c = short_module

pub returns-clause-size : goal.returns-clause-size
returns-clause-size c = short_record
