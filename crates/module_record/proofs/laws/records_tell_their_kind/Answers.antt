use Rattle.module_record.proofs.RecordLaws.{another_kind}
use Rattle.module_record.proofs.laws.records_tell_their_kind.Goals as goal

pub returns : goal.returns
returns c = another_kind
