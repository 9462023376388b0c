use Rattle.bank_layout.proofs.Texts.{one_manifest}
use Rattle.bank_layout.proofs.laws.one_manifest_each.Goals as goal

pub returns : goal.returns
returns c = record { one = one_manifest }
