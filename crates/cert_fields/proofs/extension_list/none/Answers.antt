use Rattle.cert_fields.proofs.ExtensionLaws.{no_items}
use Rattle.cert_fields.proofs.extension_list.none.Goals as goal

pub invariant_of-result : goal.invariant_of-result
invariant_of-result c = no_items.0

pub returns : goal.returns
returns c = no_items.1
