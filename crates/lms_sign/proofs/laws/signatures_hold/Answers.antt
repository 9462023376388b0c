use Rattle.lms_sign.proofs.HoldsLemmas.{signature_holds}
use Rattle.lms_sign.proofs.laws.signatures_hold.Goals as goal

pub returns : goal.returns
returns c = signature_holds
