use Rattle.lms_sign.proofs.HoldsLemmas.{length-sign_text}
use Rattle.lms_sign.proofs.laws.signatures_have_one_size.Goals as goal

pub returns : goal.returns
returns c = record { size = λ key leaf message below. length-sign_text key leaf message }
