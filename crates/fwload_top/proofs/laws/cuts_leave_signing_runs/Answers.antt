use Rattle.fwload_top.proofs.SigningLemmas.{one_key, nothing_or_signs, still_holds}
use Rattle.fwload_top.proofs.laws.cuts_leave_signing_runs.Goals as goal

pub returns-clause-runs : goal.returns-clause-runs
returns-clause-runs g c = λ told p left cells count key holds image s cut.
    nothing_or_signs (one_key c.each_image_has_one_holder.ensures.one) p told left cells count key holds image s cut

pub returns-clause-holds : goal.returns-clause-holds
returns-clause-holds g c = λ told p left cells count key holds image s cut. still_holds (one_key c.each_image_has_one_holder.ensures.one) p told left cells count key holds image s cut
