use Rattle.cms_signed.specs.Signed.{outer_conditions}
use Rattle.cms_signed.specs.Tail.{in_item, tail_conditions}
use Rattle.der_core.proofs.AskedLemmas.{first_behind, all_hold}
use Rattle.cms_signed.proofs.SignedLaws.{tail_all, tail_fails}
use Rattle.cms_signed.proofs.laws.tail_goes_on.Goals as goal

pub returns : goal.returns
returns c kind item content tail held o = (
  λ h. all_hold (outer_conditions kind item) (in_item tail_conditions item) held (tail_all tail_conditions item content tail o h),
  λ number f. first_behind (outer_conditions kind item) (in_item tail_conditions item) number held
      (tail_fails tail_conditions item content tail number o f),
)
