use Rattle.std.proofs.Common.{List, [], sym, subst, arith}
use Rattle.cert_fields.specs.declared.entries.CccEntry.{CccEntry}
use Rattle.std.specs.List.{IsDistinct}
use Rattle.std.proofs.lemmas.List.Sorted.{IsPermutation-refl}
use Rattle.explain_text.specs.Kept.{AreKept}
use Rattle.explain_text.proofs.member.Member.new.Goals as goal

none_kept : AreKept [] []
unfolding IsDistinct
none_kept = record {
  differ = tt;
  same = IsPermutation-refl [];
  ascend = λ k d low high. absurd (omega (arith, high));
}

pub invariant_of-result : goal.invariant_of-result
invariant_of-result c = subst (λ (entries : List CccEntry). AreKept [] entries) (sym c.new.ensures.items) none_kept
