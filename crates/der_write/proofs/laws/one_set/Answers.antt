use Rattle.std.proofs.Common.{◌≡◌, ℕ, List, sym, ap, ◌∙◌}
use Rattle.std.specs.List.{concat}
use Rattle.std.specs.List.Sorted.{IsPermutation}
use Rattle.std.proofs.lemmas.List.Sorted.{IsPermutation-sym, IsPermutation-trans}
use Rattle.der_core.specs.Element.{enc}
use Rattle.der_write.specs.Sets.{IsSetContents}
use Rattle.der_write.proofs.OneOrder.{one_order}
use Rattle.der_write.proofs.laws.one_set.Goals as goal

one_contents : (parts others : List (List ℕ)) (octets octets' : List ℕ) → IsPermutation parts others
    → IsSetContents parts octets → IsSetContents others octets' → octets ≡ octets'
one_contents parts others octets octets' same (ordered, a, is) (ordered', b, is') =
    let moved = IsPermutation-trans _ _ _ (IsPermutation-sym _ _ a.same) (IsPermutation-trans _ _ _ same b.same) in
    is ∙ ap concat (one_order ordered ordered' moved a.ascending b.ascending) ∙ sym is'

pub returns : goal.returns
returns c = record {
  contents = one_contents;
  text = λ parts others octets octets' same s t.
      s.2 ∙ ap (enc 0x31) (one_contents parts others s.0 t.0 same s.1 t.1) ∙ sym t.2;
}
