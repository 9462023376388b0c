use Rattle.std.proofs.Common.{◌≡◌, ◌++◌, ◌∷◌, [], ◌∙◌, ℕ, List, OnOk, ap, sym, subst}
use Rattle.der_core.specs.Condition.{error_of}
use Rattle.der_core.specs.Element.{enc}
use Rattle.receipt_writer.proofs.Codes.{code_text}
use Rattle.receipt_writer.proofs.error.put_code.Goals as goal

pub returns-clause-ok : goal.returns-clause-ok
returns-clause-ok c =
    subst (λ (contents : List ℕ). OnOk c.put_tlv.result (c.put_tlv.new.out.items ≡ c.args.out.now.items ++ enc 0x0A contents))
    (ap (λ (n : ℕ). n ∷ []) c.code.ensures.code ∙ sym (code_text (error_of c.args.failed))) c.put_tlv.ensures.ok
