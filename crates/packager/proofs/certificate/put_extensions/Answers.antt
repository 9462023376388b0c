use Rattle.std.proofs.Common.{◌≡◌, ◌++◌, ◌∙◌, List, ℕ, Option, length, ap, sym, arith}
use Rattle.std.proofs.lemmas.List.{append-nil, nil_from_length}
use Rattle.std.proofs.lemmas.Bool.{eqb-true}
use Rattle.der_core.specs.Element.{enc}
use Rattle.der_core.specs.Shapes.{text_if}
use Rattle.packager.proofs.Written.{none_written}
use Rattle.packager.specs.CertificatePlan.{planned_extensions, plan_view}
use Rattle.packager.proofs.certificate.put_extensions.Goals as goal

pub returns-then-is_empty-clause-ok : goal.returns-then-is_empty-clause-ok
returns-then-is_empty-clause-ok c =
    let out = c.args.out.now.items in
    let all = c.in_ok-all.all.items in
    let empty : length all ≡ 0 = omega (arith, eqb-true _ 0 (sym c.is_empty.ensures ∙ c.if-is_empty.true)) in
    let none = none_written (planned_extensions (plan_view c.args.plan.now)) (sym c.in_ok-all.ensures.ok ∙ nil_from_length all empty) in
    sym (append-nil out) ∙ ap (λ (part : Option (List ℕ)). out ++ text_if (enc 0xA3) part) (sym none)
