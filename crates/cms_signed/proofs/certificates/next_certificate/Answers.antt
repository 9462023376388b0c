use Rattle.std.proofs.Common.{◌≡◌, Some, subst, ◌∙◌}
use Rattle.cert_fields.specs.View.{certificate_view}
use Rattle.cms_signed.specs.SignedView.{choice_view}
use Rattle.cms_signed.specs.SignerReading.{choice_at}
use Rattle.cms_signed.specs.declared.certificates.Choice.{Choice}
use Rattle.cms_signed.proofs.SignerLaws.{passed_plain, passed_other, none_passed, choice_falls}
use Rattle.cms_signed.proofs.certificates.next_certificate.Goals as goal

pub returns-in-Plain-clause-rest : goal.returns-in-Plain-clause-rest
returns-in-Plain-clause-rest c =
    (passed_plain c.loop-choice.items c.read_choice.new.items (certificate_view c.in-Plain.certificate)
    c.loop-choice.invariant.0
    (subst (λ (x : Choice). choice_at c.loop-choice.items ≡ Some (choice_view x, c.read_choice.new.items)) c.in-Plain.is
    c.in-Some.ensures.exact)).0

pub returns-in-Plain-clause-first : goal.returns-in-Plain-clause-first
returns-in-Plain-clause-first c =
    c.loop-choice.invariant.1
    ∙ (passed_plain c.loop-choice.items c.read_choice.new.items (certificate_view c.in-Plain.certificate)
    c.loop-choice.invariant.0
    (subst (λ (x : Choice). choice_at c.loop-choice.items ≡ Some (choice_view x, c.read_choice.new.items)) c.in-Plain.is
    c.in-Some.ensures.exact)).1

pub loop-choice-smaller : goal.loop-choice-smaller
loop-choice-smaller c = choice_falls c.loop-choice.items (_, c.read_choice.new.items) c.in-Some.ensures.exact

pub loop-choice-preserved : goal.loop-choice-preserved
loop-choice-preserved c =
    let p = passed_other c.loop-choice.items c.read_choice.new.items c.in_default-choice.field-0
    c.in_default-choice.field-1.now c.loop-choice.invariant.0
    (subst (λ (x : Choice). choice_at c.loop-choice.items ≡ Some (choice_view x, c.read_choice.new.items))
    c.in_default-choice.is c.in-Some.ensures.exact) in
    (p.0, c.loop-choice.invariant.1 ∙ p.1)

pub returns-clause-first : goal.returns-clause-first
returns-clause-first c =
    c.loop-choice.invariant.1
    ∙ none_passed c.loop-choice.items c.loop-choice.invariant.0 c.in_default.ensures.exact
