use Rattle.std.proofs.Common.{refl, ◌∙◌}
use Rattle.cert_fields.specs.View.{certificate_view}
use Rattle.cms_signed.proofs.certificates.choose.Goals as goal

pub returns-in-Some-clause-whole : goal.returns-in-Some-clause-whole
returns-in-Some-clause-whole c =
    let read = (c.in-Some.ensures.spelled (certificate_view c.in-Some.certificate)).0 refl in
    record { valid = read.0; text = c.in-Some.ensures.whole ∙ read.1; tbs = c.in-Some.ensures.tbs }
