use Rattle.std.proofs.Common.{sym, ◌∙◌}
use Rattle.std.proofs.lemmas.Option.{none-some}
use Rattle.der_core.proofs.Numbers.{some_is}
use Rattle.cert_fields.specs.View.{certificate_view}
use Rattle.cms_signed.proofs.certificates.kept.Goals as goal

pub unreachable-requires : goal.unreachable-requires
unreachable-requires c =
    none-some _
    (sym c.in-None.is ∙ (c.new.ensures.spelled (certificate_view c.args.certificate.now)).1 (c.requires.valid, c.requires.text))

pub returns : goal.returns
returns c =
    some_is _ _
    (sym c.in-Some.is ∙ (c.new.ensures.spelled (certificate_view c.args.certificate.now)).1 (c.requires.valid, c.requires.text))
