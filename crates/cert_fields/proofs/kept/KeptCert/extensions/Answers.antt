use Rattle.std.proofs.Common.{◌≡◌, ◌↔◌, Some, subst}
use Rattle.std.specs.Prelude.{IfOk}
use Rattle.cert_fields.specs.Certificate.{Certificate}
use Rattle.cert_fields.specs.Extensions.{HasExtensions}
use Rattle.cert_fields.specs.declared.extensions.Extensions.{Extensions as ExtensionsOf}
use Rattle.cert_fields.proofs.kept.KeptCert.extensions.Goals as goal

pub returns : goal.returns
returns c = record {
  spelled = subst
      (λ (cert : Certificate). IfOk c.read_part.result (λ answer. (e : ExtensionsOf) → (answer ≡ Some e) ↔ HasExtensions cert e))
      c.cert.ensures.fields c.read_part.ensures.spelled;
}
