use Rattle.std.proofs.Common.{sym, ◌∙◌, subst}
use Rattle.std.proofs.lemmas.Bool.{false≢true}
use Rattle.packager.specs.PackagePlan.{IsCertificateText}
use Rattle.recipe_text.proofs.WordLemmas.{certificate_some, certificate_none, certificate_unread}
use Rattle.recipe_text.proofs.words.certificate_in.Goals as goal

pub returns-in_default : goal.returns-in_default
returns-in_default c = record {
  exact = certificate_unread c.args.word.now (rw c.in_default.is at c.in_ok-octets.ensures.exact);
}

pub returns-then-not-is_certificate : goal.returns-then-not-is_certificate
returns-then-not-is_certificate c = record {
  exact = certificate_none c.args.word.now c.in-Some.octets.items (rw c.in-Some.is at c.in_ok-octets.ensures.exact)
      (λ text. false≢true (sym c.if-not-is_certificate.true
      ∙ c.is_certificate.ensures.1 (subst IsCertificateText (sym c.deref.ensures.value) text)));
}

pub returns : goal.returns
returns c = record {
  exact = certificate_some c.args.word.now c.in-Some.octets.items (rw c.in-Some.is at c.in_ok-octets.ensures.exact)
      (subst IsCertificateText c.deref.ensures.value (c.is_certificate.ensures.0 c.if-not-is_certificate.false));
}
