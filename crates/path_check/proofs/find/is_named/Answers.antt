use Rattle.std.proofs.Common.{false, sym, subst, ◌∙◌, ap, ◌↔◌}
use Rattle.std.specs.Prelude.{IsTrue, bytes_eq}
use Rattle.cert_fields.specs.Sid.{sid_view}
use Rattle.path_check.specs.Above.{HasSubjectKey, IsNamed}
use Rattle.path_check.specs.Keys.{TellsKey}
use Rattle.path_check.proofs.KeyLemmas.{has_some, has_none}
use Rattle.path_check.proofs.find.is_named.Goals as goal

pub returns-in-Some : goal.returns-in-Some
returns-in-Some c =
    let certificate = c.args.cert.now in
    record {
      named = subst (λ sid. IsTrue c.eq-in-Some.result ↔ IsNamed (sid_view sid) certificate) (sym c.in-KeyId.is) (
          has_some (HasSubjectKey certificate) c.in-KeyId.key.now c.in-Some.own c.eq-in-Some.result
          (subst (TellsKey (HasSubjectKey certificate)) c.in-Some.is c.in_ok-own-in-KeyId.ensures.told)
          (c.eq-in-Some.ensures ∙ ap (λ own. bytes_eq own c.in-KeyId.key.now) c.octets.ensures.value)
          );
    }

pub returns-in-None : goal.returns-in-None
returns-in-None c =
    let certificate = c.args.cert.now in
    record {
      named = subst (λ sid. IsTrue false ↔ IsNamed (sid_view sid) certificate) (sym c.in-KeyId.is) (
          has_none (HasSubjectKey certificate) c.in-KeyId.key.now
          (subst (TellsKey (HasSubjectKey certificate)) c.in-None.is c.in_ok-own-in-KeyId.ensures.told)
          );
    }
