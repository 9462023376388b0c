use Rattle.std.proofs.Common.{ℕ, List, sym, subst, ◌∙◌, ◌≡◌, ◌↔◌}
use Rattle.std.specs.Prelude.{IsTrue}
use Rattle.std.proofs.lemmas.Result.{IfOk-weaker}
use Rattle.path_check.specs.Above.{HasSubjectKey, HasAuthorityKey, IsAbove}
use Rattle.path_check.specs.Keys.{TellsKey}
use Rattle.path_check.proofs.KeyLemmas.{above_some, above_none, not_different}
use Rattle.path_check.proofs.find.is_above.Goals as goal

pub returns-in-Some : goal.returns-in-Some
returns-in-Some c =
    let child = c.args._child.now in
    let candidate = c.args.candidate.now in
    let names = sym c.subject.ensures.subject ∙ not_different c.subject.result.now c.args.issuer.now c.ne.result c.ne.ensures c.if-ne.false ∙ c.requires.issuer in
    let told = subst (TellsKey (HasAuthorityKey child)) c.in-Some.is c.requires.key in
    record {
      above =
          IfOk-weaker c.is_key_of.result
          (λ is. IsTrue is ↔ ((own : List ℕ) → HasSubjectKey candidate own → c.in-Some.key ≡ own))
          (λ is. IsTrue is ↔ IsAbove child candidate)
          (λ is agrees. above_some child candidate names c.in-Some.key told agrees) c.is_key_of.ensures.agrees;
    }

pub returns-in-None : goal.returns-in-None
returns-in-None c =
    let child = c.args._child.now in
    let candidate = c.args.candidate.now in
    record {
      above =
          above_none child candidate
          (sym c.subject.ensures.subject ∙ not_different c.subject.result.now c.args.issuer.now c.ne.result c.ne.ensures c.if-ne.false ∙ c.requires.issuer)
          (subst (TellsKey (HasAuthorityKey child)) c.in-None.is c.requires.key);
    }
