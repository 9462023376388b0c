use Rattle.std.proofs.Common.{sym, subst, ◌∙◌, ap}
use Rattle.std.specs.Prelude.{bytes_eq}
use Rattle.path_check.specs.Above.{HasAuthorityKey}
use Rattle.path_check.specs.Keys.{TellsKey}
use Rattle.path_check.proofs.KeyLemmas.{anchor_above_some, anchor_above_none, not_different}
use Rattle.path_check.proofs.find.is_anchor_above.Goals as goal

pub returns-in-Some : goal.returns-in-Some
returns-in-Some c =
    let child = c.args._child.now in
    record {
      above =
          anchor_above_some child c.args.anchor.now
          (sym c.subject.ensures.subject
          ∙ not_different c.subject.result.now c.args.issuer.now c.ne.result c.ne.ensures c.if-ne.false ∙ c.requires.issuer)
          c.in-Some.key c.eq.result (subst (TellsKey (HasAuthorityKey child)) c.in-Some.is c.requires.key)
          (c.eq.ensures ∙ ap (bytes_eq c.in-Some.key) c.key_id.ensures.key_id);
    }

pub returns-in-None : goal.returns-in-None
returns-in-None c =
    let child = c.args._child.now in
    record {
      above =
          anchor_above_none child c.args.anchor.now
          (sym c.subject.ensures.subject
          ∙ not_different c.subject.result.now c.args.issuer.now c.ne.result c.ne.ensures c.if-ne.false ∙ c.requires.issuer)
          (subst (TellsKey (HasAuthorityKey child)) c.in-None.is c.requires.key);
    }
