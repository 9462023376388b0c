use Rattle.std.proofs.Common.{subst}
use Rattle.path_check.specs.Above.{HasSubjectKey}
use Rattle.path_check.specs.Keys.{TellsKey}
use Rattle.path_check.proofs.KeyLemmas.{agrees_some, agrees_none}
use Rattle.path_check.proofs.find.is_key_of.Goals as goal

pub returns-in-Some : goal.returns-in-Some
returns-in-Some c = record {
  agrees =
      agrees_some (HasSubjectKey c.args.cert.now) c.args.key.now c.in-Some.own c.eq.result
      (subst (TellsKey (HasSubjectKey c.args.cert.now)) c.in-Some.is c.in_ok-own.ensures.told)
      c.eq.ensures;
}

pub returns-in-None : goal.returns-in-None
returns-in-None c = record {
  agrees =
      agrees_none (HasSubjectKey c.args.cert.now) c.args.key.now
      (subst (TellsKey (HasSubjectKey c.args.cert.now)) c.in-None.is c.in_ok-own.ensures.told);
}
