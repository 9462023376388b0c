use Rattle.path_check.proofs.KeyLemmas.{told_some, told_none}
use Rattle.path_check.proofs.key_identifiers.authority_key.Goals as goal

pub returns-in-Some : goal.returns-in-Some
returns-in-Some c = record {
  told =
      told_some c.args.cert.now (λ e. e.authority_key) c.in_ok-extensions.field-0
      c.in_ok-extensions.ensures.spelled c.in-Some.extensions c.in-Some.is;
}

pub returns-in-None : goal.returns-in-None
returns-in-None c = record {
  told =
      told_none c.args.cert.now (λ e. e.authority_key) c.in_ok-extensions.field-0
      c.in_ok-extensions.ensures.spelled c.in-None.is;
}
