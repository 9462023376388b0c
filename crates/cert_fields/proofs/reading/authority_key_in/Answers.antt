use Rattle.cert_fields.proofs.ExtensionLaws.{authority_some, authority_none}
use Rattle.cert_fields.proofs.reading.authority_key_in.Goals as goal

pub returns-in-Some : goal.returns-in-Some
returns-in-Some c =
    authority_some c.args.list.now c.in-Some.value.now c.read_authority_key.result c.in-Some.ensures.exact
    c.read_authority_key.ensures.spelled

pub returns-in-None : goal.returns-in-None
returns-in-None c = authority_none c.args.list.now c.in-None.ensures.exact
