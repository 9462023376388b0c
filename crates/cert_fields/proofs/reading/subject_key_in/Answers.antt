use Rattle.cert_fields.specs.ExtensionTypes.{subject_key_identifier}
use Rattle.cert_fields.specs.Extensions.{key_identifier_text, IsKeyIdentifier}
use Rattle.cert_fields.proofs.ExtensionLaws.{says_some, says_bad, says_none}
use Rattle.cert_fields.proofs.reading.subject_key_in.Goals as goal

pub returns-in_ok-read_key_identifier-in-Some : goal.returns-in_ok-read_key_identifier-in-Some
returns-in_ok-read_key_identifier-in-Some c =
    says_some key_identifier_text IsKeyIdentifier subject_key_identifier c.args.list.now c.in-Some.value.now c.in_ok-read_key_identifier-in-Some.field-0
    c.in-Some.ensures.exact c.in_ok-read_key_identifier-in-Some.ensures.spelled

pub returns-in_err-read_key_identifier-in-Some : goal.returns-in_err-read_key_identifier-in-Some
returns-in_err-read_key_identifier-in-Some c =
    rw c.from_residual.ensures (says_bad key_identifier_text IsKeyIdentifier subject_key_identifier c.args.list.now c.in-Some.value.now c.in-Some.ensures.exact
    c.in_err-read_key_identifier-in-Some.ensures.spelled)

pub returns-in-None : goal.returns-in-None
returns-in-None c = says_none key_identifier_text IsKeyIdentifier subject_key_identifier c.args.list.now c.in-None.ensures.exact
