use Rattle.cert_fields.specs.ExtensionTypes.{basic_constraints}
use Rattle.cert_fields.specs.Extensions.{ca_rule_text, IsCaRule}
use Rattle.cert_fields.proofs.ExtensionLaws.{says_some, says_bad, says_none}
use Rattle.cert_fields.proofs.reading.ca_in.Goals as goal

pub returns-in_ok-read_ca_rule-in-Some : goal.returns-in_ok-read_ca_rule-in-Some
returns-in_ok-read_ca_rule-in-Some c =
    says_some ca_rule_text IsCaRule basic_constraints c.args.list.now c.in-Some.value.now c.in_ok-read_ca_rule-in-Some.field-0
    c.in-Some.ensures.exact c.in_ok-read_ca_rule-in-Some.ensures.spelled

pub returns-in_err-read_ca_rule-in-Some : goal.returns-in_err-read_ca_rule-in-Some
returns-in_err-read_ca_rule-in-Some c =
    rw c.from_residual.ensures (says_bad ca_rule_text IsCaRule basic_constraints c.args.list.now c.in-Some.value.now c.in-Some.ensures.exact
    c.in_err-read_ca_rule-in-Some.ensures.spelled)

pub returns-in-None : goal.returns-in-None
returns-in-None c = says_none ca_rule_text IsCaRule basic_constraints c.args.list.now c.in-None.ensures.exact
