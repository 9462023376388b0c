use Rattle.cert_fields.proofs.ExtensionLaws.{usage_some, usage_bad, usage_none}
use Rattle.cert_fields.proofs.reading.usage_in.Goals as goal

pub returns-in_ok-read_usage-in-Some : goal.returns-in_ok-read_usage-in-Some
returns-in_ok-read_usage-in-Some c =
    usage_some c.args.list.now c.in-Some.value.now c.in_ok-read_usage-in-Some.field-0 c.in-Some.ensures.exact
    c.in_ok-read_usage-in-Some.ensures.spelled

pub returns-in_err-read_usage-in-Some : goal.returns-in_err-read_usage-in-Some
returns-in_err-read_usage-in-Some c =
    rw c.from_residual.ensures (usage_bad c.args.list.now c.in-Some.value.now c.in-Some.ensures.exact c.in_err-read_usage-in-Some.ensures.spelled)

pub returns-in-None : goal.returns-in-None
returns-in-None c = usage_none c.args.list.now c.in-None.ensures.exact
