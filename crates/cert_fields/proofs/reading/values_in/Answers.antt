use Rattle.std.proofs.lemmas.Option.{none-some}
use Rattle.cert_fields.proofs.ExtensionLaws.{values_are, no_values}
use Rattle.cert_fields.proofs.reading.values_in.Goals as goal

pub returns : goal.returns
returns c =
    values_are c.args.list.now c.in_ok-subject_key_in.field-0 c.in_ok-authority_key_in.field-0 c.in_ok-ca_in.field-0
    c.in_ok-usage_in.field-0 c.args.constraints c.in_ok-subject_key_in.ensures c.in_ok-authority_key_in.ensures
    c.in_ok-ca_in.ensures c.in_ok-usage_in.ensures

pub returns-in_err-authority_key_in : goal.returns-in_err-authority_key_in
returns-in_err-authority_key_in c =
    rw c.from_residual-in_err-authority_key_in.ensures (no_values c.args.list.now c.args.constraints
    (λ e h. none-some e.authority_key ((c.in_err-authority_key_in.ensures e.authority_key).1 h.authority_key)))

pub returns-in_err-usage_in : goal.returns-in_err-usage_in
returns-in_err-usage_in c =
    rw c.from_residual-in_err-usage_in.ensures (no_values c.args.list.now c.args.constraints
    (λ e h. none-some e.usage ((c.in_err-usage_in.ensures e.usage).1 h.usage)))
