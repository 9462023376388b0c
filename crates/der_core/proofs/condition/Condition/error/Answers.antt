use Rattle.std.proofs.Common.{◌-◌, ◌<◌, length, ap, ◌∙◌, arith}
use Rattle.std.proofs.lemmas.List.{get_or_default}
use Rattle.der_core.specs.Condition.{errors, error_of}
use Rattle.der_core.proofs.condition.Condition.error.Goals as goal

pub returns : goal.returns
returns c =
    let within : c.from.result - 1 < length errors = omega arith in
    record {
      error = get_or_default errors (c.from.result - 1) _ _ within ∙ ap error_of (c.from.ensures ∙ c.self.view_is);
    }
