use Rattle.explain_text.proofs.Permitted.{allowed_is_permitted, covered_is_permitted}
use Rattle.explain_text.proofs.laws.lines_tell_what_is_permitted.Goals as goal

pub returns-clause-allow : goal.returns-clause-allow
returns-clause-allow c = allowed_is_permitted

pub returns-clause-values : goal.returns-clause-values
returns-clause-values c = covered_is_permitted
