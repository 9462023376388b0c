use Rattle.std.specs.Prelude.{bytes_eq}
use Rattle.std.proofs.Common.{rules, tests}
use Rattle.std.proofs.lemmas.Iterator.Consumers.{YieldsList-from_first}
use Rattle.std.proofs.lemmas.Iterator.Search.{any_from_yields_List}
use Rattle.package_attrs.proofs.covers.is_among.Goals as goal

pub returns : goal.returns
returns c =
    any_from_yields_List (λ one. bytes_eq one c.args.target.now) _ _ c.any.result c.any.ensures.ran
    (YieldsList-from_first (λ one. one) (λ targets. targets) c.args.listed.now c.iter.ensures.same)
    (λ x r q k. search (rules, tests))
