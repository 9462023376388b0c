use Rattle.std.proofs.Common.{rules, tests}
use Rattle.std.proofs.lemmas.Iterator.Consumers.{YieldsList-from_first}
use Rattle.std.proofs.lemmas.Iterator.Search.{all_from_yields_List}
use Rattle.explain_text.specs.Keys.{is_key}
use Rattle.explain_text.proofs.hardware.lists_each.Goals as goal

pub returns : goal.returns
returns c =
    all_from_yields_List (λ id. is_key c.args.keys.now id c.args.place) _ _ c.all.result c.all.ensures.ran
    (YieldsList-from_first (λ one. one) (λ targets. targets) c.args.types.now c.iter.ensures.same)
    (λ x r q k. search (rules, tests))
