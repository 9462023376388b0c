use Rattle.package_rules.specs.Communities.{names_serial}
use Rattle.std.proofs.Common.{rules, tests}
use Rattle.std.proofs.lemmas.Iterator.Consumers.{YieldsList-from_first}
use Rattle.std.proofs.lemmas.Iterator.Search.{any_from_yields_List}
use Rattle.package_rules.proofs.target.is_named.Goals as goal

pub returns : goal.returns
returns c = record {
  named =
      any_from_yields_List (names_serial c.args.serial.now) _ _ c.any.result c.any.ensures.ran
      (YieldsList-from_first (λ one. one) (λ list. list) c.args.entries.now c.iter.ensures.same)
      (λ x r q k. search (rules, tests));
}
