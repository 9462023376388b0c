use Rattle.std.specs.Prelude.{bytes_eq}
use Rattle.std.proofs.Common.{rules, tests}
use Rattle.std.proofs.lemmas.Iterator.Consumers.{YieldsList-from_first}
use Rattle.std.proofs.lemmas.Iterator.Search.{any_from_yields_List}
use Rattle.package_rules.proofs.target.lists_hardware.Goals as goal

pub returns : goal.returns
returns c = record {
  listed =
      any_from_yields_List (λ target. bytes_eq target c.args.hw_type.now) _ _ c.any.result c.any.ensures.ran
      (YieldsList-from_first (λ one. one) (λ list. list) c.args.targets.now c.iter.ensures.same)
      (λ x r q k. search (rules, tests));
}
