use Rattle.std.specs.Prelude.{not}
use Rattle.std.proofs.Common.{rules, tests, arith, inl}
use Rattle.std.proofs.lemmas.Iterator.Consumers.{YieldsList-from_first}
use Rattle.std.proofs.lemmas.Iterator.Search.{position_from_yields_List}
use Rattle.config_table.specs.Rules.{is_met}
use Rattle.dependency_check.proofs.needs.first_too_old.Goals as goal

pub position-requires-clause-fits : goal.position-requires-clause-fits
position-requires-clause-fits c = inl (rw c.iter.ensures.same (omega (arith, c.iter.ensures.few)))

pub returns : goal.returns
returns c = record {
  first =
      position_from_yields_List (λ need. not (is_met need c.args.state.now.packages)) _ _ c.position.result
      c.position.ensures.ran
      (YieldsList-from_first (λ one. one) (λ list. list) c.args.needs.now c.iter.ensures.same)
      (λ x r q k. search (rules, tests));
}
