use Rattle.std.proofs.Common.{arith}
use Rattle.load_claims.specs.Lives.{last_image, fresh}
use Rattle.load_claims.proofs.Living.{Ends}
use Rattle.load_claims.proofs.Below.{finds_prefix, finds_of_all, life_ends, life_exact, one_standing}
use Rattle.load_claims.proofs.laws.headline.Goals as goal

pub returns-clause-run : goal.returns-clause-run
returns-clause-run c = finds_prefix c.accepted_is_admitted.ensures

pub returns-clause-all : goal.returns-clause-all
returns-clause-all c = finds_of_all c.one_verdict_each.ensures c.accepted_is_admitted.ensures

pub returns-clause-life : goal.returns-clause-life
returns-clause-life c = λ m first rounds life.
    let e : Ends (one_standing c.each_image_has_one_holder.ensures.one) m (fresh m) (last_image first rounds) rounds = life_ends c.each_image_has_one_holder.ensures.one m first rounds life in
    (e.to, e.found, e.state, omega (arith, e.sequence), e.each, life_exact c.accepted_is_admitted.ensures m first rounds life)
