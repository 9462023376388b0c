use Rattle.recipe_text.proofs.Oids.{front_cut, front_whole}
use Rattle.recipe_text.proofs.oid_word.front_in.Goals as goal

pub returns-in-Some : goal.returns-in-Some
returns-in-Some c = record {
  front = front_cut c.args.text.now c.in-Some.front.now c.in-Some.rest.now c.in-Some.ensures.exact;
}

pub returns-in-None : goal.returns-in-None
returns-in-None c = record { front = front_whole c.args.text.now c.in-None.ensures.exact }
