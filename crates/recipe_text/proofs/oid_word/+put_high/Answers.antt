use Rattle.recipe_text.proofs.Oids.{high_more}
use Rattle.recipe_text.proofs.oid_word.+put_high.Goals as goal

pub returns : goal.returns
returns t c = record {
  ok = high_more c.args.out.now.items c.put_high.new.out.items c.push.new.self.items c.args.number c.if-number-eq0.false
      c.in_ok-put_high.ensures.ok c.in_ok-push.ensures.items;
}
