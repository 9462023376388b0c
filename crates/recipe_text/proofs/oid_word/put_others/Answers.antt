use Rattle.std.proofs.Common.{ap, option_map, refl}
use Rattle.recipe_text.specs.OidReading.{tail_text}
use Rattle.recipe_text.proofs.Oids.{behind_on, behind_bad}
use Rattle.recipe_text.proofs.oid_word.put_others.Goals as goal

pub returns-in_default-read_decimal_u128 : goal.returns-in_default-read_decimal_u128
returns-in_default-read_decimal_u128 c = record {
  spelled = behind_bad _ _ c.in-Some.text.now c.front_in.result.0.now c.args.out.now.items c.loop-rest.out.items
      c.loop-rest.out.items _ (ap (λ o. tail_text (option_map (λ r. r.now) o)) c.in-Some.is) c.loop-rest.invariant
      c.front_in.ensures.front c.in_default-read_decimal_u128.ensures.spelled;
}

pub loop-rest-preserved : goal.loop-rest-preserved
loop-rest-preserved c =
    behind_on _ _ c.in-Some.text.now c.front_in.result.0.now c.args.out.now.items c.loop-rest.out.items
    c.put_subidentifier.new.out.items _ c.in-Some-read_decimal_u128.number
    (ap (λ o. tail_text (option_map (λ r. r.now) o)) c.in-Some.is) c.loop-rest.invariant c.front_in.ensures.front
    ((c.in-Some-read_decimal_u128.ensures.spelled c.in-Some-read_decimal_u128.number).0 refl) c.in_ok-put_subidentifier.ensures.ok
