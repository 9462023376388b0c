use Rattle.recipe_text.specs.Words.{IsNumber, IsOidWord}
use Rattle.recipe_text.proofs.Oids.{oid_spaceless}
use Rattle.recipe_text.proofs.PackageWords.{preferred_some, preferred_none}
use Rattle.recipe_text.proofs.WordLemmas.{pair_uncut, pair_no_first, pair_no_second, pair_some}
use Rattle.recipe_text.proofs.package_line.preferred_in.Goals as goal

pub returns-in_default : goal.returns-in_default
returns-in_default c = record {
  exact = preferred_none c.args.text.now
      (pair_uncut IsOidWord IsNumber oid_spaceless c.args.text.now c.in_default.ensures.exact);
}

pub returns-in_default-2 : goal.returns-in_default-2
returns-in_default-2 c = record {
  exact = preferred_none c.args.text.now
      (pair_no_first IsOidWord IsNumber oid_spaceless c.args.text.now c.in-Some.oid.now c.in-Some.number.now
      c.in-Some.ensures.exact (rw c.in_default-2.is at c.in_ok-id.ensures.exact));
}

pub returns-in_default-read_decimal_u128 : goal.returns-in_default-read_decimal_u128
returns-in_default-read_decimal_u128 c = record {
  exact = preferred_none c.args.text.now
      (pair_no_second IsOidWord IsNumber oid_spaceless c.args.text.now c.in-Some.oid.now c.in-Some.number.now
      c.in-Some.ensures.exact c.in_default-read_decimal_u128.ensures.spelled);
}

pub returns : goal.returns
returns c = record {
  exact = preferred_some c.args.text.now (c.in-Some-2.id, c.in-Some-read_decimal_u128.version)
      (pair_some IsOidWord IsNumber oid_spaceless c.args.text.now c.in-Some.oid.now c.in-Some.number.now
      c.in-Some.ensures.exact c.in-Some-2.id c.in-Some-read_decimal_u128.version (rw c.in-Some-2.is at c.in_ok-id.ensures.exact)
      c.in-Some-read_decimal_u128.ensures.spelled);
}
