use Rattle.recipe_text.specs.Words.{IsOidWord}
use Rattle.recipe_text.specs.PackageRecipe.{IsSerialText}
use Rattle.recipe_text.proofs.Oids.{oid_spaceless}
use Rattle.recipe_text.proofs.WordLemmas.{pair_uncut, pair_no_first, pair_no_second, pair_some}
use Rattle.recipe_text.proofs.package_line.modules_in.Goals as goal

pub returns-in_default : goal.returns-in_default
returns-in_default c = record {
  exact = (pair_uncut IsOidWord IsSerialText oid_spaceless c.args.text.now c.in_default.ensures.exact);
}

pub returns-in_default-2 : goal.returns-in_default-2
returns-in_default-2 c = record {
  exact = (pair_no_first IsOidWord IsSerialText oid_spaceless c.args.text.now c.in-Some.oid.now c.in-Some.which.now c.in-Some.ensures.exact
      (rw c.in_default-2.is at c.in_ok-hw_type.ensures.exact));
}

pub returns-in_default-3 : goal.returns-in_default-3
returns-in_default-3 c = record {
  exact = (pair_no_second IsOidWord IsSerialText oid_spaceless c.args.text.now c.in-Some.oid.now c.in-Some.which.now c.in-Some.ensures.exact
      (rw c.in_default-3.is at c.in_ok-serial.ensures.exact));
}

pub returns : goal.returns
returns c = record {
  exact = (pair_some IsOidWord IsSerialText oid_spaceless c.args.text.now c.in-Some.oid.now c.in-Some.which.now c.in-Some.ensures.exact
      c.in-Some-2.hw_type c.in-Some-3.serial (rw c.in-Some-2.is at c.in_ok-hw_type.ensures.exact)
      (rw c.in-Some-3.is at c.in_ok-serial.ensures.exact));
}
