use Rattle.std.proofs.Common.{inl, inr, subst}
use Rattle.judge_core.specs.Granted.{Grants, IsTold}
use Rattle.fwload_top.proofs.explain.front_of.Goals as goal

pub returns-in_ok-path_lines-in-Some : goal.returns-in_ok-path_lines-in-Some
returns-in_ok-path_lines-in-Some c = record {
  front = inl (
    c.in-Some.told,
    subst (IsTold (Grants c.args.owner.now c.args.item.now)) c.in-Some.is c.in_ok-told.ensures.told,
    c.in_ok-path_lines-in-Some.ensures.lines,
  );
}

pub returns-in-None : goal.returns-in-None
returns-in-None c = record {
  front = inr (
    subst (IsTold (Grants c.args.owner.now c.args.item.now)) c.in-None.is c.in_ok-told.ensures.told,
    c.new.ensures.items,
  );
}
